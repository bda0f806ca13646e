use Rattle.linegrep_files.proofs.PieceLemmas.{text-started}
use Rattle.linegrep_files.proofs.glob.read_text.Goals as goal

pub new-requires : goal.new-requires
new-requires c =
    let (spelled, are, of) = c.in_ok-tail.ensures.ok in
    text-started c.args.is_of_names c.args.ignores_case c.args.text.now c.in-Ok-head_of.head.items
    c.in-Ok.pieces.items c.add_pieces.new.pieces.items spelled c.in_ok-tail.tail.items c.in-Ok.ensures are
    c.in-Ok-head_of.ensures of
