use Rattle.grep_ignore.proofs.ByteLemmas.{rule-started}
use Rattle.grep_ignore.proofs.line.read_rule.Goals as goal

pub new-requires : goal.new-requires
new-requires c =
    let (spelled, are, of) = c.in-Ok-add_pieces.ensures.ok in
    rule-started c.split_rule-parts.result.is_anchored c.args.ignores_case c.split_rule-parts.result.glob.now
    c.in-Ok-head_of.head.items c.in-Ok.pieces.items c.add_pieces.new.pieces.items spelled
    c.in-Ok-add_pieces.tail.items c.in-Ok.ensures are c.in-Ok-head_of.ensures of
