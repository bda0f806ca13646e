use Rattle.std.proofs.Common.{string_bytes}
use Rattle.linegrep_help.specs.Entries.{said_at, table_of}
use Rattle.linegrep_help.specs.Parts.{part_text}
use Rattle.linegrep_help.proofs.TextLemmas.{one-more}
use Rattle.linegrep_help.proofs.parts.push_all.Goals as goal

pub loop-place-preserved : goal.loop-place-preserved
loop-place-preserved c =
    one-more (part_text c.args.part) (said_at (table_of c.args.columns.now)) c.loop-place.place
    (string_bytes c.args.text.now) (string_bytes c.loop-place.text) (string_bytes c.push_one.new.text)
    c.loop-place.invariant (rw c.entry.ensures at c.in_ok-push_one.ensures)
