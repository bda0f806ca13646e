use Rattle.std.proofs.Common.{length, ◌+◌, ◌-◌, ◌++◌}
use Rattle.std.specs.Io.{StartsWith}
use Rattle.grep_replace.proofs.ReplaceLemmas.{IsReplacingFrom}
use Rattle.grep_replace.specs.ReplacedBytes.{all_replaced, text_of_match}
use Rattle.grep_replace.proofs.replace.push_replaced.Given as goal

abbrev pub invariant-loop-found : goal.invariant-loop-found
invariant-loop-found g l =
    StartsWith l.text.items l.fn.text.items
    × IsReplacingFrom (text_of_match l.template (g.M.CapturesAt.groups_at l.matcher) l.bytes)
    (g.M.FindAt.first_at l.matcher l.bytes) l.bytes
    (l.fn.text.items ++ all_replaced l.template (g.M.FindAt.first_at l.matcher) (g.M.CapturesAt.groups_at l.matcher) l.bytes)
    l.text.items l.copied l.position l.end

abbrev pub decreases-loop-found : goal.decreases-loop-found
decreases-loop-found g l = length l.bytes + 1 - l.position
