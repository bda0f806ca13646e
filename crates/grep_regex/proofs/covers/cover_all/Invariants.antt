use Rattle.std.proofs.Common.{All, take}
use Rattle.grep_regex.specs.Covers.{AreCovered}
use Rattle.grep_regex.proofs.covers.cover_all.Given as goal

abbrev pub invariant-loop-i : goal.invariant-loop-i
invariant-loop-i l = All (λ sets. AreCovered l.cover sets.items) (take l.i l.choices)
