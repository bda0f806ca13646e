use Rattle.std.proofs.Common.{◌≡◌, false, All, take}
use Rattle.grep_matcher.specs.ByteSets.{holds}
use Rattle.grep_regex.proofs.classes.is_in_any.Given as goal

abbrev pub invariant-loop-i : goal.invariant-loop-i
invariant-loop-i l = All (λ set. holds set l.byte ≡ false) (take l.i l.sets)
