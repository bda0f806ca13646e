use Rattle.std.proofs.Common.{◌≡◌, map, take, true}
use Rattle.grep_regex.specs.AbsentBytes.{are_filled}
use Rattle.grep_regex.proofs.absent.are_filled.Given as goal

abbrev pub invariant-loop-i : goal.invariant-loop-i
invariant-loop-i l = are_filled (map (λ p. p.now) (take l.i l.patterns)) ≡ true
