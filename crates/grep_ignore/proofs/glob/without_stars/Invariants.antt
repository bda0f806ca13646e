use Rattle.std.proofs.Common.{◌≡◌, ℕ, ◌++◌, length, replicate}
use Rattle.grep_ignore.proofs.glob.without_stars.Given as goal

abbrev pub invariant-loop-rest : goal.invariant-loop-rest
invariant-loop-rest l = (more : ℕ) × (l.glob ≡ replicate more 42 ++ l.rest)

abbrev pub decreases-loop-rest : goal.decreases-loop-rest
decreases-loop-rest l = length l.rest
