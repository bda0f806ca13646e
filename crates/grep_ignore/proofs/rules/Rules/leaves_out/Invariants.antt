use Rattle.std.proofs.Common.{◌≡◌, ℕ, ◌<◌, ◌≤◌, ◌-◌, List, ◌++◌, ◌∷◌, length, true}
use Rattle.grep_ignore.specs.Decisions.{IsDecided}
use Rattle.grep_ignore.specs.declared.rules.Decision.TheVariants.{Ignored}
use Rattle.grep_ignore.proofs.rules.Rules.leaves_out.Given as goal

abbrev pub invariant-loop-at : goal.invariant-loop-at
invariant-loop-at l = record {
  within : l.at ≤ length l.path;
  none : (folder rest : List ℕ) → l.path ≡ folder ++ 47 ∷ rest → length folder < l.at
      → IsDecided l.self folder true Ignored → ⊥;
}

abbrev pub decreases-loop-at : goal.decreases-loop-at
decreases-loop-at l = length l.path - l.at
