use Rattle.std.proofs.Common.{◌≡◌, ◌≤◌, ℕ, List, ◌++◌, length}
use Rattle.linegrep_files.specs.Braces.{IsRead, bytes_of}
use Rattle.linegrep_files.specs.declared.braces.TheConstants.{MOST_TEXTS}
use Rattle.linegrep_files.proofs.braces.texts_of.Given as goal

abbrev pub invariant-loop-rest : goal.invariant-loop-rest
invariant-loop-rest l = (done : List ℕ) × (l.glob ≡ done ++ l.rest)
    × IsRead l.texts.braces.items (bytes_of l.texts.texts.items) done
    × (length (bytes_of l.texts.texts.items) ≤ MOST_TEXTS)

abbrev pub decreases-loop-rest : goal.decreases-loop-rest
decreases-loop-rest l = length l.rest
