use Rattle.std.proofs.Common.{◌≡◌, length, drop}
use Rattle.linegrep_files.specs.Folders.{without_slashes}
use Rattle.linegrep_files.proofs.finder.Finder.below.Given as goal

abbrev pub invariant-loop-below : goal.invariant-loop-below
invariant-loop-below g l = without_slashes l.below ≡ without_slashes (drop l.self.root l.folder)

abbrev pub decreases-loop-below : goal.decreases-loop-below
decreases-loop-below g l = length l.below
