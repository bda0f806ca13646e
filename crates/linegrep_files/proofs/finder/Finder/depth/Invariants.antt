use Rattle.std.proofs.Common.{◌≡◌, ◌≤◌, ◌+◌, length, drop}
use Rattle.linegrep_files.specs.Paths.{parts_of}
use Rattle.linegrep_files.proofs.finder.Finder.depth.Given as goal

abbrev pub invariant-loop-rest : goal.invariant-loop-rest
invariant-loop-rest g l = record {
  within : l.depth + length l.rest ≤ length l.folder;
  count : l.depth + length (parts_of 47 l.rest) ≡ length (parts_of 47 (drop l.self.root l.folder));
}

abbrev pub decreases-loop-rest : goal.decreases-loop-rest
decreases-loop-rest g l = length l.rest
