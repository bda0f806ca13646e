use Rattle.std.proofs.Common.{◌≡◌, length}
use Rattle.linegrep_files.specs.IgnoreFiles.{marks_of}
use Rattle.linegrep_files.proofs.IgnoreFileLemmas.{either}
use Rattle.linegrep_files.proofs.ignores.Marks.read.Given as goal

abbrev pub invariant-loop-rest : goal.invariant-loop-rest
invariant-loop-rest l = either l.marks (marks_of l.rest) ≡ marks_of l.names

abbrev pub decreases-loop-rest : goal.decreases-loop-rest
decreases-loop-rest l = length l.rest
