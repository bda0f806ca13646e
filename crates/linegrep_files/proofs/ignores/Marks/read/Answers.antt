use Rattle.std.proofs.Common.{ap, ◌∙◌}
use Rattle.linegrep_files.specs.IgnoreFiles.{marks_of}
use Rattle.linegrep_files.proofs.IgnoreFileLemmas.{either, marks-next}
use Rattle.linegrep_files.proofs.ignores.Marks.read.Goals as goal

pub loop-rest-preserved : goal.loop-rest-preserved
loop-rest-preserved c =
    ap (λ m. either m (marks_of c.split_part.result.1.now)) c.add.ensures
    ∙ marks-next c.loop-rest.marks c.loop-rest.rest.now c.split_part.result.0.now c.split_part.result.1.now
    c.split_part.ensures.split
    ∙ c.loop-rest.invariant
