use Rattle.linegrep_files.proofs.ChoiceLemmas.{none-decides}
use Rattle.linegrep_files.proofs.ignores.Ignores.decider.Goals as goal

pub returns-then-is_empty-clause-decided : goal.returns-then-is_empty-clause-decided
returns-then-is_empty-clause-decided c = none-decides _ _ _ _ _ (c.is_empty.ensures.0 c.if-is_empty.true)
