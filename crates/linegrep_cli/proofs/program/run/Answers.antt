use Rattle.linegrep_cli.proofs.RunTextLemmas.{as-asked}
use Rattle.linegrep_cli.proofs.program.run.Goals as goal

pub returns-clause-written : goal.returns-clause-written
returns-clause-written g c = as-asked _ _ _ _ _ _ _ _ _ _ g.met.W.Output.grows c.run_arguments.ensures
