use Rattle.linegrep_cli.specs.Refusals.{of_cause_for_files, of_patterns}
use Rattle.linegrep_cli.proofs.search.prepare.Goals as goal

pub returns-in-Err-clause-refused : goal.returns-in-Err-clause-refused
returns-in-Err-clause-refused g c = λ caused. of_cause_for_files (c.in-Err.ensures.refused caused)

pub returns-clause-refused : goal.returns-clause-refused
returns-clause-refused g c = λ caused. of_patterns (c.in-Err-compile_with_template.ensures.refused caused)
