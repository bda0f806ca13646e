use Rattle.linegrep_cli.specs.OperandRuns.{of_file, of_output, of_unopened}
use Rattle.linegrep_cli.proofs.file_run.Run.visit_path.Goals as goal

pub returns-in-Ok : goal.returns-in-Ok
returns-in-Ok g c = of_output c.in-Ok.file c.in-Ok.ensures c.if-leaves_out.ensures c.report.ensures

pub returns-in-Ok-2 : goal.returns-in-Ok-2
returns-in-Ok-2 g c = of_file c.in-Ok.file c.in-Ok.ensures c.if-leaves_out.ensures c.visit_file.ensures

pub returns-in-Err : goal.returns-in-Err
returns-in-Err g c = of_unopened c.in-Err.error c.in-Err.ensures c.report-in-Err.ensures
