use Rattle.linegrep_cli.specs.OperandRuns.{of_failure}
use Rattle.linegrep_cli.proofs.file_run.Run.search_operands.Goals as goal

pub returns-in-Some : goal.returns-in-Some
returns-in-Some g c = record {
  total = c.visit_operands-total.result;
  mid = c.visit_operands-total.new.engine;
  visited = c.visit_operands-total.ensures;
  ended = of_failure c.in-Some.error c.in-Some.is c.fail.ensures;
}
