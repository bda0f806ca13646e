use Rattle.std.proofs.Common.{subst}
use Rattle.linegrep_cli.specs.EngineCalls.{finishes}
use Rattle.linegrep_cli.specs.OperandRuns.{of_end, of_unwritten}
use Rattle.linegrep_cli.proofs.file_run.Run.finish.Goals as goal

pub returns-in-Ok : goal.returns-in-Ok
returns-in-Ok g c = rw c.status.ensures (of_end c.requires
    (subst (λ result. g.E.Engine.step c.args.engine.now (finishes result) c.finish.new.self) c.in-Ok.is c.finish.ensures))

pub returns-in-Err : goal.returns-in-Err
returns-in-Err g c = of_unwritten c.in-Err.error c.requires
    (subst (λ result. g.E.Engine.step c.args.engine.now (finishes result) c.finish.new.self) c.in-Err.is c.finish.ensures)
    c.fail.ensures
