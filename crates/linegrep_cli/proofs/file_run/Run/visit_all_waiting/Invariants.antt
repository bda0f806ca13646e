use Rattle.std.proofs.Common.{◌≡◌, false, take}
use Rattle.linegrep_cli.specs.OperandRuns.{AreWaitingVisited, is_over}
use Rattle.linegrep_cli.proofs.file_run.Run.visit_all_waiting.Given as goal

abbrev pub invariant-loop-waiting : goal.invariant-loop-waiting
invariant-loop-waiting g l = record {
  visited : AreWaitingVisited (g.S.Open.opens l.self.system.now) (g.S.System.identifies l.self.system.now)
      g.E.Engine.step g.E.Engine.has_failed l.self.scope l.fn.engine (take l.waiting-index l.sorted) l.total
      l.engine;
  goes_on : is_over l.self.scope l.total ≡ false;
}
