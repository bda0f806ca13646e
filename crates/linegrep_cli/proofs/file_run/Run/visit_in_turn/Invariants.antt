use Rattle.std.proofs.Common.{◌≡◌, false, take}
use Rattle.linegrep_files.specs.Choices.{AreAlike}
use Rattle.linegrep_cli.specs.OperandRuns.{AreVisited, is_over}
use Rattle.linegrep_cli.proofs.file_run.Run.visit_in_turn.Given as goal

abbrev pub invariant-loop-path : goal.invariant-loop-path
invariant-loop-path g l = record {
  visited : AreVisited (g.S.Folders.facts l.self.system.now) (g.S.System.finds l.self.system.now)
      (g.S.Open.opens l.self.system.now) (g.S.System.identifies l.self.system.now) g.E.Engine.step
      g.E.Engine.has_failed l.self.scope l.fn.choices l.fn.engine (take l.path-index l.paths) l.total l.engine;
  goes_on : is_over l.self.scope l.total ≡ false;
  choices : AreAlike l.fn.choices l.choices;
}
