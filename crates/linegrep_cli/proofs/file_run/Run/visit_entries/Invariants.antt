use Rattle.std.proofs.Common.{◌≡◌, List, false}
use Rattle.linegrep_files.specs.declared.entry.Entry.{Entry}
use Rattle.linegrep_cli.specs.OperandRuns.{AreEntriesVisited, is_over}
use Rattle.linegrep_cli.proofs.FolderLemmas.{IsAlong}
use Rattle.linegrep_cli.proofs.file_run.Run.visit_entries.Given as goal

abbrev pub invariant-loop : goal.invariant-loop
invariant-loop g l = (visited : List Entry)
    × AreEntriesVisited (g.S.Open.opens l.self.system.now) (g.S.System.identifies l.self.system.now)
    g.E.Engine.step g.E.Engine.has_failed l.self.scope l.fn.engine visited l.total l.engine
    × (is_over l.self.scope l.total ≡ false)
    × IsAlong g.S.Folders.facts l.self.system l.self.scope.route l.folder l.initial.walk l.fn.choices
    visited l.walk l.choices
