use Rattle.linegrep_cli.specs.OperandRuns.{of_searched, of_unsearched}
use Rattle.linegrep_cli.proofs.file_run.Run.visit_waiting.Goals as goal

pub returns-in-File : goal.returns-in-File
returns-in-File g c = of_unsearched c.in-File.quits _ c.in-File.is c.as_str-path.ensures.value c.if-self.true
    c.list.ensures

pub returns-in-File-2 : goal.returns-in-File-2
returns-in-File-2 g c = of_searched c.in-File-2.quits _ c.in-File-2.is c.as_str-path.ensures.value c.if-self.false
    c.set_quits.ensures c.visit_path-visit.ensures c.set_quits-in-File-2.ensures
