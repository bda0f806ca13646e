use Rattle.std.proofs.Common.{Ok, subst}
use Rattle.linegrep_cli.specs.OperandRuns.{of_file_at, of_folder, of_missing, of_unfound}
use Rattle.linegrep_cli.proofs.file_run.Run.visit_named.Goals as goal

pub returns-in-Ok-true-clause-visited : goal.returns-in-Ok-true-clause-visited
returns-in-Ok-true-clause-visited g c = of_folder
    (subst (λ found. g.S.System.finds c.args.self.now.system.now c.args.path.now (Ok found))
    c.in-Ok-true.field-0-test c.in-Ok-true.ensures) c.visit_folder.ensures.visited

pub returns-in-Ok-false-2-clause-visited : goal.returns-in-Ok-false-2-clause-visited
returns-in-Ok-false-2-clause-visited g c = of_file_at
    (subst (λ found. g.S.System.finds c.args.self.now.system.now c.args.path.now (Ok found))
    c.in-Ok-false.field-0-test c.in-Ok-false.ensures) c.if-self.false c.visit_path.ensures

pub returns-in-Err-clause-visited : goal.returns-in-Err-clause-visited
returns-in-Err-clause-visited g c = of_missing c.in-Err.error c.in-Err.ensures c.if-self-2.true c.report.ensures

pub returns-in-Err-2-clause-visited : goal.returns-in-Err-2-clause-visited
returns-in-Err-2-clause-visited g c = of_unfound c.in-Err.error c.in-Err.ensures c.if-self-2.false c.visit_path-in-Err-2.ensures
