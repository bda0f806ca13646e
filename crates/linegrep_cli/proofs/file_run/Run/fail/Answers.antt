use Rattle.std.proofs.Common.{◌≡◌, false, true, rules}
use Rattle.linegrep_cli.specs.OperandRuns.{of_closed, of_other}
use Rattle.linegrep_cli.proofs.file_run.Run.fail.Goals as goal

pub returns-then-not-has_failed : goal.returns-then-not-has_failed
returns-then-not-has_failed g c =
    let unfailed : c.has_failed.result ≡ false = search rules in
    let said = c.end.ensures in
    rw said.2 (of_other said.0 said.1 (λ failed. absurd (cc)))

pub returns-then-is_closed : goal.returns-then-is_closed
returns-then-is_closed g c =
    let failed : c.has_failed.result ≡ true = search rules in
    of_closed (cc) (search rules)

pub returns : goal.returns
returns g c = let said = c.end-2.ensures in rw said.2 (of_other said.0 said.1 (λ failed. search rules))
