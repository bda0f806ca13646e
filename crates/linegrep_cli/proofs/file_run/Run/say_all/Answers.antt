use Rattle.std.proofs.Common.{◌≡◌, ◌<◌, false, length, rules, true}
use Rattle.linegrep_cli.specs.OperandRuns.{last_text, next_text, no_text, says_warnings}
use Rattle.linegrep_cli.proofs.file_run.Run.say_all.Goals as goal

pub returns-then-not-says_warnings : goal.returns-then-not-says_warnings
returns-then-not-says_warnings g c =
    let unsaid : says_warnings c.args.self.now.scope.messages ≡ false = search rules in
    rw unsaid no_text

pub loop-warning-init : goal.loop-warning-init
loop-warning-init g c = no_text

pub returns-in-Err : goal.returns-in-Err
returns-in-Err g c =
    let said : says_warnings c.args.self.now.scope.messages ≡ true = search rules in
    let within : c.loop-warning.warning-index < length c.args.warnings.now = search rules in
    rw said (last_text _ _ c.in-Err.error within c.loop-warning.invariant c.in-Err.ensures)

pub loop-warning-preserved : goal.loop-warning-preserved
loop-warning-preserved g c = next_text _ c.loop-warning.invariant c.in_default.ensures
