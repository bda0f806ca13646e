use Rattle.std.proofs.Common.{◌≡◌, false, rules}
use Rattle.std.specs.Prelude.{None}
use Rattle.linegrep_cli.specs.OperandRuns.{no_text}
use Rattle.linegrep_cli.proofs.file_run.Run.explain.Goals as goal

pub returns-then-not-self-clause-told : goal.returns-then-not-self-clause-told
returns-then-not-self-clause-told g c =
    let unasked : c.args.self.now.scope.explains ≡ false = search rules in
    (None, rw unasked no_text, c.none.ensures)
