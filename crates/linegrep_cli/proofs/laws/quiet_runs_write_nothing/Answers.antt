use Rattle.linegrep_cli.proofs.LineLawLemmas.{each-quiet}
use Rattle.linegrep_cli.proofs.laws.quiet_runs_write_nothing.Goals as goal

pub returns : goal.returns
returns g c = λ regex. (
  each-quiet _ _ _ _ regex,
  each-quiet _ _ _ _ regex,
)
