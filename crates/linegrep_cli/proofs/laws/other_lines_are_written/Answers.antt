use Rattle.linegrep_cli.proofs.LineLawLemmas.{each-other}
use Rattle.linegrep_cli.proofs.laws.other_lines_are_written.Goals as goal

pub returns : goal.returns
returns g c = λ regex. (
  each-other _ _ _ _ regex,
  each-other _ _ _ _ regex,
)
