use Rattle.linegrep_cli.proofs.LineLawLemmas.{each-first}
use Rattle.linegrep_cli.proofs.laws.first_lines_are_written.Goals as goal

pub returns : goal.returns
returns g c = λ regex. (
  each-first _ _ _ _ regex,
  each-first _ _ _ _ regex,
)
