use Rattle.linegrep_cli.proofs.LineLawLemmas.{each-counted}
use Rattle.linegrep_cli.proofs.laws.matching_lines_are_counted.Goals as goal

pub returns : goal.returns
returns g c = λ regex. (
  each-counted _ _ _ _ regex,
  each-counted _ _ _ _ regex,
)
