use Rattle.linegrep_cli.proofs.LineLawLemmas.{each-match}
use Rattle.linegrep_cli.proofs.laws.matches_are_written.Goals as goal

pub returns : goal.returns
returns g c = λ regex. (
  each-match _ _ _ _ regex,
  each-match _ _ _ _ regex,
)
