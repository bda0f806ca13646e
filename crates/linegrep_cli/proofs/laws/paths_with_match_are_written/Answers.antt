use Rattle.linegrep_cli.proofs.LineLawLemmas.{each-path}
use Rattle.linegrep_cli.proofs.laws.paths_with_match_are_written.Goals as goal

pub returns : goal.returns
returns g c = λ regex. (
  each-path _ _ _ _ regex,
  each-path _ _ _ _ regex,
)
