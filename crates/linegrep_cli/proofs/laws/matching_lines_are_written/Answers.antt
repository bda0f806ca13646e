use Rattle.linegrep_cli.proofs.LineLawLemmas.{each-matching}
use Rattle.linegrep_cli.proofs.laws.matching_lines_are_written.Goals as goal

pub returns : goal.returns
returns g c = λ regex. (
  each-matching _ _ _ _ regex,
  each-matching _ _ _ _ regex,
)
