use Rattle.linegrep_cli.proofs.LineLawLemmas.{each-numbered}
use Rattle.linegrep_cli.proofs.laws.numbered_lines_are_written.Goals as goal

pub returns : goal.returns
returns g c = λ regex. (
  each-numbered _ _ _ _ regex,
  each-numbered _ _ _ _ regex,
)
