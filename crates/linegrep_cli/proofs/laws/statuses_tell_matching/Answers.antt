use Rattle.linegrep_cli.proofs.LineLawLemmas.{each-told}
use Rattle.linegrep_cli.proofs.laws.statuses_tell_matching.Goals as goal

pub returns : goal.returns
returns g c = λ regex. (
  each-told _ _ _ _ regex,
  each-told _ _ _ _ regex,
)
