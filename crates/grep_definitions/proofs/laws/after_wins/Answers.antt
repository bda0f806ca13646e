use Rattle.grep_definitions.proofs.PlannedLawLemmas.{after-wins}
use Rattle.grep_definitions.proofs.laws.after_wins.Goals as goal

pub returns : goal.returns
returns c = after-wins
