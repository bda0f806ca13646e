use Rattle.grep_definitions.proofs.PlannedLawLemmas.{after-wins_across}
use Rattle.grep_definitions.proofs.laws.after_wins_across.Goals as goal

pub returns : goal.returns
returns c = after-wins_across
