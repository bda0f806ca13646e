use Rattle.grep_decode.proofs.SpellsLemmas.{Spells-scalars_of, scalars_of-Spells}
use Rattle.grep_decode.proofs.laws.utf16_is_determined.Goals as goal

pub returns-clause-allowed : goal.returns-clause-allowed
returns-clause-allowed c = Spells-scalars_of

pub returns-clause-only : goal.returns-clause-only
returns-clause-only c = scalars_of-Spells
