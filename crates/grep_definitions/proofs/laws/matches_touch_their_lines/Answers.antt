use Rattle.grep_matcher.specs.Lines.{byte_of}
use Rattle.grep_definitions.proofs.TouchLemmas.{is_within-some, is_within-holds, holds-is_within}
use Rattle.grep_definitions.proofs.laws.matches_touch_their_lines.Goals as goal

pub returns-clause-some : goal.returns-clause-some
returns-clause-some c = λ settings meaning bytes m i. is_within-some
    (byte_of settings.line_terminator) bytes m i

pub returns-clause-empty : goal.returns-clause-empty
returns-clause-empty c = λ settings meaning bytes position i inside here. (
  is_within-holds settings.line_terminator meaning bytes position i inside here,
  holds-is_within settings.line_terminator meaning bytes position i inside here,
)
