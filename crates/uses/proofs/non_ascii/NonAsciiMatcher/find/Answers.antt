use Rattle.std.proofs.Common.{ap}
use Rattle.std.specs.Option.{option_map}
use Rattle.grep_searcher.specs.FirstByteMatches.{one_byte}
use Rattle.uses.proofs.non_ascii.NonAsciiMatcher.find.Goals as goal

pub returns-in-Some-clause-value : goal.returns-in-Some-clause-value
returns-in-Some-clause-value c = rw c.new.ensures (ap (option_map one_byte) c.in-Some.ensures.value)

pub returns-in-None-clause-value : goal.returns-in-None-clause-value
returns-in-None-clause-value c = ap (option_map one_byte) c.in-None.ensures.value
