use Rattle.std.proofs.Common.{bit_or}
use Rattle.regex_literal.proofs.lemmas.LaneLemmas.{HasLanes-splat}
use Rattle.grep_regex.proofs.lanes.either_byte.Goals as goal

pub returns : goal.returns
returns c = HasLanes-splat bit_or c.args.a c.args.byte c.fits-a.0
