use Rattle.grep_decode.proofs.DecodedTextLemmas.{unchanged-decoded}
use Rattle.grep_decode.proofs.laws.unchanged_is_decoded.Goals as goal

pub returns : goal.returns
returns c = unchanged-decoded
