use Rattle.std.proofs.Common.{refl}
use Rattle.std.proofs.lemmas.Simd.{get_or-replicate}
use Rattle.grep_regex.proofs.lanes.none_set.Goals as goal

pub returns : goal.returns
returns c = record { long = refl; each = λ k l. get_or-replicate 32 k 0 0 l }
