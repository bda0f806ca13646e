use Rattle.std.proofs.Common.{false, replicate, ⊎_elim}
use Rattle.std.proofs.lemmas.Bool.{cases_lt}
use Rattle.std.proofs.lemmas.List.{get_or-replicate, get_or_past}
use Rattle.grep_matcher.proofs.byte_set.ByteSet.empty.Goals as goal

pub returns : goal.returns
returns c byte = ⊎_elim (λ less. get_or-replicate 256 byte false false less) (λ over.
    get_or_past (replicate 256 false) byte false over) (cases_lt byte 256)
