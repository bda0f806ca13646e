use Rattle.std.proofs.Common.{true, false, replicate, ⊎_elim, sym, ◌∙◌}
use Rattle.std.proofs.lemmas.Bool.{cases_lt, lt-ltb, le-ltb}
use Rattle.std.proofs.lemmas.List.{get_or-replicate, get_or_past}
use Rattle.grep_matcher.proofs.byte_set.ByteSet.full.Goals as goal

pub returns : goal.returns
returns c byte = ⊎_elim
    (λ less. get_or-replicate 256 byte true false less ∙ sym (lt-ltb byte 256 less))
    (λ over. get_or_past (replicate 256 true) byte false over ∙ sym (le-ltb byte 256 over))
    (cases_lt byte 256)
