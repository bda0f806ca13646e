use Rattle.std.proofs.Common.{◌≡◌, false, take}
use Rattle.std.specs.List.{list_any}
use Rattle.std.specs.Str.{str_eq_ignore_ascii_case}
use Rattle.grep_decode.proofs.label.is_one_of.Given as goal

abbrev pub invariant-loop-spelling : goal.invariant-loop-spelling
invariant-loop-spelling l =
    list_any (λ s. str_eq_ignore_ascii_case s.now l.name) (take l.spelling-index l.spellings)
    ≡ false
