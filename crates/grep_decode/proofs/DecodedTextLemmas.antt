-- The decoded bytes of an input.
use Rattle.std.proofs.Common.{◌≡◌, ℕ, Bool, true, false, List, Option, Some, None, refl, sym}
use Rattle.std.proofs.Common.{is_some}
use Rattle.std.proofs.lemmas.Bool.{false≢true}
use Rattle.grep_decode.specs.declared.label.Label.{Label}
use Rattle.grep_decode.specs.Decoded.{by_mark, decoded, found_mark, is_unchanged}

unmarked : (found : Option Label) (input : List ℕ) → is_some found ≡ false
    → by_mark found None input ≡ input
unmarked None input none = refl
unmarked (Some mark) input none = absurd (false≢true (sym none))

is-false : (b : Bool) → (elim b as (λ _. Bool) [ true ↦ false | false ↦ true ]) ≡ true → b ≡ false
is-false true e = absurd (false≢true e)
is-false false e = refl

pub unchanged-decoded : (label : Option Label) (sniff : Bool) (input : List ℕ)
    → is_unchanged label sniff input ≡ true → decoded label sniff input ≡ input
unchanged-decoded None sniff input same =
    unmarked (found_mark None sniff input) input (is-false (is_some (found_mark None sniff input))
    same)
unchanged-decoded (Some label) sniff input same = absurd (false≢true same)
