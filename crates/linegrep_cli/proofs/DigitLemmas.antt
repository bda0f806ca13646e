-- Numbers of 8 bits that digits say.
use Rattle.std.proofs.Common.{◌≡◌, ◌≢◌, inl, inr, ℕ, true, List, [], ◌∷◌, Option, None, Some}
use Rattle.std.proofs.Common.{Result, Ok, Err, ap, refl, sym}
use Rattle.std.proofs.lemmas.Bool.{and_from, and_parts, cases_Bool, eqb-true, false_from_ne_true, lt-ltb, ltb-true}
use Rattle.std.specs.Prelude.{nat_lt, ◌&&◌, ◌==◌, length, option_map, MatchOption}
use Rattle.std.specs.Borrow.{Bor}
use Rattle.std.specs.Char.{digit_value}
use Rattle.std.specs.List.{list_all}
use Rattle.std.specs.Result.{result_ok}
use Rattle.std.specs.Str.Parse.{AllDigits, ParsesUnsigned, digits_value, without_leading_plus}
use Rattle.linegrep_cli.specs.ColorLooks.{after_mark, are_digits, byte_in}

all-is : (radix : ℕ) (digits : List ℕ) → AllDigits radix digits
    → list_all (λ digit. nat_lt (digit_value digit) radix) digits ≡ true
all-is radix [] all = refl
all-is radix (digit ∷ later) (first, others) =
    and_from _ _ (lt-ltb _ _ first) (all-is radix later others)

is-all : (radix : ℕ) (digits : List ℕ)
    → list_all (λ digit. nat_lt (digit_value digit) radix) digits ≡ true → AllDigits radix digits
is-all radix [] is = tt
is-all radix (digit ∷ later) is =
    let (first, others) = and_parts _ _ is in (ltb-true _ _ first, is-all radix later others)

-- what parsing a number of 8 bits gives
pub parsed : {E : Type 0} (radix : ℕ) (text : List ℕ) (result : Result ℕ E)
    → ParsesUnsigned 8 radix text result → result_ok result ≡ byte_in radix text
parsed radix text (Ok value) (((some, all), small), is) =
    let digits = without_leading_plus text in
    let are = and_from _ _ (lt-ltb 0 (length digits) some) (all-is radix digits all) in
    let whole = and_from (are_digits radix digits) (nat_lt (digits_value radix digits) 256) are
    (lt-ltb (digits_value radix digits) 256 small) in
    rw (whole, is) refl
parsed radix text (Err error) fails =
    let digits = without_leading_plus text in
    let isnt = false_from_ne_true (are_digits radix digits && nat_lt (digits_value radix digits) 256)
    (λ whole. let (are, small) = and_parts _ _ whole in let (some, all) = and_parts _ _ are in
    fails ((ltb-true 0 (length digits) some, is-all radix digits all), ltb-true _ 256 small)) in
    rw isnt refl

-- bytes without the mark of hexadecimal digits
pub mark-first : (text : List ℕ) → ((later : List ℕ) → text ≢ 48 ∷ later) → after_mark text ≡ None
mark-first [] other = refl
mark-first (first ∷ []) other = refl
mark-first (first ∷ mark ∷ digits) other = elim (cases_Bool (first == 48)) [
  | inl is ↦ absurd (other (mark ∷ digits) (ap (λ byte. byte ∷ mark ∷ digits) (eqb-true first 48 is)))
  | inr is ↦ rw is refl
]

pub mark-second : (text : List ℕ) → ((later : List ℕ) → text ≢ 120 ∷ later)
    → after_mark (48 ∷ text) ≡ None
mark-second [] other = refl
mark-second (mark ∷ digits) other = elim (cases_Bool (mark == 120)) [
  | inl is ↦ absurd (other digits (ap (λ byte. byte ∷ digits) (eqb-true mark 120 is)))
  | inr is ↦ rw is refl
]

-- what is after the mark, once the first byte of it is taken off
pub mark-both : (text : List ℕ) (rest : Option (Bor (List ℕ)))
    → MatchOption rest ((later : List ℕ) → text ≢ 120 ∷ later) (λ rest. text ≡ 120 ∷ rest.now)
    → option_map (λ rest. rest.now) rest ≡ after_mark (48 ∷ text)
mark-both text None other = sym (mark-second text other)
mark-both text (Some rest) is = rw is refl
