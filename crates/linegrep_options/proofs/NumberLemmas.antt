-- The number that a text writes.
use Rattle.std.proofs.Common.{◌≡◌, ℕ, ◌^◌, true, List, [], ◌∷◌, Some}
use Rattle.std.proofs.Common.{Result, Ok, Err, refl, ap}
use Rattle.std.proofs.lemmas.Bool.{and_from, and_parts, false_from_ne_true, lt-ltb, ltb-true}
use Rattle.std.specs.Prelude.{nat_lt, ◌&&◌, length}
use Rattle.std.specs.Char.{digit_value}
use Rattle.std.specs.List.{list_all}
use Rattle.std.specs.Result.{result_ok}
use Rattle.std.specs.Str.Parse.{AllDigits, ParsesUnsigned, digits_value, without_leading_plus}
use Rattle.linegrep_options.specs.CommandLines.{number_of}

all-is : (digits : List ℕ) → AllDigits 10 digits
    → list_all (λ digit. nat_lt (digit_value digit) 10) digits ≡ true
all-is [] all = refl
all-is (digit ∷ later) (first, others) = and_from _ _ (lt-ltb _ _ first) (all-is later others)

is-all : (digits : List ℕ)
    → list_all (λ digit. nat_lt (digit_value digit) 10) digits ≡ true → AllDigits 10 digits
is-all [] is = tt
is-all (digit ∷ later) is =
    let (first, others) = and_parts _ _ is in (ltb-true _ _ first, is-all later others)

-- what parsing a number of 64 bits gives
pub parsed-number : {E : Type 0} (text : List ℕ) (result : Result ℕ E)
    → ParsesUnsigned 64 10 text result → result_ok result ≡ number_of text
parsed-number text (Ok value) (((some, all), small), is) =
    let digits = without_leading_plus text in
    let are = and_from _ _ (lt-ltb 0 (length digits) some) (all-is digits all) in
    let whole = and_from (nat_lt 0 (length digits)
    && list_all (λ digit. nat_lt (digit_value digit) 10) digits)
    (nat_lt (digits_value 10 digits) (2 ^ 64)) are
    (lt-ltb (digits_value 10 digits) (2 ^ 64) small) in
    rw whole (ap Some is)
parsed-number text (Err error) fails =
    let digits = without_leading_plus text in
    let isnt = false_from_ne_true (nat_lt 0 (length digits)
    && list_all (λ digit. nat_lt (digit_value digit) 10) digits
    && nat_lt (digits_value 10 digits) (2 ^ 64))
    (λ whole. let (are, small) = and_parts _ _ whole in let (some, all) = and_parts _ _ are in
    fails ((ltb-true 0 (length digits) some, is-all digits all), ltb-true _ (2 ^ 64) small)) in
    rw isnt refl
