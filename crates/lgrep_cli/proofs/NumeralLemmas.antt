-- What `parse` reads of one to ten digits.
use Rattle.std.proofs.Common.{rules, arith, ◌≡◌, ◌≤◌, ℕ, ◌^◌, ◌<◌, List, length, Ok, Err, refl, ap}
use Rattle.std.specs.Prelude.{Bool, true, false, ◌&&◌, nat_lt, Result, Some, None, if◌then◌else◌}
use Rattle.std.specs.Char.{is_ascii_digit}
use Rattle.std.specs.List.{list_all}
use Rattle.std.specs.Result.{result_ok, OkIff}
use Rattle.std.specs.Str.Parse.{ParsesUnsigned, digits_value}
use Rattle.std.proofs.lemmas.Bool.{lt-ltb, le-ltb, ltb-true}
use Rattle.std.proofs.lemmas.Str.Parse.{IsNumeralModel, numerals_by_value, parse_digits}
use Rattle.lgrep_cli.specs.Numerals.{is_numeral, number_of}

numerals : IsNumeralModel (λ ds. list_all is_ascii_digit ds ≡ true) (digits_value 10)
numerals = numerals_by_value _ (search rules)

-- both parts of a conjunction
both : (a b : Bool) → (a && b) ≡ true → (a ≡ true) × (b ≡ true)
both true b h = (refl, h)
both false b h = absurd (cc)

-- a result that is a value exactly if that is below a bound
read_below : {E : Type 0} → (r : Result ℕ E) (digits : Bool) (length value bound : ℕ) → digits ≡ true → 0 < length
    → OkIff r ((0 < length) × (value < bound)) value → result_ok r
    ≡ (if digits && nat_lt value bound then Some value else None)
read_below (Ok n) digits length value bound whole some (fits, is) = let below = lt-ltb value bound fits.1 in
    rw (whole, below) (ap Some is)
read_below (Err e) digits length value bound whole some misfits =
    let below : nat_lt value bound ≡ false = le-ltb value bound (over (λ fits. misfits (some, fits))) in
    rw (whole, below) refl
  where
    over : (value < bound → ⊥) → bound ≤ value
    over h = omega (arith, h)

pub number-parsed : {E : Type 0} → (text : List ℕ) (r : Result ℕ E) → is_numeral text ≡ true
    → ParsesUnsigned 32 10 text r
    → result_ok r ≡ number_of text
number-parsed text r digits parsed =
    let parts = both _ (list_all is_ascii_digit text) digits in
    let sizes = both (nat_lt 0 (length text)) _ parts.0 in
    read_below r (is_numeral text) (length text) (digits_value 10 text) (2 ^ 32) digits
    (ltb-true 0 (length text) sizes.0)
    (parse_digits numerals 32 text r parsed parts.1)
