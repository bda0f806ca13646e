-- The number that digits say.
use Rattle.std.proofs.Common.{◌≡◌, ◌≢◌, ℕ, ◌^◌, ◌<◌, Bool, true, false, ◌&&◌, if◌then◌else◌, List, ◌∙◌}
use Rattle.std.proofs.Common.{ap, arith, get_or, inl, inr, length, nat_lt, refl, sym}
use Rattle.std.proofs.lemmas.Bool.{cases_lt, false≢true, le-ltb, lt-ltb}
use Rattle.std.proofs.lemmas.Str.Parse.{numerals_by_value, parse_plain, tells_all_ascii_digits}
use Rattle.std.proofs.lemmas.Str.Pattern.{starts_char}
use Rattle.std.specs.Prelude.{Err, MatchBool, None, Ok, Result, Some}
use Rattle.std.specs.Str.{all_ascii_digits}
use Rattle.std.specs.Str.Parse.{ParsesUnsigned, digits_value}
use Rattle.std.specs.Str.Pattern.{FindsCharPrefix, HasPrefixMatch}
use Rattle.linegrep_files.specs.Limits.{number_of}

not-all : (a b c : Bool) (number : ℕ) → ((a ≡ true) × (b ≡ true) × (c ≡ true) → ⊥)
    → None ≡ (if a && b && c then Some number else None)
not-all true true true number denied = absurd (denied (refl, refl, refl))
not-all true true false number denied = refl
not-all true false c number denied = refl
not-all false b c number denied = refl

below : (a b : ℕ) → nat_lt a b ≡ true → a < b
below a b is = elim (cases_lt a b) [ inl less ↦ less | inr more ↦ absurd (false≢true (sym (le-ltb a b more) ∙ is)) ]

-- no plus is before the digits
no-plus : (starts : Bool) (digits : List ℕ)
    → MatchBool starts (HasPrefixMatch (FindsCharPrefix 43) digits) (FindsCharPrefix 43 digits None)
    → starts ≡ false → get_or digits 0 0 ≢ 43
no-plus starts digits says none plus =
    false≢true (sym none ∙ (starts_char 43 digits starts says (omega arith) (omega arith)).1 plus)

-- what is read as a number, if no plus is before it
pub number-some : {E : Type 0} (starts : Bool) (r : Result ℕ E) (digits : List ℕ) (number : ℕ)
    → MatchBool starts (HasPrefixMatch (FindsCharPrefix 43) digits) (FindsCharPrefix 43 digits None)
    → starts ≡ false → ParsesUnsigned 64 10 digits r → r ≡ Ok number → Some number ≡ number_of digits
number-some starts r digits number says none parsed is =
    let plain = no-plus starts digits says none in
    let read = rw is at (parse_plain (numerals_by_value _ tells_all_ascii_digits) 64 digits r parsed plain) in
    rw (lt-ltb 0 (length digits) read.0.1, read.0.0, lt-ltb (digits_value 10 digits) (2 ^ 64) read.0.2) (ap Some read.1)

pub number-none : {E : Type 0} (starts : Bool) (r : Result ℕ E) (digits : List ℕ) (error : E)
    → MatchBool starts (HasPrefixMatch (FindsCharPrefix 43) digits) (FindsCharPrefix 43 digits None)
    → starts ≡ false → ParsesUnsigned 64 10 digits r → r ≡ Err error → None ≡ number_of digits
number-none starts r digits error says none parsed is =
    let plain = no-plus starts digits says none in
    let read = rw is at (parse_plain (numerals_by_value _ tells_all_ascii_digits) 64 digits r parsed plain) in
    not-all (nat_lt 0 (length digits)) (all_ascii_digits digits) (nat_lt (digits_value 10 digits) (2 ^ 64)) _
    (λ (some, are, fits). read (are, below 0 (length digits) some, below (digits_value 10 digits) (2 ^ 64) fits))
