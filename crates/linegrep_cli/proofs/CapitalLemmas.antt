-- The letters of a pattern that no escape is before, one after another.
use Rattle.std.proofs.Common.{◌≡◌, ℕ, Bool, true, false, List, [], ◌∷◌, refl}
use Rattle.std.specs.Prelude.{if◌then◌else◌}
use Rattle.std.specs.List.{list_any}
use Rattle.std.specs.Char.Unicode.Uppercase.{is_uppercase}
use Rattle.linegrep_cli.specs.OptionMeanings.{without_first}
use Rattle.linegrep_cli.specs.PatternOptions.{is_escape, unescaped}

-- some of the letters after an escape, or after none, is a capital one
abbrev pub has_capital_after : Bool → Bool → List ℕ → Bool
has_capital_after is_literal is_escaped letters =
    list_any is_uppercase (unescaped is_literal (if is_escaped then without_first letters else letters))

-- a letter that no escape is before
pub unescaped-first : (is_literal : Bool) (letter : ℕ) (later : List ℕ)
    → unescaped is_literal (letter ∷ later) ≡ letter ∷ unescaped is_literal
    (if is_escape is_literal letter then without_first later else later)
unfolding unescaped
unescaped-first true letter [] = refl
unescaped-first true letter (next ∷ later) = refl
unescaped-first false letter [] = elim (is_escape false letter) as (λ escapes. (letter ∷ [])
    ≡ letter ∷ unescaped false (if escapes then [] else [])) [ true ↦ refl | false ↦ refl ]
unescaped-first false letter (next ∷ later) = elim (is_escape false letter) as (λ escapes.
    (if escapes then letter ∷ unescaped false later else letter ∷ unescaped false (next ∷ later))
    ≡ letter ∷ unescaped false (if escapes then later else next ∷ later)) [ true ↦ refl | false ↦ refl ]

-- no letter is left
pub none-left : (is_literal is_escaped : Bool) → has_capital_after is_literal is_escaped [] ≡ false
unfolding unescaped
none-left is_literal true = refl
none-left is_literal false = refl

-- a capital letter
pub first-is_capital : (is_literal : Bool) (letter : ℕ) (later : List ℕ) → is_uppercase letter ≡ true
    → has_capital_after is_literal false (letter ∷ later) ≡ true
first-is_capital is_literal letter later capital = rw (unescaped-first is_literal letter later, capital) refl

-- another letter
pub past-letter : (is_literal : Bool) (letter : ℕ) (later : List ℕ) → is_uppercase letter ≡ false
    → has_capital_after is_literal false (letter ∷ later)
    ≡ has_capital_after is_literal (is_escape is_literal letter) later
past-letter is_literal letter later small = rw (unescaped-first is_literal letter later, small) refl
