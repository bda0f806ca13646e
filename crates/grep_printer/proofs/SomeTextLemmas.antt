-- Whether there is any text, in texts that are written one after another.
use Rattle.std.proofs.Common.{◌≡◌, ◌∙◌, ℕ, List, [], ◌∷◌, ◌++◌, Bool, true, false, ap, arith, length, refl, sym}
use Rattle.std.proofs.lemmas.Bool.{ne_eqb}
use Rattle.std.specs.Prelude.{◌||◌, not}
use Rattle.grep_printer.specs.Formats.{is_text}

pub text-some : (byte : ℕ) (text : List ℕ) → is_text (byte ∷ text) ≡ true
text-some byte text = ap not (ne_eqb (length (byte ∷ text)) 0 (λ e. omega arith))

-- a text before another one that has a byte, or before a byte
pub text-after : (first later : List ℕ) → is_text later ≡ true → is_text (first ++ later) ≡ true
text-after [] later some = some
text-after (x ∷ first) later some = text-some x (first ++ later)

pub text-ended : (first : List ℕ) (byte : ℕ) → is_text (first ++ byte ∷ []) ≡ true
text-ended first byte = text-after first (byte ∷ []) (text-some byte [])

-- a text after what was written before
pub text-more : (before : Bool) (first later : List ℕ)
    → ((before || is_text first) || is_text later) ≡ (before || is_text (first ++ later))
text-more true first later = refl
text-more false [] later = refl
text-more false (x ∷ first) later = ap (λ b. b || is_text later) (text-some x first)
    ∙ sym (text-some x (first ++ later))

pub text-none : (before : Bool) → before ≡ (before || is_text [])
text-none true = refl
text-none false = refl
