-- Words of arguments, and other bytes, as texts.
use Rattle.std.proofs.Common.{◌≡◌, ◌∙◌, ℕ, List, [], inl, inr, refl}
use Rattle.std.proofs.lemmas.Bool.{cases_Bool}
use Rattle.std.proofs.lemmas.Str.{IsUtf8-from_is_utf8, is_utf8-from_IsUtf8}
use Rattle.std.specs.Global.{Global}
use Rattle.std.specs.Prelude.{Err, IfOk, Ok, Result, String, string_bytes}
use Rattle.std.specs.Str.{IsUtf8, is_utf8}
use Rattle.linegrep_cli.specs.HyperlinkOptions.{text_or_nothing}
use Rattle.linegrep_cli.specs.OperandTexts.{operand_text}
use Rattle.linegrep_files.specs.Words.{escaped}

-- the text of bytes that are UTF-8, and of others
pub utf8-word : {E : Type 0} (result : Result (String Global) E) (bytes text : List ℕ) → text ≡ bytes → IsUtf8 bytes
    → IfOk result (λ t. string_bytes t ≡ text) → IfOk result (λ t. string_bytes t ≡ operand_text bytes)
utf8-word (Ok t) bytes text same utf8 is = rw (is_utf8-from_IsUtf8 bytes utf8) (is ∙ same)
utf8-word (Err e) bytes text same utf8 is = tt

pub other-word : {E : Type 0} (result : Result (String Global) E) (bytes : List ℕ) → (IsUtf8 bytes → ⊥)
    → IfOk result (λ t. string_bytes t ≡ escaped bytes) → IfOk result (λ t. string_bytes t ≡ operand_text bytes)
other-word (Ok t) bytes other is = elim (cases_Bool (is_utf8 bytes)) [
  | inl utf8 ↦ absurd (other (IsUtf8-from_is_utf8 bytes utf8))
  | inr none ↦ rw none is
]
other-word (Err e) bytes other is = tt

-- bytes that are a text, and others
pub text-of-utf8 : (bytes text : List ℕ) → text ≡ bytes → IsUtf8 bytes → text ≡ text_or_nothing bytes
text-of-utf8 bytes text same utf8 = rw (is_utf8-from_IsUtf8 bytes utf8) same

pub nothing-of-others : (bytes : List ℕ) → (IsUtf8 bytes → ⊥) → [] ≡ text_or_nothing bytes
nothing-of-others bytes other = elim (cases_Bool (is_utf8 bytes)) [
  | inl utf8 ↦ absurd (other (IsUtf8-from_is_utf8 bytes utf8))
  | inr none ↦ rw none refl
]
