-- The first bytes of a line that is too long.
use Rattle.std.proofs.Common.{◌≡◌, ◌∙◌, ℕ, zero, suc, ◌≤◌, List, [], ◌∷◌, ap, arith, refl, sym}
use Rattle.std.proofs.Common.{ap₂, subst}
use Rattle.std.proofs.lemmas.List.Elements.{All-head, All-tail}
use Rattle.std.specs.Prelude.{All, take}
use Rattle.bstr.proofs.lemmas.SpanLemmas.{IsWithin}
use Rattle.bstr.specs.Unicode.{Span}
use Rattle.grep_printer.specs.LineTexts.{end_of}

-- of the first spans of some bytes some are passed, the last of them with an end, and so many of these are left
pub record IsPassing (whole size end left : ℕ) (spans : List Span) : Type 0 where
  pub is : end_of end (take left spans) ≡ whole
  pub within : end ≤ size
  pub later : All (IsWithin size) spans

-- none is passed yet
pub passing-none : (size left : ℕ) (spans : List Span) → All (IsWithin size) spans
    → IsPassing (end_of 0 (take left spans)) size 0 left spans
passing-none size left spans within = record { is = refl; within = omega arith; later = within }

-- one more is passed
pub passing-more : (whole size end left rest next : ℕ) (spans : List Span) (span : Span) (later : List Span)
    → IsPassing whole size end left spans → left ≡ suc rest → spans ≡ span ∷ later → next ≡ span.1
    → IsPassing whole size next rest later
passing-more whole size end left rest next spans span later passing more is to =
    let within : All (IsWithin size) (span ∷ later) = subst (All (IsWithin size)) is passing.later in
    let here : IsWithin size span = All-head (IsWithin size) span later within in
    record {
      is = ap (λ n. end_of n (take rest later)) to
          ∙ (sym (ap₂ (λ n ss. end_of end (take n ss)) more is) ∙ passing.is);
      within = omega (arith, here.1, to);
      later = All-tail (IsWithin size) span later within;
    }

take-none : (left : ℕ) → take left (let none : List Span = [] in none) ≡ []
take-none zero = refl
take-none (suc left) = refl

-- all are passed where none is left, or no more are to be
pub passing-all : (whole size end left : ℕ) (spans : List Span) → IsPassing whole size end left spans → spans ≡ []
    → end ≡ whole
passing-all whole size end left spans passing none =
    sym (ap (λ ss. end_of end ss) (ap (take left) none ∙ take-none left)) ∙ passing.is

pub passing-enough : (whole size end left : ℕ) (spans : List Span) → IsPassing whole size end left spans → left ≡ 0
    → end ≡ whole
passing-enough whole size end left spans passing none =
    sym (ap (λ n. end_of end (take n spans)) none) ∙ passing.is
