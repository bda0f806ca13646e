-- What a loop has pushed to a text, whether memory was there or not.
use Rattle.std.proofs.Common.{◌≡◌, ◌∙◌, ◌++◌, ap, append_assoc, false, refl, ℕ, List}
use Rattle.json.specs.Token.{Token}
use Rattle.grep_output.specs.PendingTexts.{Adds, PendingText}
use Rattle.grep_printer.specs.Pushes.{AddsTokens}
use Rattle.grep_printer.specs.declared.json_text.JsonText.{JsonText}

-- some bytes have this property, and if memory was there, the text has them
pub record HasPushed (old now : PendingText) (Is : List ℕ → Type 0) : Type 0 where
  pub bytes : List ℕ
  pub is : Is bytes
  pub before : now.before ≡ old.before
  pub made : now.has_failed ≡ false → (old.has_failed ≡ false) × (now.text ≡ bytes)

-- nothing is pushed yet
pub pushed-none : (old : PendingText) (Is : List ℕ → Type 0) → Is old.text → HasPushed old old Is
pushed-none old Is is = record { bytes = old.text; is = is; before = refl; made = λ made. (made, refl) }

-- a push adds its own to them
pub pushed-more : (old now new : PendingText) (Is Then : List ℕ → Type 0) (more : List ℕ)
    (pushed : HasPushed old now Is) → Adds now new more → Then (pushed.bytes ++ more)
    → HasPushed old new Then
pushed-more old now new Is Then more pushed adds is = record {
  bytes = pushed.bytes ++ more;
  is = is;
  before = adds.0 ∙ pushed.before;
  made = λ made.
      let before = adds.1 made in
      let first = pushed.made before.0 in
      (first.0, before.1 ∙ ap (λ (t : List ℕ). t ++ more) first.1);
}

-- and so do two
pub pushed-two : (old now between new : PendingText) (Is Then : List ℕ → Type 0) (first second : List ℕ)
    (pushed : HasPushed old now Is) → Adds now between first → Adds between new second
    → Then ((pushed.bytes ++ first) ++ second) → HasPushed old new Then
pushed-two old now between new Is Then first second pushed one two is = record {
  bytes = (pushed.bytes ++ first) ++ second;
  is = is;
  before = two.0 ∙ (one.0 ∙ pushed.before);
  made = λ made.
      let last = two.1 made in
      let before = one.1 last.0 in
      let start = pushed.made before.0 in
      (start.0, last.1 ∙ ap (λ (t : List ℕ). t ++ second) (before.1 ∙ ap (λ (t : List ℕ). t ++ first) start.1));
}

-- what was pushed in all, if nothing is left to push
pub pushed-all : (old now : PendingText) (Is : List ℕ → Type 0) (all : List ℕ) (pushed : HasPushed old now Is)
    → pushed.bytes ≡ old.text ++ all → Adds old now all
pushed-all old now Is all pushed same =
    (pushed.before, λ made. let first = pushed.made made in (first.0, first.1 ∙ same))

-- or if one push is left
pub pushed-last : (old now new : PendingText) (Is : List ℕ → Type 0) (last all : List ℕ)
    (pushed : HasPushed old now Is) → Adds now new last → pushed.bytes ++ last ≡ old.text ++ all
    → Adds old new all
pushed-last old now new Is last all pushed adds same = (
  adds.0 ∙ pushed.before,
  λ made.
      let before = adds.1 made in
      let first = pushed.made before.0 in
      (first.0, before.1 ∙ (ap (λ (t : List ℕ). t ++ last) first.1 ∙ same)),
)

-- two pushes in turn
pub adds-two : (old between new : PendingText) (first second : List ℕ) → Adds old between first
    → Adds between new second → Adds old new (first ++ second)
adds-two old between new first second one two = (
  two.0 ∙ one.0,
  λ made.
      let last = two.1 made in
      let before = one.1 last.0 in
      (before.0, last.1 ∙ (ap (λ (t : List ℕ). t ++ second) before.1 ∙ append_assoc old.text first second)),
)

-- two pushes of tokens in turn
pub tokens-two : (old between new : JsonText) (first second : List Token)
    → AddsTokens old between first → AddsTokens between new second → AddsTokens old new (first ++ second)
tokens-two old between new first second one two = (
  two.0 ∙ one.0,
  λ made.
      let last = two.1 made in
      let before = one.1 last.0 in (
        before.0,
        last.1 ∙ (ap (λ (t : List Token). t ++ second) before.1
            ∙ append_assoc old.out.tokens first second),
      ),
)
