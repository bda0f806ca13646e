-- A message in a line of its own, and the member of a match that says what it would be replaced by.
use Rattle.std.proofs.Common.{◌≡◌, ◌∙◌, ◌++◌, ◌∷◌, [], ap, append_assoc, drop, false, length, refl, sym}
use Rattle.std.proofs.Common.{take, List, Option, None, Some, ℕ}
use Rattle.std.proofs.Math.Seq.{drop-append_seam, take-append_seam}
use Rattle.json.specs.Json.{Members}
use Rattle.json.specs.Print.{print}
use Rattle.json.specs.Token.{Token}
use Rattle.json.specs.Tree.{members_tokens}
use Rattle.grep_output.specs.PendingTexts.{Adds, PendingText}
use Rattle.grep_printer.specs.JsonMessages.{with_replacement}
use Rattle.grep_printer.specs.JsonPieces.{last_tokens, replacement_tokens}
use Rattle.grep_printer.specs.Pushes.{AddsTokens}
use Rattle.grep_printer.specs.declared.json_text.JsonText.{JsonText}

-- The text of some tokens and a line feed are added to a pending text that is moved into a text of
-- JSON and back: of what is moved back the first bytes are those before the text at hand.
pub line-added : (old new : PendingText) (first last : JsonText) (start : ℕ) (tokens : List Token)
    → start ≡ length old.before → first.out.before ≡ old.before ++ old.text → first.out.tokens ≡ []
    → first.has_failed ≡ old.has_failed → AddsTokens first last tokens
    → new.before ≡ take start (last.out.before ++ print last.out.tokens)
    → (new.has_failed ≡ false → (last.has_failed ≡ false)
    × (new.text ≡ drop start (last.out.before ++ print last.out.tokens) ++ 10 ∷ []))
    → Adds old new (print tokens ++ 10 ∷ [])
line-added old new first last start tokens starts before none failed adds front back =
    let printed : List ℕ = print last.out.tokens in
    let all : last.out.before ++ printed ≡ old.before ++ (old.text ++ printed) =
    ap (λ (t : List ℕ). t ++ printed) (adds.0 ∙ before) ∙ append_assoc old.before old.text printed in
    let head = front ∙ (ap (λ n. take n (last.out.before ++ printed)) starts
    ∙ (ap (take (length old.before)) all ∙ take-append_seam old.before (old.text ++ printed))) in
    let tail = ap (λ n. drop n (last.out.before ++ printed)) starts
    ∙ (ap (drop (length old.before)) all ∙ drop-append_seam old.before (old.text ++ printed)) in (
      head,
      λ made.
          let end = back made in
          let message = adds.1 end.0 in (
            sym failed ∙ message.0,
            end.1 ∙ (ap (λ (t : List ℕ). t ++ 10 ∷ []) tail
                ∙ (append_assoc old.text printed (10 ∷ [])
                ∙ ap (λ more. old.text ++ (print more ++ 10 ∷ [])) (message.1 ∙ ap (λ more. more ++ tokens) none))),
          ),
    )

-- what a match would be replaced by comes before the other members
pub members-placed : (text : Option (List ℕ)) (later : Members)
    → members_tokens (with_replacement text later) ≡ replacement_tokens text ++ members_tokens later
members-placed None later = refl
members-placed (Some text) later = refl

-- all items of an array are pushed: none is left, and the end of the array and of the message comes after them
pub items-ended : (old now new : JsonText) (left all : List Token)
    → (now.out.before ≡ old.out.before) × (now.has_failed ≡ false
    → (old.has_failed ≡ false) × (now.out.tokens ++ left ≡ old.out.tokens ++ all))
    → left ≡ Token.end_array ∷ [] → AddsTokens now new (Token.end_array ∷ last_tokens)
    → AddsTokens old new (all ++ last_tokens)
items-ended old now new left all pushed none ended = (
  ended.0 ∙ pushed.0,
  λ made.
      let end = ended.1 made in
      let before = pushed.1 end.0 in (
        before.0,
        end.1 ∙ (sym (append_assoc now.out.tokens (Token.end_array ∷ []) last_tokens)
            ∙ (ap (λ (ts : List Token). (now.out.tokens ++ ts) ++ last_tokens) (sym none)
            ∙ (ap (λ (ts : List Token). ts ++ last_tokens) before.1
            ∙ append_assoc old.out.tokens all last_tokens))),
      ),
)
