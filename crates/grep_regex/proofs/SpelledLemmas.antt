-- A pattern that is a literal finds where the literal first occurs.
use Rattle.std.proofs.Common.{◌≡◌, ℕ, zero, suc, ◌+◌, ◌-◌, ◌<◌, ◌≤◌, List, [], ◌∷◌}
use Rattle.std.proofs.Common.{length, drop, All, Option, Some, refl, sym, ◌∙◌, ap, arith}
use Rattle.std.proofs.Common.{⊎_elim, length-drop, false, get_or, subst, IfSome}
use Rattle.std.proofs.Math.Logic.{∥∥₁_elim}
use Rattle.std.proofs.lemmas.List.{get_or-drop, get_or_default}
use Rattle.std.specs.Coded.{coded_ℕ, coded_option, coded×}
use Rattle.std.specs.Option.{option_map}
use base.Stored.{Coded-set}
use Rattle.memchr.specs.Find.{OccursAt}
use Rattle.regex_hir.specs.Re.{literal}
use Rattle.regex_literal.specs.Find.{Nowhere, AnyOccursAt, FirstNeedleAt, needle_at}
use Rattle.regex_literal.specs.Find.{OccursAt as StandsAt}
use Rattle.regex_vm.specs.Found.{span}
use Rattle.regex_extract.specs.Exact.{IsChoiceOf}
use Rattle.regex_extract.proofs.ExactLemmas.{then_ends, ends_one_of, IsChoiceOf-from_ends}
use Rattle.regex_meta.proofs.PlansLemmas.{choice_found, choice_missing}
use Rattle.regex_syntax.proofs.SameLemmas.{same_sym, alt-fail}
use Rattle.grep_matcher.specs.FindResults.{match_from}
use Rattle.grep_matcher.specs.LiteralFirstMatches.{OccursAt-inner, found-or-none, match-found, match-none}
use Rattle.grep_matcher.specs.Literals.{literal_match}
use Rattle.grep_regex.specs.Patterns.{leftmost_match_at}
use Rattle.grep_regex.specs.Views.{program_re, regex_text_at, IsAnswer}
use Rattle.grep_regex.specs.declared.asked.Asked.{Asked}
use Rattle.grep_regex.specs.declared.regex.Regex.{Regex}
use Rattle.grep_regex.proofs.EngineLemmas.{finds-at, first-answers}
use Rattle.grep_regex.specs.Spelled.{IsSpelled}

module _ (bytes : List ℕ) where
  abbrev needles : List (List ℕ)
  needles = bytes ∷ []

  all-filled : 0 < length bytes → All (λ n. 0 < length n) needles
  all-filled filled zero d below = filled
  all-filled filled (suc k) d below = absurd (omega arith)

  is-choice : 0 < length bytes → IsChoiceOf (literal bytes) needles
  is-choice filled =
      IsChoiceOf-from_ends (literal bytes) needles
      (then_ends (same_sym (alt-fail (literal bytes))) (ends_one_of needles)) (all-filled filled)

  only-one : (hay : List ℕ) (k n : ℕ) → n < 1 → StandsAt hay (needle_at needles n) k → StandsAt hay bytes k
  only-one hay k zero below stands = stands
  only-one hay k (suc n) below stands = absurd (omega arith)

module _ (bytes hay : List ℕ) (start : ℕ) (fits : start ≤ length hay) where
  abbrev rest : List ℕ
  rest = drop start hay

  rest-occurs : OccursAt hay rest start
  rest-occurs = record {
    fits = omega (arith, length-drop start hay);
    reads = λ j below. sym (get_or-drop start hay j 0);
  }

  -- it occurs in the rest where it occurs from the position on
  nowhere : (k : ℕ) → ((j : ℕ) → j < k → OccursAt rest bytes j → ⊥)
      → Nowhere (AnyOccursAt hay (needles bytes)) start (start + k)
  nowhere k none j low high any =
      let stands = only-one bytes hay j any.0 any.1 any.2 in
      none (j - start) (omega arith) (OccursAt-inner hay rest bytes start j rest-occurs
      (record { fits = stands.fits; reads = stands.reads }) low (omega (arith, stands.fits, length-drop start hay)))

  is-first : (k : ℕ) → OccursAt rest bytes k → FirstNeedleAt hay (needles bytes) (start + k) 0
  is-first k occurs = record {
    within = omega arith;
    occurs = record {
      fits = omega (arith, occurs.fits, length-drop start hay);
      reads = λ j below.
          let sum : start + k + j ≡ start + (k + j) = omega arith in
          rw sum (sym (get_or-drop start hay (k + j) 0) ∙ occurs.reads j below);
    };
    earliest = λ m below. absurd (omega arith);
  }

  spelled-at : 0 < length bytes → All (λ x. x < 256) hay
      → leftmost_match_at (literal bytes) hay start ≡ match_from start (literal_match bytes rest)
  spelled-at filled are-bytes = ⊎_elim
      (λ none.
      let missing = choice_missing (literal bytes) hay (needles bytes) are-bytes
      (is-choice bytes filled) start
      (λ j low high. nowhere (length rest + 1) (λ i below. none i (omega arith) below) j low
      (omega (arith, high, length-drop start hay))) in
      ap (option_map span) missing ∙ ap (match_from start) (match-none rest bytes none))
      (λ some.
      let k : ℕ = some.0 in
      let located = choice_found (literal bytes) hay (needles bytes) are-bytes
      (is-choice bytes filled) start (start + k) 0
      false (omega arith) (nowhere k (λ j below. some.1.0.before j (omega arith) below)) (is-first k some.1.1) in
      let sum : start + k + length bytes ≡ start + (k + length bytes) = omega arith in
      located.1 refl
      ∙ (ap (λ end. Some (start + k, end)) sum ∙ ap (match_from start) (match-found rest bytes k some.1)))
      (found-or-none rest bytes)

pub is-spelled : (bytes : List ℕ) → 0 < length bytes → IsSpelled (literal bytes) bytes
is-spelled bytes filled = record { at = λ hay start are-bytes fits. spelled-at bytes hay start fits filled are-bytes }

-- an expression whose program is a literal finds where it first occurs
pub literal-first : (r : Regex) (kept : Option (List ℕ)) (bytes hay : List ℕ) (start : ℕ)
    → ∥ IfSome kept (IsSpelled (program_re r)) ∥₁ → kept ≡ Some bytes
    → ((k : ℕ) → get_or hay k 0 < 256) → start ≤ length hay
    → match_from start (literal_match bytes (drop start hay)) ≡ regex_text_at r hay start
literal-first r kept bytes hay start spells is are-bytes fits =
    ∥∥₁_elim spells (Coded-set (coded_option (coded× coded_ℕ coded_ℕ)) _ _)
    (λ s.
    let spelled : IsSpelled (program_re r) bytes = subst (λ k. IfSome k (IsSpelled (program_re r))) is s in
    sym (spelled.at hay start (λ k d inside. rw (get_or_default hay k d 0 inside) (are-bytes k)) fits)
    ∙ finds-at r hay start are-bytes fits)

pub literal-answers : (r : Regex) (kept : Option (List ℕ)) (bytes hay : List ℕ) (start : ℕ) (asked : Asked)
    (found : Option (ℕ × ℕ)) → ∥ IfSome kept (IsSpelled (program_re r)) ∥₁ → kept ≡ Some bytes
    → ((k : ℕ) → get_or hay k 0 < 256) → start ≤ length hay
    → found ≡ match_from start (literal_match bytes (drop start hay))
    → IsAnswer asked (regex_text_at r hay start) found
literal-answers r kept bytes hay start asked found spells is are-bytes fits same =
    first-answers asked (regex_text_at r hay start) found
    (same ∙ literal-first r kept bytes hay start spells is are-bytes fits)
