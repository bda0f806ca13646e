-- A search for a literal finds its first occurrence, whose bytes are the literal's, and gives its
-- start for many lines.
use Rattle.std.proofs.Common.{◌≡◌, ℕ, Bool, ◌+◌, ◌-◌, ◌<◌, ◌≤◌, false, List, length, slice_index}
use Rattle.std.proofs.Common.{Option, Some, None, ap, sym, ◌∙◌, arith}
use Rattle.std.proofs.Math.Bool.{and-false}
use Rattle.std.proofs.lemmas.Bool.{eq-eqb}
use Rattle.std.proofs.lemmas.List.Folds.{list_any_at}
use Rattle.std.specs.Option.{option_map}
use Rattle.std.specs.Prelude.{◌==◌, IfSome, nat_lt, if◌then◌else◌}
use Rattle.memchr.specs.Find.{OccursAt, FindsNeedle}
use Rattle.grep_matcher.specs.declared.line_match_kind.LineMatchKind.{LineMatchKind}
use Rattle.grep_matcher.specs.declared.line_match_kind.LineMatchKind.TheVariants.{Confirmed}
use Rattle.grep_matcher.specs.declared.line_match_kind.LineMatchKind.TheVariants.{Candidate}
use Rattle.grep_matcher.specs.LiteralFirstMatches.{match-found, match-none}
use Rattle.grep_matcher.specs.Literals.{literal_candidate, literal_match, lacks}

-- a position of which it is sure or not that its line matches
abbrev kind : Bool → ℕ → LineMatchKind
kind sure position = if sure then Confirmed position else Candidate position

module _ (hay literal : List ℕ) where
  pub candidate-found : (start : ℕ) (sure : Bool) → lacks literal 13 ≡ sure
      → FindsNeedle hay literal 0 (Some start)
      → Some (kind sure start) ≡ literal_candidate literal hay
  candidate-found start sure same found = ap (λ s. Some (kind s start)) (sym same)
      ∙ ap (option_map (λ m. kind (lacks literal 13) m.0)) (match-found hay literal start found)

  -- where the first match starts
  pub start-is : (found : Option ℕ) → FindsNeedle hay literal 0 found
      → option_map (λ start. (start, start + length literal)) found ≡ literal_match literal hay
  start-is None none = match-none hay literal none
  start-is (Some start) found = match-found hay literal start found

  pub start-within : (found : Option ℕ) → FindsNeedle hay literal 0 found
      → IfSome found (λ start. start + length literal ≤ length hay)
  start-within None none = tt
  start-within (Some start) found = found.1.fits

  pub candidate-none : FindsNeedle hay literal 0 None → None ≡ literal_candidate literal hay
  candidate-none none = ap (option_map (λ m. kind (lacks literal 13) m.0))
      (match-none hay literal none)

  pub match-avoids : (start : ℕ) → OccursAt hay literal start → (i : ℕ) → start ≤ i → i < start
      + length literal → lacks literal (slice_index hay i) ≡ false
  match-avoids start occurs i low high =
      let sum : start + (i - start) ≡ i = omega arith in
      let same : slice_index literal (i - start) ≡ slice_index hay i =
      sym (occurs.reads (i - start) (omega arith)) ∙ ap (slice_index hay) sum in
      let there = list_any_at (λ b. b == slice_index hay i) literal (i - start) 0 (omega arith)
      (eq-eqb _ _ same) in
      rw there (and-false (nat_lt (slice_index hay i) 256))
