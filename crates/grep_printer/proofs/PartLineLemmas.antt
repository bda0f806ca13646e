-- The parts of a line that are written in its place: each is a line of its own.
use Rattle.std.proofs.Common.{◌≡◌, ◌∙◌, ℕ, zero, suc, ◌+◌, ◌-◌, ◌<◌, ◌≤◌, Bool, true, false, List, []}
use Rattle.std.proofs.Common.{◌∷◌, ◌++◌, Option, None, Some, ap, ap₂, arith, if◌then◌else◌, length}
use Rattle.std.proofs.Common.{refl, subst, sym}
use Rattle.std.proofs.lemmas.Bool.{and_parts}
use Rattle.std.proofs.lemmas.Bool.Decides.{nat_tests}
use Rattle.std.proofs.lemmas.List.{append-nil}
use Rattle.std.proofs.lemmas.List.Elements.{All-cons, All-head, All-nil, All-tail}
use Rattle.std.specs.List.{flat_map}
use Rattle.std.specs.Option.{IfSome, option_map, option_map_or}
use Rattle.std.specs.Prelude.{◌&&◌, ◌==◌, All, nat_le, nat_lt, not}
use Rattle.grep_matcher.specs.FindResults.{IsFrom}
use Rattle.grep_printer.proofs.PlainLineLemmas.{lines-plain, part-plain}
use Rattle.grep_printer.specs.LineTexts.{end_byte, is_plain, plain_line, plain_lines, plain_part}
use Rattle.grep_replace.specs.MatchedParts.{below, first_from, found_from, is_passed, parts_from}
use Rattle.grep_replace.specs.MatchedParts.{parts_in, position_after, with_part}
use Rattle.grep_printer.specs.PartTexts.{clipped_text, line_span, match_text}
use Rattle.grep_printer.specs.PartTexts.{writes_parts}
use Rattle.grep_printer.specs.declared.fields.Layout.{Layout}
use Rattle.grep_printer.specs.declared.fields.LineKind.TheVariants.{Match}
use Rattle.grep_searcher.specs.Lines.{lines, strip}

-- ---- where parts are

-- a part lies in so many bytes, and starts before a limit
pub record Lies (size limit : ℕ) (part : ℕ × ℕ) : Type 0 where
  pub ordered : part.0 ≤ part.1
  pub inside : part.1 ≤ size
  pub early : part.0 < limit

module _ (found : ℕ → Option (ℕ × ℕ)) (size limit : ℕ)
    (within : (position : ℕ) → position ≤ size
    → IfSome (found position) (λ m. (m.0 ≤ m.1) × (m.1 ≤ size))) where
  below-lies : (first : Option (ℕ × ℕ)) (one : ℕ × ℕ) → IfSome first (λ m. (m.0 ≤ m.1) × (m.1 ≤ size))
      → below limit first ≡ Some one → Lies size limit one
  below-lies None one lies is = absurd cc
  below-lies (Some other) one lies is = go (nat_lt other.0 limit && nat_le other.1 limit) refl is
    where
      go : (low : Bool) → (nat_lt other.0 limit && nat_le other.1 limit) ≡ low
          → (if low then Some other else None) ≡ Some one → Lies size limit one
      go true low is =
          let same : other ≡ one = cc in
          let (starts, ends) = and_parts (nat_lt other.0 limit) (nat_le other.1 limit) low in
          subst (Lies size limit) same (record {
            ordered = lies.0;
            inside = lies.1;
            early = grind (arith, nat_tests, starts);
          })
      go false low is = absurd cc

  found-lies : (position : ℕ) (one : ℕ × ℕ) → found_from found size limit position ≡ Some one
      → Lies size limit one
  found-lies position one is = go (nat_le position size) refl is
    where
      go : (low : Bool) → nat_le position size ≡ low
          → (if low then below limit (found position) else None) ≡ Some one → Lies size limit one
      go true low is =
          below-lies (found position) one (within position (grind (arith, nat_tests, low))) is
      go false low is = absurd cc

  from-lies : (count position : ℕ) (end : Option ℕ)
      → All (Lies size limit) (parts_from found size limit count position end)
  from-lies zero position end = All-nil (Lies size limit)
  from-lies (suc count) position end =
      go (found_from found size limit position) refl (λ after before. from-lies count after before)
    where
      with-it : (passed : Bool) (one : ℕ × ℕ) (later : List (ℕ × ℕ)) → Lies size limit one
          → All (Lies size limit) later → All (Lies size limit) (if passed then later else one ∷ later)
      with-it true one later lies all = all
      with-it false one later lies all = All-cons (Lies size limit) one later lies all

      go : (first : Option (ℕ × ℕ)) → found_from found size limit position ≡ first
          → ((after : ℕ) (before : Option ℕ)
          → All (Lies size limit) (parts_from found size limit count after before))
          → All (Lies size limit) (option_map_or
          (λ one. with_part end one (parts_from found size limit count (position_after one) (Some one.1)))
          first [])
      go None none later = All-nil (Lies size limit)
      go (Some one) is later = with-it (is_passed end one) one
          (parts_from found size limit count (position_after one) (Some one.1)) (found-lies position one is)
          (later (position_after one) (Some one.1))

  pub parts-lie : All (Lies size limit) (parts_in found size limit)
  unfolding parts_in
  parts-lie = from-lies (size + 1) 0 None

-- what is found from a start on that is the first byte
pub from-first : (bytes : List ℕ) (first_at : ℕ → Option (ℕ × ℕ))
    → ((position : ℕ) → position ≤ length bytes → IsFrom position bytes (first_at position))
    → (position : ℕ) → position ≤ length bytes
    → IfSome (first_from first_at 0 position) (λ m. (m.0 ≤ m.1) × (m.1 ≤ length bytes))
from-first bytes first_at from position low =
    subst (λ p. are-in (first_at p)) (sym from-zero) (go (first_at position) (from position low))
  where
    from-zero : 0 + position ≡ position
    from-zero = omega arith

    are-in : Option (ℕ × ℕ) → Type 0
    are-in found = IfSome {T = ℕ × ℕ} (option_map (λ m. (m.0 - 0, m.1 - 0)) found)
        (λ m. (m.0 ≤ m.1) × (m.1 ≤ length bytes))

    go : (found : Option (ℕ × ℕ)) → IsFrom position bytes found → are-in found
    go None lies = tt
    go (Some m) lies = (omega (arith, lies.1.0), omega (arith, lies.1.1))

-- ---- how they are written

module _ (layout : Layout) (plain : is_plain layout.config layout.path ≡ true) (number : Option ℕ)
    (offset : ℕ) (line : List ℕ) where
  abbrev t : ℕ
  t = end_byte layout

  one-clipped : (part : ℕ × ℕ) → Lies (length (strip layout.terminator line)) (length line) part
      → clipped_text layout Match offset line number (line_span layout.terminator 0 line) part
      ≡ plain_part t 58 number line part
  one-clipped part lies =
      part-plain layout Match plain number offset line part lies.ordered lies.inside lies.early

  all-clipped : (parts : List (ℕ × ℕ))
      → All (Lies (length (strip layout.terminator line)) (length line)) parts
      → flat_map (clipped_text layout Match offset line number (line_span layout.terminator 0 line)) parts
      ≡ flat_map (plain_part t 58 number line) parts
  all-clipped [] lie = refl
  all-clipped (part ∷ later) lie = ap₂ (λ (a b : List ℕ). a ++ b)
      (one-clipped part (All-head (Lies _ _) part later lie))
      (all-clipped later (All-tail (Lies _ _) part later lie))

  -- a line is written by its parts, or as it is if it has none
  pub parts-plain : layout.config.only_matching ≡ true → lines t line ≡ line ∷ []
      → (parts : List (ℕ × ℕ))
      → All (Lies (length (strip layout.terminator line)) (length line)) parts
      → match_text layout number offset line parts
      ≡ (if length parts == 0 then plain_line t 58 number line
      else flat_map (plain_part t 58 number line) parts)
  parts-plain only alone parts lie = by (length parts == 0) refl
    where
      writes : (none : Bool) → (length parts == 0) ≡ none → writes_parts layout parts ≡ not none
      writes none is = ap₂ (λ a b. a && not b) only is

      by : (none : Bool) → (length parts == 0) ≡ none
          → match_text layout number offset line parts
          ≡ (if none then plain_line t 58 number line
          else flat_map (plain_part t 58 number line) parts)
      by true is = rw (writes true is) (
          lines-plain layout Match plain _ parts (lines t line)
          ∙ (ap (λ ls. plain_lines t 58 number ls) alone
          ∙ append-nil (plain_line t 58 number line)))
      by false is = rw (writes false is, alone) (
          append-nil (flat_map (clipped_text layout Match offset line number
          (line_span layout.terminator 0 line)) parts)
          ∙ all-clipped parts lie)
