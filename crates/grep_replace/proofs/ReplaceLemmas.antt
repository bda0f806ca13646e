-- All matches replaced: one match after another.
use Rattle.std.proofs.Common.{◌≡◌, ℕ, zero, suc, ◌+◌, ◌-◌, ◌≤◌, List, [], ◌++◌, Option, Some, None, true, false}
use Rattle.std.proofs.Common.{ap, arith, sym, ◌∙◌, append_assoc, refl, drop, length, length-drop, slice_range, take}
use Rattle.std.proofs.Math.Seq.{take-length}
use Rattle.std.specs.Option.{option_map_or}
use Rattle.grep_replace.proofs.FoundPartLemmas.{after-end, after-later, from-found, kept-with, one-more, passed-with}
use Rattle.grep_replace.specs.MatchedParts.{LiesFrom, all_parts, found_from, is_passed, parts_from, parts_in}
use Rattle.grep_replace.specs.MatchedParts.{position_after, with_part}
use Rattle.grep_replace.specs.ReplacedBytes.{replaced_bytes}

module _ (text_at : ℕ → List ℕ) (first_at : ℕ → Option (ℕ × ℕ)) (bytes : List ℕ) where
  -- the parts that so many searches find from a position on
  abbrev later_parts : ℕ → ℕ → Option ℕ → List (ℕ × ℕ)
  later_parts = parts_from first_at (length bytes) (length bytes + 1)

  -- something is made of the bytes up to one position, and the parts that are found from another one
  -- on are still to be replaced
  pub record IsReplacingFrom (whole made : List ℕ) (copied position : ℕ) (end : Option ℕ) : Type 0 where
    pub count : ℕ
    pub enough : length bytes + 1 ≤ position + count
    pub made_is : made ++ replaced_bytes text_at bytes copied (later_parts count position end) ≡ whole
    pub behind : copied ≤ position
    pub within : copied ≤ length bytes

  -- nothing is made yet
  pub replacing-none : (made : List ℕ)
      → IsReplacingFrom (made ++ replaced_bytes text_at bytes 0 (all_parts first_at (length bytes))) made 0 0 None
  unfolding parts_in
  replacing-none made = record {
    count = length bytes + 1;
    enough = omega arith;
    made_is = refl;
    behind = omega arith;
    within = omega arith;
  }

  -- the parts from a position on, if a match is found there
  parts-found : (count fewer position : ℕ) (end : Option ℕ) (found : ℕ × ℕ) → count ≡ suc fewer
      → found_from first_at (length bytes) (length bytes + 1) position ≡ Some found
      → later_parts count position end
      ≡ with_part end found (later_parts fewer (position_after found) (Some found.1))
  parts-found count fewer position end found more is =
      ap (λ n. later_parts n position end) more
      ∙ from-found first_at (length bytes) (length bytes + 1) fewer position end found is

  -- a match is found that is passed over
  pub replacing-passed : (whole made : List ℕ) (copied position : ℕ) (end : Option ℕ) (found : ℕ × ℕ)
      → IsReplacingFrom whole made copied position end
      → found_from first_at (length bytes) (length bytes + 1) position ≡ Some found
      → LiesFrom position (length bytes) (length bytes + 1) (Some found) → is_passed end found ≡ true
      → IsReplacingFrom whole made copied (position_after found) (Some found.1)
  replacing-passed whole made copied position end found before is lies passed =
      let enough = before.enough in let behind = before.behind in
      let left = one-more first_at (length bytes) (length bytes + 1) before.count position enough (omega arith) in
      let later : position + 1 ≤ position_after found = after-later position found lies.0 lies.1 in
      let count = left.1 in record {
        count = left.0;
        enough = omega (arith, later, enough, count);
        made_is = ap (λ (ps : List (ℕ × ℕ)). made ++ replaced_bytes text_at bytes copied ps)
            (sym (parts-found before.count left.0 position end found left.1 is
            ∙ passed-with first_at (length bytes) (length bytes + 1) end found _ passed)) ∙ before.made_is;
        behind = omega (arith, later, behind);
        within = before.within;
      }

  -- a match is found and replaced, after the bytes before it
  pub replacing-kept : (whole made between after : List ℕ) (copied position : ℕ) (end : Option ℕ) (found : ℕ × ℕ)
      → IsReplacingFrom whole made copied position end
      → found_from first_at (length bytes) (length bytes + 1) position ≡ Some found
      → LiesFrom position (length bytes) (length bytes + 1) (Some found) → is_passed end found ≡ false
      → between ≡ made ++ slice_range bytes copied found.0 → after ≡ between ++ text_at found.0
      → IsReplacingFrom whole after found.1 (position_after found) (Some found.1)
  replacing-kept whole made between after copied position end found before is lies kept front back =
      let enough = before.enough in
      let left = one-more first_at (length bytes) (length bytes + 1) before.count position enough (omega arith) in
      let later : position + 1 ≤ position_after found = after-later position found lies.0 lies.1 in
      let count = left.1 in
      let range = slice_range bytes copied found.0 in
      let others = replaced_bytes text_at bytes found.1 (later_parts left.0 (position_after found) (Some found.1)) in
      record {
        count = left.0;
        enough = omega (arith, later, enough, count);
        made_is = rw (back, front) (append_assoc (made ++ range) (text_at found.0) others
            ∙ (append_assoc made range (text_at found.0 ++ others)
            ∙ (ap (λ (ps : List (ℕ × ℕ)). made ++ replaced_bytes text_at bytes copied ps)
            (sym (parts-found before.count left.0 position end found left.1 is
            ∙ kept-with first_at (length bytes) (length bytes + 1) end found _ kept)) ∙ before.made_is)));
        behind = after-end found;
        within = lies.2;
      }

  -- no part is found from a position on
  parts-none : (count position : ℕ) (end : Option ℕ)
      → found_from first_at (length bytes) (length bytes + 1) position ≡ None → later_parts count position end ≡ []
  parts-none zero position end none = refl
  parts-none (suc count) position end none = ap (λ (f : Option (ℕ × ℕ)). option_map_or
      (λ m. with_part end m (later_parts count (position_after m) (Some m.1))) f []) none

  -- with the bytes after the last match all is made
  pub replacing-all : (whole made last : List ℕ) (copied position : ℕ) (end : Option ℕ)
      → IsReplacingFrom whole made copied position end
      → found_from first_at (length bytes) (length bytes + 1) position ≡ None
      → last ≡ made ++ take (length bytes - copied) (drop copied bytes) → last ≡ whole
  replacing-all whole made last copied position end before none tail =
      let left : take (length bytes - copied) (drop copied bytes) ≡ drop copied bytes =
      ap (λ n. take n (drop copied bytes)) (sym (length-drop copied bytes)) ∙ take-length (drop copied bytes) in
      tail ∙ (ap (λ b. made ++ b) left
      ∙ (ap (λ (ps : List (ℕ × ℕ)). made ++ replaced_bytes text_at bytes copied ps)
      (sym (parts-none before.count position end none)) ∙ before.made_is))
