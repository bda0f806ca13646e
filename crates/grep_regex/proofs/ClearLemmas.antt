-- Where a stretch of a haystack has none of some bytes.
use Rattle.std.proofs.Common.{◌≡◌, ℕ, ◌+◌, ◌-◌, ◌<◌, ◌≤◌, true, false, not, List, length}
use Rattle.std.proofs.Common.{drop, get_or}
use Rattle.std.proofs.Common.{slice_index, slice_range, sym, ap, ◌∙◌, arith, length-take}
use Rattle.std.proofs.Common.{length-drop}
use Rattle.std.proofs.Common.{get_or-drop}
use Rattle.std.proofs.lemmas.Bool.{true≢false, false_from_ne_true}
use Rattle.std.proofs.lemmas.List.{get_or-take, get_or_default}
use Rattle.std.proofs.lemmas.List.Folds.{list_any_at, list_any_none}
use Rattle.grep_regex.specs.Clear.{is_among, is_clear}

module _ (bytes hay : List ℕ) (start end : ℕ) where
  range-length : (k : ℕ) → start ≤ k → k < end → k < length hay → k - start < length (slice_range hay start end)
  range-length k low high inside = omega (arith, length-take (end - start) (drop start hay), length-drop start hay)

  range-at : (k : ℕ) → start ≤ k → k < end → get_or (slice_range hay start end) (k - start) 0 ≡ slice_index hay k
  range-at k low high =
      let back : start + (k - start) ≡ k = omega arith in
      let below : k - start < end - start = omega arith in
      get_or-take (end - start) (drop start hay) (k - start) 0 below
      ∙ (get_or-drop start hay (k - start) 0 ∙ ap (slice_index hay) back)

  pub clear-not : (k : ℕ) → start ≤ k → k < end → k < length hay → is_among bytes (slice_index hay k) ≡ true →
      is_clear bytes hay start end ≡ false
  clear-not k low high inside has =
      ap not (list_any_at (is_among bytes) (slice_range hay start end) (k - start) 0 (range-length k low high inside)
      (ap (is_among bytes) (range-at k low high) ∙ has))

  pub clear-at : is_clear bytes hay start end ≡ true → (k : ℕ) → start ≤ k → k < end → k < length hay →
      is_among bytes (slice_index hay k) ≡ false
  clear-at clear k low high inside = false_from_ne_true _
      (λ has. true≢false (sym clear ∙ clear-not k low high inside has))

  pub clear-from : ((k : ℕ) → start ≤ k → k < end → k < length hay → is_among bytes (slice_index hay k) ≡ false) →
      is_clear bytes hay start end ≡ true
  clear-from each = ap not (list_any_none (is_among bytes) (slice_range hay start end) (λ k d below.
      let sized : (k + start < end) × (k + start < length hay) = (
        omega (arith, length-take (end - start) (drop start hay), length-drop start hay),
        omega (arith, length-take (end - start) (drop start hay), length-drop start hay),
      ) in
      let back : k + start - start ≡ k = omega arith in
      ap (is_among bytes) (get_or_default (slice_range hay start end) k d 0 below
      ∙ (ap (λ n. get_or (slice_range hay start end) n 0) (sym back) ∙ range-at (k + start) (omega arith) sized.0))
      ∙ each (k + start) (omega arith) sized.0 sized.1))

-- a part of a clear stretch is clear
pub clear-part : (bytes hay : List ℕ) (s e l : ℕ) → e ≤ l → is_clear bytes hay s l ≡ true → is_clear bytes hay s e
    ≡ true
clear-part bytes hay s e l le clear =
    clear-from bytes hay s e (λ k low high inside. clear-at bytes hay s l clear k low (omega arith) inside)

-- and no stretch is clear that has a part which isn't
pub clear-more : (bytes hay : List ℕ) (s e l : ℕ) → e ≤ l → is_clear bytes hay s e ≡ false → is_clear bytes hay s l
    ≡ false
clear-more bytes hay s e l le unclear =
    false_from_ne_true _ (λ clear. true≢false (sym (clear-part bytes hay s e l le clear) ∙ unclear))

pub clear-empty : (bytes hay : List ℕ) (s : ℕ) → is_clear bytes hay s s ≡ true
clear-empty bytes hay s = clear-from bytes hay s s (λ k low high inside. absurd (omega arith))
