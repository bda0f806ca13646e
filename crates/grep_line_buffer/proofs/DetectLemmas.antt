-- Detection in the bytes that were read last.
use borrow.Rule.Slice.PartMut.{put_mid}
use Rattle.std.proofs.Common.{◌≡◌, ℕ, ◌+◌, ◌-◌, ◌≤◌, ◌==◌, true, false, ◌&&◌}
use Rattle.std.proofs.Common.{List, ◌++◌, length, take, drop, Option, None, Some, refl, sym, ap}
use Rattle.std.proofs.Common.{◌∙◌, arith, length-append, length-drop, length-take-le}
use Rattle.std.specs.List.{position, position_or_len}
use Rattle.std.specs.Option.{option_map, is_some}
use Rattle.std.proofs.lemmas.Bool.{false≢true}
use Rattle.std.proofs.lemmas.List.{drop_at, take_all, take-append-drop, take-take}
use Rattle.std.proofs.lemmas.Slice.{between_is, drop-put_mid, take-put_mid, take-put_mid_below}
use Rattle.std.proofs.Math.Seq.{take-append_seam}
use Rattle.std.specs.Prelude.{slice_range}
use Rattle.grep_line_buffer.specs.Appends.{Detects}
use Rattle.grep_line_buffer.specs.BufferStates.{BufferState, held_bytes}
use Rattle.grep_line_buffer.specs.Detections.{detected_bytes, found_in, first_of}
use Rattle.grep_line_buffer.specs.declared.detection.Detection.TheVariants.{Quit}
use Rattle.grep_line_buffer.proofs.DetectionLemmas.{all-before, first_of-none}
use Rattle.grep_line_buffer.proofs.SliceLemmas.{length-slice, slice-join, slice-kept}

-- the bytes before the last ones stay, and detection makes these of the last ones
pub Detects-made : (count : ℕ) (old new : BufferState) (front last made : List ℕ) (free : ℕ)
    (binary : Option ℕ) → old.rest ≡ front ++ last → length last ≡ count → made
    ≡ detected_bytes old.detection old.terminator last
    → new ≡ record old { rest = front ++ made; free = free; binary = binary }
    → binary ≡ first_of old.binary (option_map (λ i. old.offset + (length (held_bytes old) - count)
    + i) (found_in old.detection old.terminator last))
    → free + length (old.shown ++ (front ++ made)) ≡ old.free + length (held_bytes old)
    → Detects count old new
Detects-made count old new front last made free binary split counted is changed found sum =
    grind (arith, length-append, take-append_seam, drop_at)

module _ (start line_end end count : ℕ) (bytes : List ℕ) (low : start ≤ line_end) (high : line_end
    ≤ end)
    (within : end ≤ length bytes) (read : count ≤ end - line_end) where
  -- the bytes that aren't shown, in two parts
  pub split-rest : slice_range bytes line_end end ≡ slice_range bytes line_end (end - count)
      ++ slice_range bytes (end - count) end
  split-rest = sym (slice-join bytes line_end (end - count) end (omega arith) (omega arith))

  pub length-last : length (slice_range bytes (end - count) end) ≡ count
  length-last = length-slice bytes (end - count) end within ∙ omega arith

  pub length-held : length (slice_range bytes start line_end ++ slice_range bytes line_end end)
      ≡ end - start
  length-held = ap (λ l. length l) (slice-join bytes start line_end end low high)
      ∙ length-slice bytes start end within

  -- up to a byte of the last ones
  pub slice-before : (at : ℕ) → at ≤ count
      → slice_range bytes line_end (end - count + at) ≡ slice_range bytes line_end (end - count)
      ++ take at (slice_range bytes (end - count) end)
  slice-before at part =
      let from = end - count in
      let most : from + at - from ≡ at = omega arith in
      let left : at ≤ end - from = omega arith in
      sym (slice-join bytes line_end from (from + at) (omega arith) (omega arith))
      ∙ ap (λ l. slice_range bytes line_end from ++ l) (ap (λ n. take n (drop from bytes)) most
      ∙ sym (take-take at (end - from) (drop from bytes) left))

  pub length-cut : (at : ℕ) → at ≤ count
      → length (slice_range bytes start line_end ++ (slice_range bytes line_end (end - count)
      ++ take at (slice_range bytes (end - count) end))) ≡ end - count + at - start
  length-cut at part =
      ap (λ l. length (slice_range bytes start line_end ++ l)) (sym (slice-before at part))
      ∙ ap (λ l. length l) (slice-join bytes start line_end (end - count + at) (omega arith)
      (omega arith)) ∙ length-slice bytes start (end - count + at) (omega arith)

  -- the last bytes become others
  module _ (made : List ℕ) (counted : length made ≡ count) where
    abbrev changed : List ℕ
    changed = put_mid (end - count) (end - (end - count)) bytes made

    size : count ≡ end - (end - count)
    size = omega arith

    changed-front : take (end - count) changed ≡ take (end - count) bytes
    changed-front = take-put_mid_below (end - count) (end - (end - count)) bytes made (end - count)
        (omega arith) (omega arith)

    changed-end : take end changed ≡ take (end - count) bytes ++ made
    changed-end = take-put_mid (end - count) (end - (end - count)) bytes made end
        (omega (arith, counted)) (omega arith)

    changed-back : drop end changed ≡ drop end bytes
    changed-back = drop-put_mid (end - count) (end - (end - count)) bytes made end (omega arith)
        (omega arith) (omega (arith, counted))

    length-changed : length changed ≡ length bytes
    length-changed =
        grind (
          arith,
          length-take-le,
          take-append-drop,
          changed-end,
          changed-back,
          length-append,
          length-drop,
        )

    changed-rest : slice_range changed line_end end ≡ slice_range bytes line_end (end - count)
        ++ made
    changed-rest =
        sym (slice-join changed line_end (end - count) end (omega arith) (omega arith))
        ∙ ap (λ l. l ++ slice_range changed (end - count) end)
        (slice-kept bytes changed line_end (end - count) (end - count) changed-front (omega arith))
        ∙ ap (λ l. slice_range bytes line_end (end - count) ++ l) last
      where
        last : slice_range changed (end - count) end ≡ made
        last = between_is changed (end - count) end ∙ ap (drop (end - count)) changed-end
            ∙ drop_at (take (end - count) bytes) made (end - count)
            (length-take-le (end - count) bytes (omega arith))

    -- what a buffer over bytes that have become these shows, and how many it holds
    pub record IsChanged (now : List ℕ) : Type 0 where
      pub size : length now ≡ length bytes
      pub shown : slice_range now start line_end ≡ slice_range bytes start line_end
      pub rest : slice_range now line_end end ≡ slice_range bytes line_end (end - count) ++ made
      pub sum : (length bytes - end) + length (slice_range bytes start line_end
          ++ (slice_range bytes line_end (end - count) ++ made))
          ≡ (length bytes - end) + length (slice_range bytes start line_end
          ++ slice_range bytes line_end end)

    pub is-changed : (now : List ℕ) → now ≡ changed → IsChanged now
    is-changed now is =
        grind (
          arith,
          size,
          length-changed,
          slice-kept,
          changed-front,
          changed-rest,
          length-held,
          length-append,
          length-slice,
        )

-- nothing was found
pub nothing-found : (before found : Option ℕ) (f : ℕ → ℕ) → found ≡ None → before
    ≡ first_of before (option_map f found)
nothing-found before found f none = sym (ap (λ o. first_of before (option_map f o)) none
    ∙ first_of-none before)

-- the byte of `Quit` isn't among these, or is first at an index
pub quit-none : (b t : ℕ) (bytes : List ℕ) → position (λ x. x == b) bytes ≡ None → bytes
    ≡ detected_bytes (Quit b) t bytes
quit-none b t bytes none =
    sym (take_all (position_or_len (λ x. x == b) bytes) bytes
    (omega (arith, all-before (λ x. x == b) bytes none)))

pub quit-at : (b t : ℕ) (bytes : List ℕ) (at : ℕ) → position (λ x. x == b) bytes ≡ Some at
    → take at bytes ≡ detected_bytes (Quit b) t bytes
quit-at b t bytes at is = grind arith

-- a buffer that isn't cut found no byte before
pub found-first : (before : Option ℕ) → (true && is_some before) ≡ false → before ≡ None
found-first None uncut = refl
found-first (Some n) uncut = absurd (false≢true (sym uncut))

pub found-at : (before later : Option ℕ) (f : ℕ → ℕ) (at : ℕ) → before ≡ None → later ≡ Some at
    → Some (f at) ≡ first_of before (option_map f later)
found-at before later f at none is = sym (ap (λ o. first_of o (option_map f later)) none
    ∙ ap (λ o. first_of None (option_map f o)) is)
