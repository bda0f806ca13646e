use borrow.Rule.Slice.PartMut.{put_mid}
use Rattle.std.proofs.Common.{◌≡◌, if◌then◌else◌, ◌==◌, ◌+◌, ◌-◌, ◌≤◌, ◌++◌, ◌∙◌, ◌&&◌, false, None}
use Rattle.std.proofs.Common.{Some, length, take, refl, sym, ap, subst, arith}
use Rattle.std.specs.Option.{option_map, is_some}
use Rattle.std.proofs.lemmas.List.{length-map, with_items_is}
use Rattle.std.specs.Prelude.{slice_range}
use Rattle.grep_lines.proofs.ReplaceLemmas.{position-found}
use Rattle.grep_line_buffer.specs.declared.detection.Detection.TheVariants.{Convert}
use Rattle.grep_line_buffer.specs.BufferStates.{BufferState, has_quit}
use Rattle.grep_line_buffer.specs.Detections.{detected_bytes, found_in, first_of, byte_offset}
use Rattle.grep_line_buffer.specs.Detections.{is_quit}
use Rattle.grep_line_buffer.proofs.BufferStateLemmas.{window-same}
use Rattle.grep_line_buffer.proofs.DetectLemmas.{Detects-made, found-at, found-first, length-cut}
use Rattle.grep_line_buffer.proofs.DetectLemmas.{nothing-found, quit-at, is-changed, length-held}
use Rattle.grep_line_buffer.proofs.DetectLemmas.{length-last, quit-none, slice-before, split-rest}
use Rattle.grep_line_buffer.proofs.SliceLemmas.{length-slice}
use Rattle.grep_line_buffer.proofs.line_buffer.LineBuffer.detect.Goals as goal

pub returns-in-Some : goal.returns-in-Some
returns-in-Some g c =
    let b = c.self.inside in
    let bs = b.bytes.items in
    let n = c.args.count in
    let fits = rw (← c.self.view_is) at c.requires.count in
    let low : b.start ≤ b.line_end = omega arith in
    let high : b.line_end ≤ b.end = omega arith in
    let within : b.end ≤ length bs = omega arith in
    let read : n ≤ b.end - b.line_end =
    omega (arith, fits, length-slice bs b.line_end b.end (omega arith)) in
    let last = slice_range bs (b.end - n) b.end in
    let front = slice_range bs b.line_end (b.end - n) in
    let split = split-rest b.start b.line_end b.end n bs low high within read in
    let counted = length-last b.start b.line_end b.end n bs low high within read in
    let at = c.in-Some.at in
    let here = position-found c.in-Quit.byte last (Some at)
    (rw c.deref.ensures.value at c.in-Some.ensures) in
    let found : found_in b.detection b.terminator last ≡ Some at = rw c.in-Quit.is here in
    let made : take at last ≡ detected_bytes b.detection b.terminator last =
    rw c.in-Quit.is (quit-at c.in-Quit.byte b.terminator last at here) in
    let part : at ≤ n = omega (
      arith,
      counted,
      (rw c.deref.ensures.value at c.in-Some.ensures).0.high,
    ) in
    let U : BufferState → Type 0 = λ w. has_quit w ≡ false in
    let uncut = subst U (sym c.self.view_is) c.requires.uncut in
    let first : option_map byte_offset b.binary ≡ None =
    found-first _ (subst (λ D. (is_quit D && is_some (option_map byte_offset b.binary)) ≡ false)
    c.in-Quit.is uncut) in
    let all = length-held b.start b.line_end b.end n bs low high within read in
    let sum : b.offset + ((b.end - n + at) - b.start)
    ≡ b.offset + (length (slice_range bs b.start b.line_end ++ slice_range bs b.line_end b.end) - n)
    + at = omega (arith, all) in
    let joined = slice-before b.start b.line_end b.end n bs low high within read at part in
    record {
      detects = rw (← c.self.view_is) (Detects-made n _ _ front last (take at last) (length bs
          - (b.end - n + at)) (Some (b.offset + ((b.end - n + at) - b.start))) split counted made
          (window-same _ _ _ _ _ _ _ _ _ _ _ _ _ _ refl joined refl refl)
          (ap Some sum ∙ found-at (option_map byte_offset b.binary)
          (found_in b.detection b.terminator last)
          (λ i. b.offset + (length (slice_range bs b.start b.line_end
          ++ slice_range bs b.line_end b.end) - n) + i) at first found)
          (omega (
            arith,
            all,
            length-cut b.start b.line_end b.end n bs low high within read at part,
          )));
    }

pub returns-in_default : goal.returns-in_default
returns-in_default g c =
    let b = c.self.inside in
    let bs = b.bytes.items in
    let n = c.args.count in
    let fits = rw (← c.self.view_is) at c.requires.count in
    let low : b.start ≤ b.line_end = omega arith in
    let high : b.line_end ≤ b.end = omega arith in
    let within : b.end ≤ length bs = omega arith in
    let read : n ≤ b.end - b.line_end =
    omega (arith, fits, length-slice bs b.line_end b.end (omega arith)) in
    let last = slice_range bs (b.end - n) b.end in
    let front = slice_range bs b.line_end (b.end - n) in
    let split = split-rest b.start b.line_end b.end n bs low high within read in
    let counted = length-last b.start b.line_end b.end n bs low high within read in
    let missing = position-found c.in-Quit.byte last None
    (rw c.deref.ensures.value at c.in_default.ensures) in
    let none : found_in b.detection b.terminator last ≡ None = rw c.in-Quit.is missing in
    let same : last ≡ detected_bytes b.detection b.terminator last =
    rw c.in-Quit.is (quit-none c.in-Quit.byte b.terminator last missing) in
    record {
      detects = rw (← c.self.view_is) (Detects-made n _ _ front last last (length bs - b.end)
          (option_map byte_offset b.binary) split counted same
          (window-same _ _ _ _ _ _ _ _ _ _ _ _ _ _ refl split refl refl) (nothing-found _ _ _ none)
          (ap (λ l. length bs - b.end + length (slice_range bs b.start b.line_end ++ l))
          (sym split)));
    }

pub returns-in-Some-replace_bytes : goal.returns-in-Some-replace_bytes
returns-in-Some-replace_bytes g c =
    let b = c.self.inside in
    let bs = b.bytes.items in
    let n = c.args.count in
    let fits = rw (← c.self.view_is) at c.requires.count in
    let low : b.start ≤ b.line_end = omega arith in
    let high : b.line_end ≤ b.end = omega arith in
    let within : b.end ≤ length bs = omega arith in
    let read : n ≤ b.end - b.line_end =
    omega (arith, fits, length-slice bs b.line_end b.end (omega arith)) in
    let last = slice_range bs (b.end - n) b.end in
    let front = slice_range bs b.line_end (b.end - n) in
    let split = split-rest b.start b.line_end b.end n bs low high within read in
    let counted = length-last b.start b.line_end b.end n bs low high within read in
    let now = put_mid (b.end - n) (b.end - (b.end - n)) c.deref_mut.result.now
    c.replace_bytes.new.bytes in
    let moved : now ≡ put_mid (b.end - n) (b.end - (b.end - n)) bs c.replace_bytes.new.bytes =
    ap (λ l. put_mid (b.end - n) (b.end - (b.end - n)) l c.replace_bytes.new.bytes)
    c.deref_mut.ensures.value in
    let bytes : c.replace_bytes.new.bytes ≡ detected_bytes (Convert c.in-Convert.byte) b.terminator
    last =
    rw c.deref_mut.ensures.value at c.replace_bytes.ensures.bytes in
    let made : c.replace_bytes.new.bytes ≡ detected_bytes b.detection b.terminator last =
    rw c.in-Convert.is bytes in
    let many : length c.replace_bytes.new.bytes ≡ n =
    ap (λ l. length l) bytes ∙ length-map last (λ x. if x == c.in-Convert.byte then b.terminator
    else x) ∙ counted in
    let after = is-changed b.start b.line_end b.end n bs low high within read
    c.replace_bytes.new.bytes many now moved in
    let whole : length now ≡ b.bytes.len = omega (arith, after.size) in
    let all = length-held b.start b.line_end b.end n bs low high within read in
    let shown = slice_range bs b.start b.line_end in
    let at = c.in-Some-replace_bytes.at in
    let found : found_in b.detection b.terminator last ≡ Some at =
    rw c.in-Convert.is (sym (rw c.deref_mut.ensures.value at c.in-Some-replace_bytes.ensures.first))
    in
    let before = option_map byte_offset b.binary in
    let place : b.offset + ((b.end - n) - b.start + at)
    ≡ b.offset + (length (shown ++ slice_range bs b.line_end b.end) - n) + at =
    omega (arith, all) in
    record {
      detects = rw (← c.self.view_is) (Detects-made n _ _ front last c.replace_bytes.new.bytes
          (length bs - b.end)
          (first_of before (Some (b.offset + ((b.end - n) - b.start + at)))) split counted made
          (c.note.ensures ∙ (rw (with_items_is b.bytes now whole)
          (window-same _ _ _ _ _ _ _ _ _ _ _ _ _ _
          after.shown after.rest after.size (ap (λ k. k - b.end) after.size))))
          (ap (first_of before) (ap Some place
          ∙ sym (ap (option_map (λ i. b.offset + (length (shown ++ slice_range bs b.line_end b.end)
          - n) + i)) found))) after.sum);
    }

pub returns-in_default-replace_bytes : goal.returns-in_default-replace_bytes
returns-in_default-replace_bytes g c =
    let b = c.self.inside in
    let bs = b.bytes.items in
    let n = c.args.count in
    let fits = rw (← c.self.view_is) at c.requires.count in
    let low : b.start ≤ b.line_end = omega arith in
    let high : b.line_end ≤ b.end = omega arith in
    let within : b.end ≤ length bs = omega arith in
    let read : n ≤ b.end - b.line_end =
    omega (arith, fits, length-slice bs b.line_end b.end (omega arith)) in
    let last = slice_range bs (b.end - n) b.end in
    let front = slice_range bs b.line_end (b.end - n) in
    let split = split-rest b.start b.line_end b.end n bs low high within read in
    let counted = length-last b.start b.line_end b.end n bs low high within read in
    let now = put_mid (b.end - n) (b.end - (b.end - n)) c.deref_mut.result.now
    c.replace_bytes.new.bytes in
    let moved : now ≡ put_mid (b.end - n) (b.end - (b.end - n)) bs c.replace_bytes.new.bytes =
    ap (λ l. put_mid (b.end - n) (b.end - (b.end - n)) l c.replace_bytes.new.bytes)
    c.deref_mut.ensures.value in
    let bytes : c.replace_bytes.new.bytes ≡ detected_bytes (Convert c.in-Convert.byte) b.terminator
    last =
    rw c.deref_mut.ensures.value at c.replace_bytes.ensures.bytes in
    let made : c.replace_bytes.new.bytes ≡ detected_bytes b.detection b.terminator last =
    rw c.in-Convert.is bytes in
    let many : length c.replace_bytes.new.bytes ≡ n =
    ap (λ l. length l) bytes ∙ length-map last (λ x. if x == c.in-Convert.byte then b.terminator
    else x) ∙ counted in
    let after = is-changed b.start b.line_end b.end n bs low high within read
    c.replace_bytes.new.bytes many now moved in
    let whole : length now ≡ b.bytes.len = omega (arith, after.size) in
    let none : found_in b.detection b.terminator last ≡ None =
    rw c.in-Convert.is (sym
    (rw c.deref_mut.ensures.value at c.in_default-replace_bytes.ensures.first)) in
    record {
      detects = rw (← c.self.view_is) (rw (with_items_is b.bytes now whole)
          (Detects-made n _ _ front last c.replace_bytes.new.bytes
          (length bs - b.end) (option_map byte_offset b.binary) split counted made
          (window-same _ _ _ _ _ _ _ _ _ _ _ _ _ _ after.shown after.rest after.size
          (ap (λ k. k - b.end) after.size)) (nothing-found _ _ _ none) after.sum));
    }
