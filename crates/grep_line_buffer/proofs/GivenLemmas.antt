-- What fills make of the bytes that reads of a decoder gave since the first of them.
use Rattle.std.proofs.Common.{◌≡◌, ℕ, ◌+◌, true, false, List, ◌++◌, length, take, drop, Option}
use Rattle.std.proofs.Common.{None, Some, ap, sym, ◌∙◌, append_assoc, take-append-drop}
use Rattle.std.proofs.Common.{length-append}
use Rattle.std.specs.Option.{option_map}
use Rattle.grep_decode.proofs.DecoderLemmas.{Decodes-append}
use Rattle.grep_decode.specs.DecoderStates.{DecoderState, Decodes}
use Rattle.grep_decode.specs.Source.{ReadResult}
use Rattle.grep_line_buffer.specs.declared.detection.Detection.{Detection}
use Rattle.grep_line_buffer.specs.Detections.{detected_bytes, found_in, first_of, is_quit}
use Rattle.grep_line_buffer.specs.BufferStates.{BufferState, held_bytes, has_quit}
use Rattle.grep_line_buffer.specs.Fills.{Fills}
use Rattle.grep_line_buffer.proofs.DetectionLemmas.{detected_bytes-append, found-append}
use Rattle.grep_line_buffer.proofs.DetectionLemmas.{length-detected_bytes, uncut-none}

-- the bytes that a buffer is moved past, and the others
pub consumed-held : (gone shown rest : List ℕ) (count : ℕ) → gone ++ (shown ++ rest)
    ≡ (gone ++ take count shown) ++ (drop count shown ++ rest)
consumed-held gone shown rest count =
    ap (λ l. gone ++ (l ++ rest)) (sym (take-append-drop count shown))
    ∙ ap (λ l. gone ++ l) (append_assoc (take count shown) (drop count shown) rest)
    ∙ sym (append_assoc gone (take count shown) (drop count shown ++ rest))

-- what was held and what a fill appended is what is held
whole-more : (detection : Detection) (t : ℕ) (gone old now given more : List ℕ) → gone ++ old
    ≡ detected_bytes detection t given → now ≡ old ++ detected_bytes detection t more
    → (is_quit detection ≡ true → found_in detection t given ≡ None)
    → gone ++ now ≡ detected_bytes detection t (given ++ more)
whole-more detection t gone old now given more before is none =
    ap (λ l. gone ++ l) is ∙ sym (append_assoc gone old (detected_bytes detection t more))
    ∙ ap (λ l. l ++ detected_bytes detection t more) before
    ∙ sym (detected_bytes-append detection t given more none)

-- where the first binary byte is
found-more : (detection : Detection) (t offset : ℕ) (gone old given more : List ℕ)
    (before now : Option ℕ)
    → gone ++ old ≡ detected_bytes detection t given → offset ≡ length gone → before
    ≡ found_in detection t given
    → now ≡ first_of before (option_map (λ i. offset + length old + i) (found_in detection t more))
    → now ≡ found_in detection t (given ++ more)
found-more detection t offset gone old given more (Some n) now whole at was is =
    is ∙ ap (λ o. first_of o (option_map (λ i. length given + i) (found_in detection t more))) was
    ∙ sym (found-append detection t given more)
found-more detection t offset gone old given more None now whole at was is =
    let len : offset + length old ≡ length given =
    ap (λ n. n + length old) at ∙ sym (length-append gone old) ∙ ap (λ l. length l) whole
    ∙ length-detected_bytes detection t given (sym was) in
    is ∙ ap (λ n. option_map (λ i. n + i) (found_in detection t more)) len
    ∙ ap (λ o. first_of o (option_map (λ i. length given + i) (found_in detection t more))) was
    ∙ sym (found-append detection t given more)

module _ {R : Type 0} (remaining : R → Option (List ℕ)) (step : R → ReadResult → R → Type 0) where
  -- so a fill continues what was held before
  pub fills-continue : (old new : BufferState) (d d1 d2 : DecoderState) (r r1 r2 : R)
      (gone given : List ℕ) → Decodes remaining step d r given d1 r1 → gone ++ held_bytes old
      ≡ detected_bytes old.detection old.terminator given
      → old.offset ≡ length gone → old.binary ≡ found_in old.detection old.terminator given
      → has_quit old ≡ false → (fill : Fills remaining step old d1 r1 new d2 r2)
      → Decodes remaining step d r (given ++ fill.given) d2 r2
      × (gone ++ held_bytes new ≡ detected_bytes old.detection old.terminator (given ++ fill.given))
      × (new.binary ≡ found_in old.detection old.terminator (given ++ fill.given))
  fills-continue old new d d1 d2 r r1 r2 gone given before whole offset found uncut fill = (
    Decodes-append remaining step d d1 d2 r r1 r2 given fill.given before fill.decodes,
    whole-more old.detection old.terminator gone (held_bytes old) (held_bytes new) given fill.given
        whole fill.appended (λ quits. sym found ∙ uncut-none old.detection old.binary uncut quits),
    found-more old.detection old.terminator old.offset gone (held_bytes old) given fill.given
        old.binary new.binary whole offset found fill.found,
  )
