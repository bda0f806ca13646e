-- What reading a reader's contents has come to.
use Rattle.std.proofs.Common.{◌≡◌, ◌≢◌, ℕ, ◌+◌, ◌*◌, ◌<◌, ◌≤◌, List, [], ◌++◌, length, take, drop}
use Rattle.std.proofs.Common.{max, Option, None, Some, sym, ap, subst, ◌∙◌, arith}
use Rattle.std.proofs.Common.{append-nil}
use Rattle.std.proofs.lemmas.Bool.{cases_lt}
use Rattle.std.proofs.Math.Seq.{take-add}
use Rattle.grep_decode.specs.DecoderStates.{DecoderState, Decodes}
use Rattle.grep_decode.specs.Source.{ReadResult}
use Rattle.grep_line_buffer.specs.declared.fill_error.FillError.{FillError}
use Rattle.grep_line_buffer.specs.declared.fill_error.FillError.TheVariants.{Read, HeapLimit}
use Rattle.grep_line_buffer.specs.declared.fill_error.FillError.TheVariants.{Offset, Memory}
use Rattle.grep_line_buffer.specs.Appends.{Reads}
use Rattle.grep_line_buffer.specs.BufferStates.{IsWithin}
use Rattle.grep_line_buffer.specs.Contents.{first_size, IsBelow, ContentsFail}
use Rattle.grep_line_buffer.specs.Room.{HasFirstRoom, IsFullFault, next_size}
use Rattle.grep_line_buffer.proofs.ReadLemmas.{HasRead, HasRead-more}

-- a number that is less than one within the limit is below it
pub below-within : (limit : Option ℕ) (n size : ℕ) → n < size → IsWithin limit size
    → IsBelow limit n
below-within None n size less within = tt
below-within (Some most) n size less within = omega (arith, less, within)

-- what is within the limit is below it if it isn't the limit
below-other : (limit : Option ℕ) (size : ℕ) → IsWithin limit size → limit ≢ Some size
    → IsBelow limit size
below-other None size within other = tt
below-other (Some most) size within other = grind (arith, cases_lt)

-- what is below the next size is below the limit
below-next : (limit : Option ℕ) (least size n : ℕ) → n < next_size least limit size
    → IsBelow limit n × (n < max least (2 * size))
below-next None least size n below = (tt, below)
below-next (Some most) least size n below = (omega (arith, below), omega (arith, below))

-- why a vector with no more room can't grow
pub contents-full : (limit : Option ℕ) (size was now : ℕ) (bytes : List ℕ) (e : FillError)
    → length bytes ≡ size → IsWithin limit size
    → was ≤ now → IsFullFault limit size e
    → (limit ≢ Some size → now < next_size first_size limit size)
    → (limit ≢ Some size → 0 < size → first_size ≤ size) → ContentsFail limit was bytes e
contents-full limit size was now bytes (Read e) len within kept fault memory later = absurd fault
contents-full limit size was now bytes HeapLimit len within kept fault memory later =
    fault
    ∙ ap Some (sym len)
contents-full limit size was now bytes Offset len within kept fault memory later = absurd fault
contents-full limit size was now bytes Memory len within kept fault memory later =
    grind (arith, below-next, below-other, max)

module _ {R : Type 0} (remaining : R → Option (List ℕ)) (step : R → ReadResult → R → Type 0) where
  -- So many first bytes of a vector are what reads of the decoder gave.
  pub record IsReading (limit : Option ℕ) (capacity : ℕ) (d : DecoderState) (r : R) (len : ℕ)
      (items : List ℕ) (capacity' : ℕ)
      (d' : DecoderState) (r' : R) : Type 0 where
    pub read : HasRead remaining step d r (take len items) d' r'
    pub fits : len ≤ length items
    pub within : IsWithin limit (length items)
    pub first : HasFirstRoom limit (length items) capacity'
    pub kept : capacity ≤ capacity'

  -- it begins with an empty vector
  pub IsReading-first : (limit : Option ℕ) (capacity capacity' : ℕ) (d : DecoderState) (r : R)
      (items : List ℕ) → Decodes remaining step d r [] d r → items ≡ [] → capacity ≤ capacity'
      → IsReading limit capacity d r 0 items capacity' d r
  IsReading-first limit capacity capacity' d r items none empty kept = grind arith

  -- there is more room, or as much
  pub IsReading-room : (limit : Option ℕ) (capacity now now' len : ℕ) (d d1 : DecoderState)
      (r r1 : R) (items made : List ℕ)
      → IsReading limit capacity d r len items now d1 r1 → take len made ≡ take len items → len
      < length made → IsWithin limit (length made) → HasFirstRoom limit (length made) now' → now ≤ now'
      → IsReading limit capacity d r len made now' d1 r1
  IsReading-room limit capacity now now' len d d1 r r1 items made before front room within first kept = grind arith

  -- one read
  pub IsReading-more : (limit : Option ℕ) (capacity now len count : ℕ) (d d1 d2 : DecoderState)
      (r r1 r2 : R) (made bytes items : List ℕ)
      → IsReading limit capacity d r len made now d1 r1 → take len bytes ≡ take len made
      → length bytes ≡ length made → items ≡ bytes → len + count ≤ length bytes
      → Reads remaining step d1 r1 (take count (drop len bytes)) d2 r2 → d2.capacity ≡ d1.capacity
      → IsReading limit capacity d r (len + count) items now d2 r2
  IsReading-more limit capacity now len count d d1 d2 r r1 r2 made bytes items before front same is
      bound
      reads held =
      subst (λ l. IsReading limit capacity d r (len + count) l now d2 r2) (sym is) (record {
        read = subst (λ l. HasRead remaining step d r l d2 r2)
            (sym (take-add len count bytes ∙ ap (λ l. l ++ take count (drop len bytes)) front))
            (HasRead-more remaining step d d1 d2 r r1 r2 (take len made)
            (take count (drop len bytes)) before.read reads held);
        fits = bound;
        within = subst (IsWithin limit) (sym same) before.within;
        first = subst (λ n. HasFirstRoom limit n now) (sym same) before.first;
        kept = before.kept;
      })

  -- a read that gave nothing
  pub HasRead-last : (d d1 d2 : DecoderState) (r r1 r2 : R) (len count : ℕ)
      (made bytes items : List ℕ)
      → HasRead remaining step d r (take len made) d1 r1 → take len bytes ≡ take len made → items
      ≡ take len bytes → count ≡ 0
      → Reads remaining step d1 r1 (take count (drop len bytes)) d2 r2 → d2.capacity ≡ d1.capacity
      → HasRead remaining step d r items d2 r2
  HasRead-last d d1 d2 r r1 r2 len count made bytes items before front is zero reads held =
      subst (λ l. HasRead remaining step d r l d2 r2)
      (ap (λ n. take len made ++ take n (drop len bytes)) zero
      ∙ (append-nil (take len made) ∙ sym (is ∙ front)))
      (HasRead-more remaining step d d1 d2 r r1 r2 (take len made) (take count (drop len bytes))
      before reads held)
