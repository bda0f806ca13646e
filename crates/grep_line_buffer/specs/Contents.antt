-- What reading a reader's contents gives, and why it fails.
use Rattle.std.specs.Prelude.{◌≡◌, ℕ, ◌*◌, ◌<◌, ◌≤◌, List, length, max, false, Option, Some, None}
use Rattle.std.specs.Prelude.{Err}
use Rattle.std.specs.declared.io.Error.{Error}
use Rattle.grep_decode.specs.DecoderStates.{DecoderState, Decodes}
use Rattle.grep_decode.specs.Source.{ReadResult}
use Rattle.grep_line_buffer.specs.declared.fill_error.FillError.{FillError}
use Rattle.grep_line_buffer.specs.declared.fill_error.FillError.TheVariants.{Read, HeapLimit}
use Rattle.grep_line_buffer.specs.declared.fill_error.FillError.TheVariants.{Offset, Memory}

-- for how many bytes there is room at first, if no limit is lower
abbrev pub first_size : ℕ
first_size = 65536

-- a number is below the limit, if there is one
abbrev pub IsBelow : Option ℕ → ℕ → Type 0
IsBelow None n = Unit {0}
IsBelow (Some limit) n = n < limit

-- The bytes fill all the room that there is. There was no memory for more, which is for twice as
-- many or for the first bytes, but not for more than the limit: a vector of that capacity lacks no
-- memory.
pub record LacksMemory (limit : Option ℕ) (capacity : ℕ) (bytes : List ℕ) : Type 0 where
  pub below : IsBelow limit (length bytes)
  pub above : IsBelow limit capacity
  pub more : capacity < max first_size (2 * length bytes)
  pub some : 0 < length bytes → first_size ≤ length bytes

-- what each error means, if a vector of this capacity has these bytes after it
abbrev pub ContentsFail : Option ℕ → ℕ → List ℕ → FillError → Type 0
ContentsFail limit capacity bytes (Read e) = IsBelow limit (length bytes)
ContentsFail limit capacity bytes HeapLimit = limit ≡ Some (length bytes)
ContentsFail limit capacity bytes Offset = ⊥
ContentsFail limit capacity bytes Memory = LacksMemory limit capacity bytes

module _ {R : Type 0} (remaining : R → Option (List ℕ)) (step : R → ReadResult → R → Type 0) where
  -- Reads of the decoder gave these bytes, and then one more call of the reader returned this
  -- error. The decoder has still to give all that it had then.
  pub record FailsAfter (error : Error) (decoder : DecoderState) (reader : R) (given : List ℕ)
      (decoder' : DecoderState) (reader' : R) : Type 0 where
    pub mid : R
    pub decodes : Decodes remaining step decoder reader given decoder' mid
    pub unended : decoder'.has_ended ≡ false
    pub failed : step mid (Err error) reader'
