-- What a source of bytes does in a call, and in a run of calls that return bytes.
use Rattle.std.specs.Prelude.{◌≡◌, ℕ, ◌<◌, Bool, true, false, List, [], ◌∷◌, length, Option}
use Rattle.std.specs.Prelude.{Result, Ok}
use Rattle.std.specs.Io.KnownBytes.{IsAtEnd}
use Rattle.std.specs.declared.io.Error.{Error}

-- the result of a call: the bytes that it returned, or the error
abbrev pub ReadResult : Type 0
ReadResult = Result (List ℕ) Error

module _ {S : Type 0} (step : S → ReadResult → S → Type 0) where
  -- from the old state to the new one by calls that returned these pieces, none of them empty
  abbrev pub Pulls : S → List (List ℕ) → S → Type 0
  Pulls old [] new = old ≡ new
  Pulls old (piece ∷ pieces) new = (0 < length piece)
      × ((mid : S) × step old (Ok piece) mid × Pulls mid pieces new)

module _ {R : Type 0} (remaining : R → Option (List ℕ))
    (read_step : R → ReadResult → R → Type 0) where
  -- calls of a reader returned these pieces, and then one more returned no bytes, if it has ended
  abbrev pub Reads : Bool → R → List (List ℕ) → R → Type 0
  Reads false old pieces new = Pulls read_step old pieces new
  Reads true old pieces new = (mid : R) × Pulls read_step old pieces mid × read_step mid (Ok []) new
      × IsAtEnd (remaining new)
