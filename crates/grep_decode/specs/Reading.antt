-- A standard reader as a source, and calls of a source that end in an error.
use Rattle.std.specs.Prelude.{ℕ, List, take, Option, Result, Ok, Err}
use Rattle.std.specs.declared.io.Error.{Error}
use Rattle.grep_decode.specs.Source.{ReadResult, Pulls}

-- what contracts see of the reader: itself, and what its last call returned
pub record Reader (R : Type 0) : Type 0 where
  pub inner : R
  pub last : Option (Result ℕ Error)

-- the result as bytes, where the call returned how many are at the front of a buffer
abbrev pub read_result : Result ℕ Error → List ℕ → ReadResult
read_result (Ok n) buffer = Ok (take n buffer)
read_result (Err e) buffer = Err e

-- by calls that returned bytes, and then one that returned this error
abbrev pub FailsWith : {S : Type 0} → (S → ReadResult → S → Type 0) → S → Error → S → Type 0
FailsWith {S} step old e new =
    (pieces : List (List ℕ)) × (mid : S) × Pulls step old pieces mid × step mid (Err e) new
