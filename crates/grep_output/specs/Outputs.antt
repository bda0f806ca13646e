-- What an output of bytes does in a call, and in a run of calls.
use Rattle.std.specs.Prelude.{◌≡◌, ℕ, ◌-◌, ◌^◌, ◌<◌, ◌≤◌, List, [], ◌∷◌, ◌++◌, length, take, Result}
use Rattle.std.specs.Prelude.{Ok, Err}
use Rattle.std.specs.IoError.{error_kind}
use Rattle.std.specs.List.{All}
use Rattle.std.specs.declared.io.Error.{Error}
use Rattle.std.specs.declared.io.ErrorKind.TheVariants.{Interrupted, WriteZero}

-- a call: a write of some bytes, which returned how many of the first it took, or a flush
pub data OutputCall : Type 0 where
  writes : List ℕ → Result ℕ Error → OutputCall
  flushes : Result (Unit {0}) Error → OutputCall

-- the bytes that a call took
abbrev pub taken_by : OutputCall → List ℕ
taken_by (writes bytes (Ok n)) = take n bytes
taken_by (writes bytes (Err e)) = []
taken_by (flushes result) = []

-- those that some calls took, in order
abbrev pub taken_by_all : List OutputCall → List ℕ
taken_by_all [] = []
taken_by_all (call ∷ later) = taken_by call ++ taken_by_all later

-- the call is a write that was interrupted
abbrev pub IsInterrupted : OutputCall → Type 0
IsInterrupted (writes bytes (Ok n)) = ⊥
IsInterrupted (writes bytes (Err e)) = error_kind e ≡ Interrupted
IsInterrupted (flushes result) = ⊥

-- another write may follow: the call is a write that took some bytes, or was interrupted
abbrev pub GoesOn : OutputCall → Type 0
GoesOn (writes bytes (Ok n)) = 0 < length (take n bytes)
GoesOn (writes bytes (Err e)) = IsInterrupted (writes bytes (Err e))
GoesOn (flushes result) = ⊥

-- the call is a write that ends in this error: it returned the error, or took none of some bytes
abbrev pub EndsIn : Error → OutputCall → Type 0
EndsIn error (writes bytes (Ok n)) =
    (0 < length bytes) × (n ≡ 0) × (error_kind error ≡ WriteZero)
EndsIn error (writes bytes (Err e)) = e ≡ error
EndsIn error (flushes result) = ⊥

-- some first bytes of a text
abbrev pub Begins : List ℕ → List ℕ → Type 0
Begins part text = (rest : List ℕ) × (text ≡ part ++ rest)

module _ {S : Type 0} (step : S → OutputCall → S → Type 0) where
  -- from the old state to the new one by these calls
  abbrev pub AreCalled : S → List OutputCall → S → Type 0
  AreCalled old [] new = old ≡ new
  AreCalled old (call ∷ later) new = (mid : S) × step old call mid × AreCalled mid later new

  -- from the old state to the new one by writes alone, which took these bytes. After each of them
  -- another one may follow
  pub record WritesAll (old : S) (bytes : List ℕ) (new : S) : Type 0 where
    pub calls : List OutputCall
    pub made : AreCalled old calls new
    pub go_on : All GoesOn calls
    pub taken : taken_by_all calls ≡ bytes

  -- such writes took some first bytes of a text, and the next one ended in this error. One that was
  -- interrupted is the last only after 2^64 - 1 others
  pub record FailsToWrite (old : S) (text : List ℕ) (error : Error) (new : S) : Type 0 where
    pub part : List ℕ
    pub begins : Begins part text
    pub mid : S
    pub written : WritesAll old part mid
    pub call : OutputCall
    pub last : step mid call new
    pub ends_in : EndsIn error call
    pub gives_up : IsInterrupted call → 2 ^ 64 - 1 ≤ length written.calls

  -- a text is written, or the output fails before
  abbrev pub Writes : S → List ℕ → Result (Unit {0}) Error → S → Type 0
  Writes old text (Ok u) new = WritesAll old text new
  Writes old text (Err error) new = FailsToWrite old text error new

  -- a call, and before it no other than writes that were interrupted. If it was interrupted too, it
  -- is the last only after 2^64 - 1 others
  pub record Repeats (old : S) (call : OutputCall) (new : S) : Type 0 where
    pub mid : S
    pub tries : WritesAll old [] mid
    pub last : step mid call new
    pub gives_up : IsInterrupted call → 2 ^ 64 - 1 ≤ length tries.calls
