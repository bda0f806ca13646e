-- Texts that are put together before they are written.
use Rattle.std.specs.Prelude.{◌≡◌, ◌⊎◌, ℕ, Bool, false, List, ◌++◌, Result, Ok, Err}
use Rattle.std.specs.declared.io.Error.{Error}
use Rattle.grep_output.specs.Outputs.{OutputCall, FailsToWrite, WritesAll, flushes}

-- texts that aren't written yet, the last of which is being made piece by piece: the others, that
-- one, and whether memory was out for it
pub record PendingText : Type 0 where
  pub before : List ℕ
  pub text : List ℕ
  pub has_failed : Bool

-- their bytes
abbrev pub pending_bytes : PendingText → List ℕ
pending_bytes pending = pending.before ++ pending.text

-- the texts before stay, and if memory was there, the one that is being made has some bytes more at
-- its end
abbrev pub Adds : PendingText → PendingText → List ℕ → Type 0
Adds old new bytes =
    (new.before ≡ old.before)
    × (new.has_failed ≡ false → (old.has_failed ≡ false) × (new.text ≡ old.text ++ bytes))

module _ {S : Type 0} (step : S → OutputCall → S → Type 0) where
  -- a text comes after what is pending: some first bytes of both are written, and the others are
  -- pending then
  pub record PutsAll (old : S) (pending text : List ℕ) (new : S) (later : List ℕ) : Type 0 where
    pub bytes : List ℕ
    pub written : WritesAll step old bytes new
    pub split : pending ++ text ≡ bytes ++ later

  -- a text comes after what is pending, or the output fails after some first bytes of both
  abbrev pub Puts : S → List ℕ → List ℕ → Result (Unit {0}) Error → S → List ℕ → Type 0
  Puts old pending text (Ok u) new later = PutsAll old pending text new later
  Puts old pending text (Err error) new later = FailsToWrite step old (pending ++ text) error new

  -- what is pending is written, and a flush returned this
  pub record WritesAndFlushes (old : S) (pending : List ℕ) (flushed : Result (Unit {0}) Error)
      (new : S) : Type 0 where
    pub mid : S
    pub written : WritesAll step old pending mid
    pub last : step mid (flushes flushed) new

  -- what is pending is written and flushed, or the output fails after some first bytes of it
  abbrev pub Flushes : S → List ℕ → Result (Unit {0}) Error → S → Type 0
  Flushes old pending (Ok u) new = WritesAndFlushes old pending (Ok u) new
  Flushes old pending (Err error) new =
      FailsToWrite step old pending error new ⊎ WritesAndFlushes old pending (Err error) new
