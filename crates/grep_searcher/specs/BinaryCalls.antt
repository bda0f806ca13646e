-- How the first binary byte of a stream is reported. The contracts of private functions cite
-- these definitions; no public contract does.
use Rattle.std.specs.Prelude.{◌≡◌, ◌⊎◌, ◌&&◌, Bool, true, ℕ, Option, None, Some, is_none, is_some}
use Rattle.std.specs.Prelude.{Ok, Err}
use Rattle.grep_report.specs.BinaryDetections.{quit_byte_of}
use Rattle.grep_definitions.specs.Plans.{Settings, binary_data, Steps}

-- a sink's state, and the offset of the first binary byte if it was reported
pub record Noted (S : Type 0) : Type 0 where
  pub sink : S
  pub binary : Option ℕ

module _ {S E : Type 0} (step : Steps S E) (settings : Settings) where
  -- `binary_data` was called with the offset of a binary byte that wasn't known, and the search
  -- goes on if that returned true and the byte doesn't end it; or there was no such byte, and it
  -- goes on
  abbrev pub PassesBinary : Option ℕ → Noted S → Bool → Noted S → Type 0
  PassesBinary found old goes_on new =
      ((offset : ℕ) × (found ≡ Some offset) × (old.binary ≡ None) × (new.binary ≡ Some offset)
      × ((returned : Bool)
      × step old.sink settings (binary_data offset) (Ok returned) new.sink
      × (goes_on ≡ (returned && is_none (quit_byte_of settings.binary_detection)))))
      ⊎ ((found ≡ None) ⊎ (is_some old.binary ≡ true)) × (goes_on ≡ true) × (new ≡ old)

  -- or that call failed
  abbrev pub FailsAtBinary : Option ℕ → Noted S → E → Noted S → Type 0
  FailsAtBinary found old e new =
      (offset : ℕ) × (found ≡ Some offset) × (old.binary ≡ None)
      × step old.sink settings (binary_data offset) (Err e) new.sink
