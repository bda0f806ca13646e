-- A sink that looks for a byte in each report, and passes the calls on up to the first report that
-- holds the byte. The contracts of private functions cite these definitions; no public contract
-- does.
use Rattle.std.specs.Prelude.{◌≡◌, ◌⊎◌, ℕ, ◌+◌, Bool, true, false, Option, None, Some, Result, Ok}
use Rattle.std.specs.Prelude.{Err, [], ◌∷◌}
use Rattle.grep_definitions.specs.Searches.{position_of, planned_binary, with_offset}
use Rattle.grep_definitions.specs.Plans.{Settings, Call, begins, matches, context, breaks}
use Rattle.grep_definitions.specs.Plans.{binary_data, finishes, Steps, Plan, counted, planned}
use Rattle.grep_searcher.specs.declared.search.quitting.Quitting.{Quitting}

-- the sink, whether a break is held back until the report after it is looked at, and the offset of
-- the byte if a report held it
pub record Watch (S : Type 0) : Type 0 where
  pub sink : S
  pub has_break : Bool
  pub found : Option ℕ

-- the plan of a search that ends at a byte before its first line
abbrev pub first_quit : ℕ → Plan
first_quit offset = record {
  calls = planned begins 0
      ∷ planned_binary (record { position = 1; offset = offset; count = 0 }) ∷ [];
  finish = with_offset offset (counted 0);
}

-- the search ends, whatever `binary_data` returned
abbrev pub end_result : {E : Type 0} → Result Bool E → Result Bool E
end_result (Ok goes_on) = Ok false
end_result (Err e) = Err e

-- the byte count of `finish`: that offset, if there is one
abbrev pub count_to : Option ℕ → ℕ → ℕ
count_to None count = count
count_to (Some offset) count = offset

module _ {S E : Type 0} (step : Steps S E) (may_call : S → Type 0) where
  -- a break that was held back, and the report if the break returned true: then the sink may be
  -- called
  abbrev pub IsMadeAfter : Bool → S → Settings → Call → Result Bool E → S → Type 0
  IsMadeAfter false old settings call result new = step old settings call result new
  IsMadeAfter true old settings call result new =
      ((mid : S) × may_call mid × step old settings breaks (Ok true) mid
      × step mid settings call result new)
      ⊎ (result ≡ Ok true → ⊥) × step old settings breaks result new

  -- a report of bytes from an offset on, by where the byte is in them: without it the report is
  -- made, else `binary_data` is called in its place and its break isn't made
  abbrev pub IsLookedAt : Option ℕ → ℕ → Watch S → Settings → Call → Result Bool E → Watch S
      → Type 0
  IsLookedAt None from old settings call result new =
      (new.found ≡ old.found) × (new.has_break ≡ false)
      × IsMadeAfter old.has_break old.sink settings call result new.sink
  IsLookedAt (Some index) from old settings call result new =
      (new.found ≡ Some (from + index)) × (new.has_break ≡ false)
      × ((returned : Result Bool E) × (result ≡ end_result returned)
      × step old.sink settings (binary_data (from + index)) returned new.sink)

  -- any other call is passed on
  abbrev pub IsPassedOn : Watch S → Settings → Call → Result Bool E → Watch S → Type 0
  IsPassedOn old settings call result new =
      (new.found ≡ old.found) × (new.has_break ≡ old.has_break)
      × step old.sink settings call result new.sink

  -- the steps of that sink, where the byte is b
  abbrev pub IsQuittingStep : ℕ → Steps (Watch S) E
  IsQuittingStep b old settings begins result new = IsPassedOn old settings begins result new
  IsQuittingStep b old settings (matches number from bytes around) result new =
      IsLookedAt (position_of b bytes) from old settings (matches number from bytes around) result
      new
  IsQuittingStep b old settings (context kind number from bytes) result new =
      IsLookedAt (position_of b bytes) from old settings (context kind number from bytes) result new
  IsQuittingStep b old settings breaks result new =
      (new ≡ record old { has_break = true }) × (result ≡ Ok true)
  IsQuittingStep b old settings (binary_data offset) result new =
      IsPassedOn old settings (binary_data offset) result new
  IsQuittingStep b old settings (finishes count binary) result new =
      IsPassedOn old settings (finishes (count_to old.found count) old.found) result new

-- what is known of such a sink between two calls
abbrev pub watch_of : {S : Type 0} → Quitting S → Watch S
watch_of q = record { sink = q.sink.now; has_break = q.has_break; found = q.found }

-- a call of such a sink
abbrev pub Quits : {S E : Type 0} → Steps S E → (S → Type 0) → Steps (Quitting S) E
Quits step may_call old settings call result new =
    (new.sink.ghost_name ≡ old.sink.ghost_name) × (new.byte ≡ old.byte)
    × IsQuittingStep step may_call old.byte (watch_of old) settings call result (watch_of new)
