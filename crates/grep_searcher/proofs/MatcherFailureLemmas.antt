-- Why a search fails, also if its matcher may fail.
use Rattle.std.proofs.Common.{◌≡◌, ◌⊎◌, ℕ, Bool, true, false, List, Option, inl, inr, refl, subst}
use Rattle.std.proofs.Common.{Err, Some}
use Rattle.std.specs.declared.io.Error.{Error}
use Rattle.std.specs.Prelude.{Result}
use Rattle.grep_decode.specs.Source.{ReadResult}
use Rattle.grep_matcher.specs.Meanings.{MatcherFacts}
use Rattle.grep_report.specs.ErrorMakers.{ErrorMakers}
use Rattle.grep_definitions.specs.Plans.{Outcome, Plan, Planned, Settings, Steps}
use Rattle.grep_definitions.specs.Searches.{IsRead, IsSearchOf, IsUnlessRefusedBy, look_of}
use Rattle.grep_definitions.specs.Searches.{plan_with}
use Rattle.grep_definitions.specs.Searches.{asked, Points, ran}
use Rattle.grep_definitions.specs.SliceSearches.{is_searched_unchanged, IsSliceRead, IsSliceSearch}
use Rattle.grep_definitions.specs.SliceSearches.{IsSliceSearchedIf, IsUndecoded}
use Rattle.grep_searcher.specs.MatcherFailures.{FailsAtQuestion, ReadersFailFor, SlicesFailFor}
use Rattle.grep_searcher.specs.SinkFolds.{FailsAtStep}
use Rattle.grep_searcher.proofs.SinkFoldLemmas.{made-fails}

module _ {S E F : Type 0} (step : Steps S E) (errors : ErrorMakers F E) (matcher : MatcherFacts F)
  where
    -- an error of a search of lines is that of its last step, or of a question
    search-fails : (k : Settings) {IsAt : Points} {IsAsked : List ℕ → List Planned → Type 0}
        {HasRead : Plan → Outcome E → Result (Unit {0}) E → Type 0} (plan : Plan) (old : S) (e : E)
        (new : S) → IsSearchOf step errors matcher k IsAt IsAsked HasRead plan old (Err e) new
        → FailsAtStep step errors matcher k e new ⊎ FailsAtQuestion errors matcher e
    search-fails k plan old e new (ran point at run read) =
        let made = plan_with k.binary_detection point plan in
        inl (made-fails step k made.finish e new made.calls old run.outcome run.mid run.made
        run.finished)
    search-fails k plan old e new (asked haystack error calls asks fails message made) =
        inr (haystack, error, fails, message)

    pub readers-fail_for : {R : Type 0} (remaining : R → Option (List ℕ))
        (read_step : R → ReadResult → R → Type 0)
        → ReadersFailFor step errors matcher remaining read_step
    readers-fail_for remaining read_step state reader old e reader' new sound searched =
        let k = state.settings in
        elim (subst (IsUnlessRefusedBy errors matcher k old (Err e) new (reader' ≡ reader)
        (IsRead remaining read_step step errors matcher state (look_of k matcher.meaning false)
        reader old (Err e) reader' new)) sound.allowed searched sound.lawful) [
          | inl search ↦ elim (search-fails k _ old e new search.over_seen) [
            | inl fails ↦ inl fails
            | inr fails ↦ inr (inl fails)
          ]
          | inr cut ↦ inr (inr (
            cut.begun,
            cut.seen,
            cut.error,
            (cut.mid, cut.taken, cut.cause),
            cut.made,
          ))
        ]

    pub slices-fail_for : SlicesFailFor step errors matcher
    slices-fail_for state input old e new sound searched =
        go (is_searched_unchanged state.settings input) refl searched
      where
        go : (b : Bool) → is_searched_unchanged state.settings input ≡ b
            → IsSliceSearchedIf step errors matcher state input b old (Err e) new
            → FailsAtStep step errors matcher state.settings e new
            ⊎ (FailsAtQuestion errors matcher e
            ⊎ ((begun : Bool) × (seen : List ℕ) × (error : Error)
            × IsUndecoded state matcher.meaning input begun seen error × errors.is_io error e))
        go true is searched =
            elim (search-fails state.settings _ old e new
            (subst (IsUnlessRefusedBy errors matcher state.settings old (Err e) new (Unit {0})
            (IsSliceSearch step errors matcher state.settings input old (Err e) new)) sound.allowed
            searched sound.lawful)) [
              | inl fails ↦ inl fails
              | inr fails ↦ inr (inl fails)
            ]
        go false is (rest, searched) =
            elim (readers-fail_for (λ all. Some all) IsSliceRead state input old e rest new sound
            searched) [
              | inl fails ↦ inl fails
              | inr (inl fails) ↦ inr (inl fails)
              | inr (inr cut) ↦ inr (inr (cut.0, cut.1, cut.2, (is, rest, cut.3), cut.4))
            ]
