-- Why a search fails, if the matcher never does.
use Rattle.std.proofs.Common.{◌≡◌, ◌⊎◌, ℕ, Bool, true, false, List, Option, inl, inr, length, refl}
use Rattle.std.specs.declared.io.Error.{Error}
use Rattle.grep_decode.specs.Source.{ReadResult}
use Rattle.grep_matcher.specs.Meanings.{MatcherFacts}
use Rattle.grep_report.specs.ErrorMakers.{ErrorMakers}
use Rattle.grep_definitions.specs.Plans.{Steps}
use Rattle.grep_definitions.specs.Searches.{look_of, searched_bytes}
use Rattle.grep_searcher.specs.SinkFolds.{FailsAtStep}
use Rattle.grep_definitions.specs.SliceSearches.{IsUndecoded, is_searched_unchanged}
use Rattle.grep_searcher.proofs.DetectedRunLemmas.{decoded_slices-fail_with, reader_run-fails}
use Rattle.grep_searcher.proofs.DetectedRunLemmas.{readers-fail_with, run_with-fails}
use Rattle.grep_searcher.proofs.DetectedRunLemmas.{slices-fail_with}
use Rattle.grep_searcher.specs.SearchFailures.{ReadersFail, SlicesFail}

module _ {S E F : Type 0} (step : Steps S E) (errors : ErrorMakers F E) (matcher : MatcherFacts F)
  where
    pub slices-fail : SlicesFail step errors matcher
    slices-fail state input old e new sound searched =
        go (is_searched_unchanged state.settings input) refl
      where
        go : (b : Bool) → is_searched_unchanged state.settings input ≡ b
            → FailsAtStep step errors matcher state.settings e new
            ⊎ ((begun : Bool) × (seen : List ℕ) × (error : Error)
            × IsUndecoded state matcher.meaning input begun seen error × errors.is_io error e)
        go true is =
            inl (run_with-fails step errors matcher state.settings
            (look_of state.settings matcher.meaning true) input
            (length input) old e new (slices-fail_with step errors matcher state input old e new is
            sound searched))
        go false is =
            let of_reader = decoded_slices-fail_with step errors matcher state input old e new is
            sound searched in
            elim of_reader.1 [
              | inl run ↦ inl (run_with-fails step errors matcher state.settings
                  (look_of state.settings matcher.meaning false)
                  (searched_bytes state.settings input) (length run.search.seen) old e new run.runs)
              | inr cut ↦ inr (
                cut.begun,
                cut.seen,
                cut.error,
                (is, of_reader.0, (cut.mid, cut.taken, cut.cause)),
                cut.made,
              )
            ]

    pub readers-fail : {R : Type 0} (remaining : R → Option (List ℕ)) (read_step : R → ReadResult
        → R → Type 0) → ReadersFail step errors matcher remaining read_step
    readers-fail remaining read_step state reader old e reader' new sound searched =
        elim (readers-fail_with step errors matcher remaining read_step state reader old e reader'
        new
        sound searched) [
          | inl run ↦ inl (reader_run-fails step errors matcher remaining read_step state reader old
              e reader' new run)
          | inr cut ↦ inr (
            cut.begun,
            cut.seen,
            cut.error,
            (cut.mid, cut.taken, cut.cause),
            cut.made,
          )
        ]
