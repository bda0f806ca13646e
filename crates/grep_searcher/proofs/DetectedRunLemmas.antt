-- What a search under any binary detection comes to.
use Rattle.std.proofs.Common.{◌≡◌, ℕ, true, false, not, List, Option, Some, inl, inr, length, refl}
use Rattle.std.proofs.Common.{subst, sym}
use Rattle.std.specs.List.{concat}
use Rattle.std.specs.Prelude.{◌&&◌, ◌++◌, [], Result, Ok, Err}
use Rattle.grep_decode.specs.Source.{ReadResult}
use Rattle.grep_matcher.specs.Meanings.{IsInfallible, MatcherFacts}
use Rattle.grep_report.specs.ErrorMakers.{ErrorMakers}
use Rattle.grep_report.specs.declared.binary_detection.BinaryDetection.{BinaryDetection}
use Rattle.grep_report.specs.declared.binary_detection.BinaryDetection.TheVariants.{None as no_detection}
use Rattle.grep_report.specs.declared.binary_detection.BinaryDetection.TheVariants.{Quit, Convert}
use Rattle.grep_definitions.specs.Plans.{IsAskedWith, Outcome, Plan, Planned, Settings}
use Rattle.grep_definitions.specs.Plans.{SearcherState, Steps, is_across, refusal_of, search_plan}
use Rattle.grep_definitions.specs.Searches.{IsPoint, IsRead, IsSearchOf, IsUnlessRefusedBy, Look}
use Rattle.grep_definitions.specs.Searches.{asked, look_at, look_of, plan_with, ran, searched_bytes}
use Rattle.grep_definitions.specs.Searches.{view_in, viewed_plan}
use Rattle.grep_searcher.specs.SinkFolds.{FailsAtStep}
use Rattle.grep_definitions.specs.SliceSearches.{IsSliceRead, IsSliceSearch, IsSliceSearchedIf}
use Rattle.grep_definitions.proofs.KnownReaderLemmas.{taken-input}
use Rattle.grep_definitions.proofs.SeenSearchLemmas.{input-search}
use Rattle.grep_searcher.proofs.SinkFoldLemmas.{made-fails, not-refused}
use Rattle.grep_searcher.specs.DetectedRuns.{DecodedSlicesFailWith, DecodedSlicesRunWith}
use Rattle.grep_searcher.specs.DetectedRuns.{IsKnownRunWith, IsReaderRunWith, IsRunWith}
use Rattle.grep_searcher.specs.DetectedRuns.{KnownReadersFailWith, KnownReadersRunWith}
use Rattle.grep_searcher.specs.DetectedRuns.{ReadersFailWith, ReadersRunWith, SlicesFailWith}
use Rattle.grep_searcher.specs.DetectedRuns.{SlicesRunWith}

module _ {S E F : Type 0} (step : Steps S E) (errors : ErrorMakers F E) (matcher : MatcherFacts F)
  where
    -- a search of what is seen of some bytes is a run, if it ended in `Ok` or the matcher never
    -- fails
    run-with : (k : Settings) (look : Look) (bytes : List ℕ) (count : ℕ) {IsAsked : List ℕ
        → List Planned → Type 0}
        {HasRead : Plan → Outcome E → Result (Unit {0}) E → Type 0} (old new : S)
        → IsSearchOf step errors matcher k (IsPoint k matcher.meaning bytes look count) IsAsked
        HasRead (viewed_plan k matcher.meaning look bytes) old (Ok tt) new
        → IsRunWith step errors matcher k look bytes count old (Ok tt) new
    run-with k look bytes count old new (ran point at run read) = record {
      point = point;
      placed = at;
      run = run;
    }

    fail-with : (k : Settings) (look : Look) (bytes : List ℕ) (count : ℕ) {IsAsked : List ℕ
        → List Planned → Type 0}
        {HasRead : Plan → Outcome E → Result (Unit {0}) E → Type 0} (old : S) (e : E) (new : S)
        → IsInfallible matcher.fails
        → IsSearchOf step errors matcher k (IsPoint k matcher.meaning bytes look count) IsAsked
        HasRead (viewed_plan k matcher.meaning look bytes) old (Err e) new
        → IsRunWith step errors matcher k look bytes count old (Err e) new
    fail-with k look bytes count old e new infallible (ran point at run read) =
        record { point = point; placed = at; run = run }
    fail-with k look bytes count old e new infallible
        (asked haystack error calls asks fails message made) =
        absurd (infallible haystack error fails)

    -- such a run that ended in an error failed at a step of the sink
    pub run_with-fails : (k : Settings) (look : Look) (bytes : List ℕ) (count : ℕ) (old : S) (e : E)
        (new : S) → IsRunWith step errors matcher k look bytes count old (Err e) new
        → FailsAtStep step errors matcher k e new
    run_with-fails k look bytes count old e new with_point =
        let plan = plan_with k.binary_detection with_point.point
        (viewed_plan k matcher.meaning look bytes) in
        let run = with_point.run in
        made-fails step k plan.finish e new plan.calls old run.outcome run.mid run.made run.finished

    -- what is searched of a slice that is searched as it is
    view-unchanged : (k : Settings) (input : List ℕ) → view_in k (look_of k matcher.meaning true)
        input ≡ input
    view-unchanged k input = go k.binary_detection
      where
        go : (detection : BinaryDetection)
            → view_in k (look_at detection (not true && not (is_across k matcher.meaning))) input
            ≡ input
        go no_detection = refl
        go (Quit b) = refl
        go (Convert b) = refl

    -- a search of such a slice that isn't refused
    slice-viewed : (k : Settings) (input : List ℕ) (old : S) (result : Result (Unit {0}) E)
        (new : S) → IsSliceSearch step errors matcher k input old result new
        → IsSearchOf step errors matcher k
        (IsPoint k matcher.meaning input (look_of k matcher.meaning true) (length input))
        (IsAskedWith k matcher.meaning input) (λ plan outcome ended. Unit {0})
        (viewed_plan k matcher.meaning (look_of k matcher.meaning true) input) old result new
    slice-viewed k input old result new searched =
        subst (λ bytes. IsSearchOf step errors matcher k
        (IsPoint k matcher.meaning input (look_of k matcher.meaning true) (length input))
        (IsAskedWith k matcher.meaning input) (λ plan outcome ended. Unit {0})
        (search_plan k matcher.meaning bytes)
        old result new) (sym (view-unchanged k input)) searched

    pub slices-run_with : SlicesRunWith step errors matcher
    slices-run_with state input old new is lawful searched =
        let k = state.settings in
        let allowed = not-refused step errors matcher k old new (Unit {0}) _
        (refusal_of k matcher.meaning) lawful
        (subst (λ b. IsSliceSearchedIf step errors matcher state input b old (Ok tt) new) is
        searched) in
        run-with k (look_of k matcher.meaning true) input (length input) old new
        (slice-viewed k input old (Ok tt) new allowed)

    pub slices-fail_with : SlicesFailWith step errors matcher
    slices-fail_with state input old e new is sound searched =
        let k = state.settings in
        let allowed = subst (IsUnlessRefusedBy errors matcher k old (Err e) new (Unit {0})
        (IsSliceSearch step errors matcher k input old (Err e) new)) sound.allowed
        (subst (λ b. IsSliceSearchedIf step errors matcher state input b old (Err e) new) is
        searched) sound.lawful in
        fail-with k (look_of k matcher.meaning true) input (length input) old e new sound.infallible
        (slice-viewed k input old (Err e) new allowed)

    module _ {R : Type 0} (remaining : R → Option (List ℕ)) (read_step : R → ReadResult → R
        → Type 0)
      where
        pub readers-run_with : ReadersRunWith step errors matcher remaining read_step
        readers-run_with state reader old reader' new lawful searched =
            let k = state.settings in
            let look = look_of k matcher.meaning false in
            let search = not-refused step errors matcher k old new (reader' ≡ reader) _
            (refusal_of k matcher.meaning)
            lawful searched in record {
              search = search;
              runs = λ bytes input. run-with k look bytes (length search.seen) old new
                  (input-search step errors matcher state look search bytes input);
            }

        pub readers-fail_with : ReadersFailWith step errors matcher remaining read_step
        readers-fail_with state reader old e reader' new sound searched =
            let k = state.settings in
            let look = look_of k matcher.meaning false in
            elim (subst (IsUnlessRefusedBy errors matcher k old (Err e) new (reader' ≡ reader)
            (IsRead remaining read_step
            step errors matcher state look reader old (Err e) reader' new)) sound.allowed searched
            sound.lawful) [
              | inl search ↦ inl (record {
                search = search;
                runs = λ bytes input. fail-with k look bytes (length search.seen) old e new
                    sound.infallible
                    (input-search step errors matcher state look search bytes input);
              })
              | inr cut ↦ inr cut
            ]

        -- the decoded bytes of what remains are those of an input that begins with what was taken
        known : (state : SearcherState) (reader : R) (input : List ℕ) (old : S)
            (result : Result (Unit {0}) E) (reader' : R) (new : S) → remaining reader ≡ Some input
            → IsReaderRunWith step errors matcher remaining read_step state reader old result
            reader' new
            → IsKnownRunWith step errors matcher remaining read_step state reader old input result
            reader' new
        known state reader input old result reader' new all every = record {
          search = every.search;
          runs = every.runs (searched_bytes state.settings input)
              (taken-input remaining read_step state.settings input reader reader' all
              every.search.taken);
        }

        pub known_readers-run_with : KnownReadersRunWith step errors matcher remaining read_step
        known_readers-run_with state reader input old reader' new all lawful searched =
            known state reader input old (Ok tt) reader' new all
            (readers-run_with state reader old reader' new lawful searched)

        pub known_readers-fail_with : KnownReadersFailWith step errors matcher remaining read_step
        known_readers-fail_with state reader input old e reader' new all sound searched =
            elim (readers-fail_with state reader old e reader' new sound searched) [
              | inl every ↦ inl (known state reader input old (Err e) reader' new all every)
              | inr cut ↦ inr cut
            ]

        -- a run of a reader that ended in an error failed at a step of the sink: it is one for the
        -- bytes that were taken
        pub reader_run-fails : (state : SearcherState) (reader : R) (old : S) (e : E) (reader' : R)
            (new : S) → IsReaderRunWith step errors matcher remaining read_step state reader old
            (Err e) reader' new → FailsAtStep step errors matcher state.settings e new
        reader_run-fails state reader old e reader' new every =
            let taken = every.search.taken in
            let bytes = searched_bytes state.settings (concat taken.pieces ++ []) in
            run_with-fails state.settings (look_of state.settings matcher.meaning false) bytes
            (length every.search.seen) old e new (every.runs bytes ([], (λ ended. refl), refl))

    pub decoded_slices-run_with : DecodedSlicesRunWith step errors matcher
    decoded_slices-run_with state input old new is lawful searched =
        let of_reader = subst (λ b. IsSliceSearchedIf step errors matcher state input b old
        (Ok tt) new) is searched in (
          of_reader.0,
          known_readers-run_with (λ all. Some all) IsSliceRead state input input old of_reader.0 new
              refl lawful of_reader.1,
        )

    pub decoded_slices-fail_with : DecodedSlicesFailWith step errors matcher
    decoded_slices-fail_with state input old e new is sound searched =
        let of_reader = subst (λ b. IsSliceSearchedIf step errors matcher state input b old
        (Err e) new) is searched in (
          of_reader.0,
          known_readers-fail_with (λ all. Some all) IsSliceRead state input input old e of_reader.0
              new refl sound of_reader.1,
        )
