-- A search of a source with the sink of a printer has written the texts of its calls.
use Rattle.std.proofs.Common.{◌≡◌, ℕ, Bool, true, false, List, Option, None, Some}
use Rattle.std.proofs.Common.{Result, Ok, Err, length, refl, subst, sym, inl, inr}
use Rattle.std.specs.Global.{Global}
use Rattle.std.specs.Prelude.{OnOk}
use Rattle.std.specs.declared.io.Error.{Error}
use Rattle.grep_output.specs.Outputs.{OutputCall}
use Rattle.grep_printer.proofs.WalkLemmas.{calls-print, run-fails, run-prints}
use Rattle.grep_printer.specs.Formats.{PrintedCall, Rules, goes_on_after_each}
use Rattle.grep_printer.specs.PrinterSteps.{IsSameSink, PrintsCall, scene_of}
use Rattle.grep_printer.specs.declared.printer.PrinterSink.{PrinterSink}
use Rattle.grep_searcher.specs.Meanings.{MatcherFacts}
use Rattle.grep_searcher.specs.Plans.{Call, IsAskedWith, IsRun, Plan, Planned, SearcherState, Settings, all_true}
use Rattle.grep_searcher.specs.Plans.{finish_after, is_across, refusal_of}
use Rattle.grep_searcher.specs.Plans.{search_plan}
use Rattle.grep_searcher.specs.Searches.{EachAsked, EachPoint, GoesOnWith, HasReadLines}
use Rattle.grep_searcher.specs.Searches.{IsAllSeen, IsCut, IsCutSearch, IsPoint}
use Rattle.grep_searcher.specs.Searches.{IsRead, IsReaderSearched, quits}
use Rattle.grep_searcher.specs.Searches.{IsSearchOf, IsUnlessRefusedBy, Look, Points, asked}
use Rattle.grep_searcher.specs.Searches.{calls_with, look_of, plan_with, ran, view_in}
use Rattle.grep_searcher.specs.Searches.{HasBegun, IsInOrder, IsInputOf, IsReadingError}
use Rattle.grep_searcher.specs.Searches.{asked_in_order, ran_in_order, read_in_order, viewed_plan}
use Rattle.grep_searcher.specs.SinkFolds.{InputsAreSearched}
use Rattle.grep_searcher.specs.Source.{ReadResult}
use Rattle.grep_searcher.specs.declared.ConfigError.{ConfigError}
use Rattle.grep_searcher.specs.declared.SearchError.{SearchError}
use Rattle.grep_searcher.specs.declared.SearchError.TheVariants.{Io}
use Rattle.grep_printer.specs.PrintedSearches.{IsAllSeenAfter, IsInputPrinted, IsPlanPrinted}
use Rattle.grep_printer.specs.PrintedSearches.{IsPointOfAll, IsPrintedInOrder, IsSearchPrinted}
use Rattle.grep_printer.specs.PrintedSearches.{IsSeenSearch, IsSourcePrinted, PrintsFirst}
use Rattle.grep_printer.specs.PrintedSearches.{PrintsPlan, of_input, of_matcher, of_plan, of_reading, search_errors}

module _ {F M W E : Type 0} (rules : Rules F) (output : E → Option (List ℕ)) (facts : M → MatcherFacts E)
    (first_at : M → List ℕ → ℕ → Option (ℕ × ℕ)) (write_step : W → OutputCall → W → Type 0) where
  abbrev StepOf : PrinterSink F M W → Settings → Call → Result Bool (SearchError Global) → PrinterSink F M W → Type 0
  StepOf = PrintsCall rules output facts first_at write_step

  -- a run along a plan, of whose calls more is known if all were made
  plan-printed : (Known : Plan → List PrintedCall → Type 0) (settings : Settings)
      (old : PrinterSink F M W) (plan : Plan)
      (result : Result (Unit {0}) (SearchError Global)) (new : PrinterSink F M W)
      (run : IsRun StepOf settings old plan result new)
      → ((printed : List PrintedCall)
      → (goes_on_after_each rules (scene_of old settings) old.format printed ≡ true → run.outcome ≡ all_true)
      → Known plan printed)
      → PrintsPlan rules output facts first_at write_step Known old settings plan result new
  plan-printed Known settings old plan (Ok u) new run known =
      let end = run-prints rules output facts first_at write_step settings old plan new run in
      (end.0, end.1, end.2, end.4, known end.0 end.3)
  plan-printed Known settings old plan (Err e) new run known =
      run-fails rules output facts first_at write_step settings old plan e new run

  -- some first calls
  first-printed : (settings : Settings) (old : PrinterSink F M W) (IsAt : Points) (calls : List Planned)
      (new : PrinterSink F M W)
      → GoesOnWith StepOf (search_errors output) (facts old.matcher) settings IsAt calls old new
      → PrintsFirst rules output facts first_at write_step old settings IsAt calls new
  first-printed settings old IsAt calls new (point, at, goes, made) =
      (point, at, goes, calls-print rules output facts first_at write_step settings old (calls_with point calls) new made)

  -- the search of an input
  input-printed : (settings : Settings) (look : Look) (bytes : List ℕ) (count : ℕ) (old : PrinterSink F M W)
      (result : Result (Unit {0}) (SearchError Global)) (new : PrinterSink F M W)
      → IsSearchOf StepOf (search_errors output) (facts old.matcher) settings
      (IsPoint settings (facts old.matcher).meaning bytes look count)
      (IsAskedWith settings (facts old.matcher).meaning (view_in settings look bytes)) (λ plan outcome ended. Unit {0})
      (viewed_plan settings (facts old.matcher).meaning look bytes) old result new
      → IsInputPrinted rules output facts first_at write_step settings look bytes count old result new
  input-printed settings look bytes count old result new (ran point at run read) =
      of_plan point at (plan-printed (λ plan printed. Unit {0}) settings old (plan_with settings.binary_detection point
      (viewed_plan settings (facts old.matcher).meaning look bytes)) result new run (λ printed whole. tt))
  input-printed settings look bytes count old (Err e) new (asked haystack error calls is_asked fails message goes) =
      of_matcher haystack error calls is_asked fails message (first-printed settings old
      (IsPoint settings (facts old.matcher).meaning bytes look count) calls new goes)

  module _ {R : Type 0} (remaining : R → Option (List ℕ)) (read_step : R → ReadResult → R → Type 0)
      (state : SearcherState) (reader : R) (old : PrinterSink F M W) (reader' : R) (new : PrinterSink F M W) where
    abbrev Inputs : M → Type 0
    Inputs matcher = InputsAreSearched StepOf (search_errors output) (facts matcher) remaining read_step

    abbrev look : Look
    look = look_of state.settings (facts old.matcher).meaning false

    abbrev Search : Result (Unit {0}) (SearchError Global) → Type 0
    Search result =
        IsSeenSearch rules output facts first_at write_step remaining read_step state reader old result reader' new

    -- what was seen, along its plan
    plan-seen : (result : Result (Unit {0}) (SearchError Global)) (search : Search result)
        → IsSearchOf StepOf (search_errors output) (facts old.matcher) state.settings
        (EachPoint remaining read_step StepOf (search_errors output) (facts old.matcher) state look
        (IsInputOf remaining read_step search.taken state.settings) (length search.seen))
        (EachAsked remaining read_step StepOf (search_errors output) (facts old.matcher) state look
        (IsInputOf remaining read_step search.taken state.settings) search.seen)
        (λ plan outcome ended. (outcome ≡ all_true
        → (quits state.settings.binary_detection ≡ true → plan.finish.binary ≡ None)
        → (bytes : List ℕ) → IsInputOf remaining read_step search.taken state.settings bytes
        → IsAllSeen remaining read_step StepOf (search_errors output) (facts old.matcher) state look search.seen bytes)
        × OnOk ended (is_across state.settings (facts old.matcher).meaning ≡ false
        → HasReadLines remaining read_step StepOf state.settings reader old reader' search.taken search.seen
        (finish_after outcome plan.finish)))
        (search_plan state.settings (facts old.matcher).meaning search.seen) old result new
        → IsPlanPrinted rules output facts first_at write_step state.settings
        (IsPointOfAll rules output facts first_at write_step remaining read_step state search.taken old
        (length search.seen)) (IsAskedWith state.settings (facts old.matcher).meaning search.seen)
        (IsAllSeenAfter rules output facts first_at write_step remaining read_step state search)
        (search_plan state.settings (facts old.matcher).meaning search.seen) old result new
    plan-seen result search (ran point at run read) =
        of_plan point at (plan-printed (IsAllSeenAfter rules output facts first_at write_step remaining read_step state
        search) state.settings old (plan_with state.settings.binary_detection point
        (search_plan state.settings (facts old.matcher).meaning search.seen)) result new run
        (λ printed whole goes unquit. read.0 (whole goes) unquit))
    plan-seen (Err e) search (asked haystack error calls is_asked fails message goes) =
        of_matcher haystack error calls is_asked.0 fails message (first-printed state.settings old
        (IsPointOfAll rules output facts first_at write_step remaining read_step state search.taken old
        (length search.seen)) calls new goes)

    -- a search of what was seen
    seen-printed : Inputs old.matcher → (result : Result (Unit {0}) (SearchError Global)) → Search result
        → IsSourcePrinted rules output facts first_at write_step remaining read_step state reader old result reader' new
    seen-printed inputs result read = of_input read (plan-seen result read read.over_seen) (λ bytes input.
        input-printed state.settings look bytes (length read.seen) old result new
        (inputs state look reader old result reader' new read bytes input))

    -- one that was cut short
    cut-printed : (e : SearchError Global)
        → IsCutSearch remaining read_step StepOf (search_errors output) (facts old.matcher) state look reader old e
        reader' new
        → IsSourcePrinted rules output facts first_at write_step remaining read_step state reader
        old (Err e) reader' new
    cut-printed e cut = by cut.begun refl
      where
        made-of : IsSourcePrinted rules output facts first_at write_step remaining read_step state reader old
            (Err (Io cut.error)) reader' new
            → IsSourcePrinted rules output facts first_at write_step remaining read_step state
            reader old (Err e) reader' new
        made-of printed = subst (λ cause. IsSourcePrinted rules output facts first_at write_step remaining read_step state
            reader old (Err cause) reader' new) (sym cut.made) printed

        by : (begun : Bool) → cut.begun ≡ begun
            → IsSourcePrinted rules output facts first_at write_step remaining read_step state
            reader old (Err e) reader' new
        by true is = made-of (of_reading cut.taken true cut.seen cut.error
            (subst (λ b. IsCut remaining read_step state (facts old.matcher).meaning reader cut.mid reader' cut.taken
            cut.seen b cut.error) is cut.cause)
            (first-printed state.settings old (λ calls point. (bytes : List ℕ)
            → IsInputOf remaining read_step cut.taken state.settings bytes
            → IsPoint state.settings (facts old.matcher).meaning bytes look (length cut.seen) calls point)
            (search_plan state.settings (facts old.matcher).meaning cut.seen).calls new (cut.calls is)))
        by false is = made-of (of_reading cut.taken false cut.seen cut.error
            (subst (λ b. IsCut remaining read_step state (facts old.matcher).meaning reader cut.mid reader' cut.taken
            cut.seen b cut.error) is cut.cause)
            (cut.none is))

    read-printed : Inputs old.matcher → (result : Result (Unit {0}) (SearchError Global))
        → IsRead remaining read_step StepOf (search_errors output) (facts old.matcher) state look reader old
        result reader' new
        → IsSourcePrinted rules output facts first_at write_step remaining read_step state reader old result reader' new
    read-printed inputs (Ok u) read = seen-printed inputs (Ok u) read
    read-printed inputs (Err e) (inl read) = seen-printed inputs (Err e) read
    read-printed inputs (Err e) (inr cut) = cut-printed e cut

    -- a search, refused or not
    printed-unless : Inputs old.matcher → (result : Result (Unit {0}) (SearchError Global))
        (refusal : Option ConfigError)
        → IsUnlessRefusedBy (search_errors output) (facts old.matcher) state.settings old result new (reader' ≡ reader)
        (IsRead remaining read_step StepOf (search_errors output) (facts old.matcher) state look reader old
        result reader' new) refusal
        → IsUnlessRefusedBy (search_errors output) (facts old.matcher) state.settings old result new (reader' ≡ reader)
        (IsSourcePrinted rules output facts first_at write_step remaining read_step state reader old result reader'
        new) refusal
    printed-unless inputs result None read = λ lawful. read-printed inputs result (read lawful)
    printed-unless inputs result (Some refusal) refused = refused

    pub search-printed : (matcher : M) → old.matcher ≡ matcher → Inputs matcher
        → (result : Result (Unit {0}) (SearchError Global))
        → IsReaderSearched remaining read_step StepOf (search_errors output) (facts matcher) state reader old
        result reader' new
        → IsSearchPrinted rules output facts first_at write_step remaining read_step state reader old result reader' new
    search-printed matcher is inputs result searched =
        printed-unless (subst Inputs (sym is) inputs) result (refusal_of state.settings (facts old.matcher).meaning)
        (subst (λ m. IsReaderSearched remaining read_step StepOf (search_errors output) (facts m) state reader old
        result reader' new) (sym is) searched)

    -- a run, and some calls, leave what a sink is of
    run-same : (plan : Plan) (result : Result (Unit {0}) (SearchError Global))
        → IsRun StepOf state.settings old plan result new → IsSameSink old new
    run-same plan (Ok u) run =
        (run-prints rules output facts first_at write_step state.settings old plan new run).2.same
    run-same plan (Err e) run =
        (run-fails rules output facts first_at write_step state.settings old plan e new run).same

    begun-same : HasBegun StepOf (search_errors output) (facts old.matcher) state.settings old new → IsSameSink old new
    begun-same (calls, in_order, made) =
        (calls-print rules output facts first_at write_step state.settings old calls new made).2.same

    is-same : new ≡ old → IsSameSink old new
    is-same same = rw same (record {
      printer = refl;
      writer = refl;
      format = refl;
      buffer_size = refl;
      matcher = refl;
      path = refl;
    })

    order-same : (IsOfReading : Error → Type 0) (result : Result (Unit {0}) (SearchError Global))
        → IsInOrder StepOf (search_errors output) (facts old.matcher) state.settings IsOfReading old result new
        → IsSameSink old new
    order-same IsOfReading result (ran_in_order plan in_order plain run) = run-same plan result run
    order-same IsOfReading (Err e) (asked_in_order haystack error fails message begun) = begun-same begun
    order-same IsOfReading (Err e) (read_in_order error is_reading made (inl same)) = is-same same
    order-same IsOfReading (Err e) (read_in_order error is_reading made (inr begun)) = begun-same begun

    -- so does a search, refused or not
    same-unless : (IsOfReading : Error → Type 0) (IsSearched : Type 0)
        (result : Result (Unit {0}) (SearchError Global)) (refusal : Option ConfigError)
        → IsUnlessRefusedBy (search_errors output) (facts old.matcher) state.settings old result new (reader' ≡ reader)
        IsSearched refusal
        → (refusal ≡ None
        → IsInOrder StepOf (search_errors output) (facts old.matcher) state.settings IsOfReading old result new)
        → IsSameSink old new
    same-unless IsOfReading IsSearched result None searched in_order = order-same IsOfReading result (in_order refl)
    same-unless IsOfReading IsSearched result (Some refusal) (e, is, config, same, unread) in_order = is-same same

    pub search-same : (matcher : M) → old.matcher ≡ matcher → (IsOfReading : Error → Type 0)
        (result : Result (Unit {0}) (SearchError Global))
        → IsReaderSearched remaining read_step StepOf (search_errors output) (facts matcher) state reader old
        result reader' new
        → (refusal_of state.settings (facts matcher).meaning ≡ None
        → IsInOrder StepOf (search_errors output) (facts matcher) state.settings IsOfReading old result new)
        → IsSameSink old new
    search-same matcher is IsOfReading result searched in_order =
        same-unless IsOfReading _ result (refusal_of state.settings (facts old.matcher).meaning)
        (subst (λ m. IsReaderSearched remaining read_step StepOf (search_errors output) (facts m) state reader old
        result reader' new) (sym is) searched)
        (subst (λ m. refusal_of state.settings (facts m).meaning ≡ None
        → IsInOrder StepOf (search_errors output) (facts m) state.settings IsOfReading old result new) (sym is)
        in_order)

    -- whatever the matcher, the calls came in order
    pub search-in-order : (matcher : M) → old.matcher ≡ matcher → (result : Result (Unit {0}) (SearchError Global))
        → (refusal_of state.settings (facts matcher).meaning ≡ None
        → IsInOrder StepOf (search_errors output) (facts matcher) state.settings
        (IsReadingError remaining read_step reader reader') old result new)
        → IsPrintedInOrder rules output facts first_at write_step remaining read_step state reader
        old result reader' new
    search-in-order matcher is result in_order = subst (λ m. refusal_of state.settings (facts m).meaning ≡ None
        → IsInOrder StepOf (search_errors output) (facts m) state.settings
        (IsReadingError remaining read_step reader reader') old result new) (sym is) in_order
