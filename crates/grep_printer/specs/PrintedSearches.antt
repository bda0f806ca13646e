-- What a search of a source writes, by a printer of any format.
use Rattle.std.specs.Prelude.{◌≡◌, ℕ, Bool, true, false, MatchBool, List, length, Option, None}
use Rattle.std.specs.Prelude.{Result, Ok, Err}
use Rattle.std.specs.Global.{Global}
use Rattle.std.specs.declared.io.Error.{Error}
use Rattle.grep_output.specs.Outputs.{OutputCall}
use Rattle.grep_searcher.specs.ErrorMakers.{ErrorMakers, makers_of}
use Rattle.grep_searcher.specs.Meanings.{MatcherFacts}
use Rattle.grep_searcher.specs.Plans.{IsAskedWith, Plan, Planned, SearcherState, Settings}
use Rattle.grep_searcher.specs.Plans.{refusal_of, search_plan}
use Rattle.grep_searcher.specs.SearchErrors.{IsMessageOf}
use Rattle.grep_searcher.specs.Searches.{BinaryPoint, IsInputOf, IsPoint, IsUnlessRefusedBy}
use Rattle.grep_searcher.specs.Searches.{IsAllSeen, IsCut, IsInOrder, IsReaderSearch}
use Rattle.grep_searcher.specs.Searches.{IsReadingError, Look, Points, Taken}
use Rattle.grep_searcher.specs.Searches.{calls_with, look_of}
use Rattle.grep_searcher.specs.Searches.{plan_with, quits, view_in, viewed_plan}
use Rattle.grep_searcher.specs.Source.{ReadResult}
use Rattle.grep_searcher.specs.declared.SearchError.{SearchError}
use Rattle.grep_searcher.specs.declared.SearchError.TheVariants.{Config, Io}
use Rattle.grep_printer.specs.Formats.{AllGoOn, AreAlong, PrintedCall, Rules}
use Rattle.grep_printer.specs.Formats.{goes_on_after_each}
use Rattle.grep_printer.specs.PrinterSteps.{FailsAlongPlan, HasFound, KeepsNoMore, PrintsAll}
use Rattle.grep_printer.specs.PrinterSteps.{IsSameSink, PrintsCall, scene_of}
use Rattle.grep_printer.specs.declared.hyperlinks.PrinterPath.{PrinterPath}
use Rattle.grep_printer.specs.declared.printed_search.Searched.{Searched}
use Rattle.grep_printer.specs.declared.printer.Printer.{Printer}
use Rattle.grep_printer.specs.declared.printer.PrinterSink.{PrinterSink}

-- how the errors of a search are made
abbrev pub search_errors : {E : Type 0} → (E → Option (List ℕ)) → ErrorMakers E (SearchError Global)
search_errors output = makers_of output (record {
  is_message = IsMessageOf;
  is_io = λ error e. e ≡ Io error;
  is_config = λ error e. e ≡ Config error;
})

-- the sink that a printer gives for a writer and a search with a matcher,
-- and a path if there is one
pub record IsSinkFor {F M W : Type 0} (rules : Rules F) (printer : Printer F) (writer : W)
    (matcher : M) (path : Option PrinterPath) (sink : PrinterSink F M W) : Type 0 where
  pub is_of : sink.printer.now ≡ printer
  pub writes_to : sink.writer.now ≡ writer
  pub asks : sink.matcher ≡ matcher
  pub names : sink.path ≡ path
  pub format : sink.format ≡ rules.begun printer.format printer.has_written

module _ {F M W E : Type 0} (rules : Rules F) (output : E → Option (List ℕ))
    (facts : M → MatcherFacts E) (first_at : M → List ℕ → ℕ → Option (ℕ × ℕ))
    (write_step : W → OutputCall → W → Type 0) where
  -- the texts of some calls of a plan come after what is pending
  abbrev pub PrintsCalls : PrinterSink F M W → Settings → List Planned → PrinterSink F M W → Type 0
  PrintsCalls old settings calls new = (printed : List PrintedCall)
      × AllGoOn rules (scene_of old settings)
      (HasFound rules facts first_at old settings) old.format calls printed
      × PrintsAll rules output facts first_at write_step old settings printed new

  -- the texts of all calls along a plan come after what is pending, and `Known` holds of these
  -- calls; or a call fails, after the texts of some
  abbrev pub PrintsPlan : (Plan → List PrintedCall → Type 0) → PrinterSink F M W → Settings → Plan
      → Result (Unit {0}) (SearchError Global) → PrinterSink F M W → Type 0
  PrintsPlan Known old settings plan (Ok u) new = (printed : List PrintedCall)
      × AreAlong rules (scene_of old settings)
      (HasFound rules facts first_at old settings) old.format plan.calls plan.finish printed
      × PrintsAll rules output facts first_at write_step old settings printed new
      × KeepsNoMore new × Known plan printed
  PrintsPlan Known old settings plan (Err e) new =
      FailsAlongPlan rules output facts first_at write_step old settings plan e new

  -- the texts of some first calls of a search come after what is pending, with that of
  -- `binary_data` if it comes among them. The search goes on after each
  abbrev pub PrintsFirst : PrinterSink F M W → Settings → Points → List Planned
      → PrinterSink F M W → Type 0
  PrintsFirst old settings IsAt calls new = (point : Option BinaryPoint) × IsAt calls point
      × (quits settings.binary_detection ≡ true → point ≡ None)
      × PrintsCalls old settings (calls_with point calls) new

  -- what a search with a plan printed: the plan's calls, up to one that failed; or, if the matcher
  -- failed at a question, the calls before that
  pub data IsPlanPrinted (settings : Settings) (IsAt : Points)
      (IsAsked : List ℕ → List Planned → Type 0) (Known : Plan → List PrintedCall → Type 0)
      (plan : Plan) (old : PrinterSink F M W)
      : Result (Unit {0}) (SearchError Global) → PrinterSink F M W → Type 0 where
    of_plan : {result : Result (Unit {0}) (SearchError Global)} {new : PrinterSink F M W}
        (point : Option BinaryPoint) → IsAt plan.calls point
        → PrintsPlan Known old settings (plan_with settings.binary_detection point plan) result new
        → IsPlanPrinted settings IsAt IsAsked Known plan old result new
    of_matcher : {e : SearchError Global} {new : PrinterSink F M W} (haystack : List ℕ)
        (error : E) (calls : List Planned) → IsAsked haystack calls
        → (facts old.matcher).fails haystack error → (search_errors output).is_message error e
        → PrintsFirst old settings IsAt calls new
        → IsPlanPrinted settings IsAt IsAsked Known plan old (Err e) new

  -- what a search of some bytes printed, by how many of them were seen
  abbrev pub IsInputPrinted : Settings → Look → List ℕ → ℕ → PrinterSink F M W
      → Result (Unit {0}) (SearchError Global) → PrinterSink F M W → Type 0
  IsInputPrinted settings look bytes count old =
      IsPlanPrinted settings (IsPoint settings (facts old.matcher).meaning bytes look count)
      (IsAskedWith settings (facts old.matcher).meaning (view_in settings look bytes))
      (λ plan printed. Unit {0}) (viewed_plan settings (facts old.matcher).meaning look bytes) old

  module _ {R : Type 0} (remaining : R → Option (List ℕ)) (read_step : R → ReadResult → R → Type 0)
      (state : SearcherState) where
    -- where the search looks for binary bytes
    abbrev pub look : PrinterSink F M W → Look
    look old = look_of state.settings (facts old.matcher).meaning false

    -- where `binary_data` comes for any input that begins with what was taken of the reader
    abbrev pub IsPointOfAll : {reader mid : R} → Taken remaining read_step reader mid
        → PrinterSink F M W → ℕ → Points
    IsPointOfAll taken old count calls point =
        (bytes : List ℕ) → IsInputOf remaining read_step taken state.settings bytes
        → IsPoint state.settings (facts old.matcher).meaning bytes (look old) count calls point

    -- the search of the lines that were seen: each step of the sink prints a call
    abbrev pub IsSeenSearch : R → PrinterSink F M W → Result (Unit {0}) (SearchError Global) → R
        → PrinterSink F M W → Type 0
    IsSeenSearch reader old result reader' new = IsReaderSearch remaining read_step
        (PrintsCall rules output facts first_at write_step) (search_errors output)
        (facts old.matcher) state (look old) reader old result reader' new

    -- if the search went on after each call, and no binary byte ended it, it has seen each line
    -- that may be reported
    abbrev pub IsAllSeenAfter : {reader reader' : R} {old : PrinterSink F M W}
        {result : Result (Unit {0}) (SearchError Global)} {new : PrinterSink F M W}
        → IsSeenSearch reader old result reader' new → Plan → List PrintedCall → Type 0
    IsAllSeenAfter {old = old} search plan printed =
        goes_on_after_each rules (scene_of old state.settings) old.format printed ≡ true
        → (quits state.settings.binary_detection ≡ true → plan.finish.binary ≡ None)
        → (bytes : List ℕ) → IsInputOf remaining read_step search.taken state.settings bytes
        → IsAllSeen remaining read_step (PrintsCall rules output facts first_at write_step)
        (search_errors output) (facts old.matcher) state (look old) search.seen bytes

    -- what a search of a source printed: the calls for the lines that were seen. These are the
    -- calls for the source's bytes, whatever follows what was taken of it. If reading failed, they
    -- are the calls for the lines before that
    pub data IsSourcePrinted (reader : R) (old : PrinterSink F M W)
        : Result (Unit {0}) (SearchError Global) → R → PrinterSink F M W → Type 0 where
      of_input : {result : Result (Unit {0}) (SearchError Global)} {reader' : R}
          {new : PrinterSink F M W} (search : IsSeenSearch reader old result reader' new)
          → IsPlanPrinted state.settings (IsPointOfAll search.taken old (length search.seen))
          (IsAskedWith state.settings (facts old.matcher).meaning search.seen)
          (IsAllSeenAfter search)
          (search_plan state.settings (facts old.matcher).meaning search.seen) old result new
          → ((bytes : List ℕ) → IsInputOf remaining read_step search.taken state.settings bytes
          → IsInputPrinted state.settings (look old) bytes (length search.seen) old result new)
          → IsSourcePrinted reader old result reader' new
      of_reading : {mid reader' : R} {new : PrinterSink F M W}
          (taken : Taken remaining read_step reader mid) (begun : Bool) (seen : List ℕ)
          (error : Error)
          → IsCut remaining read_step state (facts old.matcher).meaning reader mid reader' taken
          seen begun error
          → MatchBool begun (PrintsFirst old state.settings (IsPointOfAll taken old (length seen))
          (search_plan state.settings (facts old.matcher).meaning seen).calls new) (new ≡ old)
          → IsSourcePrinted reader old (Err (Io error)) reader' new

    -- if the matcher can be trusted, a search is refused, or has printed what a search of a source
    -- prints
    abbrev pub IsSearchPrinted : R → PrinterSink F M W → Result (Unit {0}) (SearchError Global) → R
        → PrinterSink F M W → Type 0
    IsSearchPrinted reader old result reader' new =
        IsUnlessRefusedBy (search_errors output) (facts old.matcher) state.settings old result new
        (reader' ≡ reader) (IsSourcePrinted reader old result reader' new)
        (refusal_of state.settings (facts old.matcher).meaning)

    -- with any matcher and reader, a search that isn't refused makes its calls in order, and each
    -- of them prints
    abbrev pub IsPrintedInOrder : R → PrinterSink F M W → Result (Unit {0}) (SearchError Global) → R
        → PrinterSink F M W → Type 0
    IsPrintedInOrder reader old result reader' new =
        refusal_of state.settings (facts old.matcher).meaning ≡ None
        → IsInOrder (PrintsCall rules output facts first_at write_step) (search_errors output)
        (facts old.matcher) state.settings (IsReadingError remaining read_step reader reader')
        old result new

    -- a printer has printed what a search of a source reports to its sink, and says whether the
    -- search found what it is for
    pub record IsPrintedBy (matcher : M) (path : Option PrinterPath) (reader : R) (writer : W)
        (old : Printer F) (searched : Searched) (reader' : R) (writer' : W) (new : Printer F)
        : Type 0 where
      pub begun : PrinterSink F M W
      pub ended : PrinterSink F M W
      pub begins : IsSinkFor rules old writer matcher path begun
      pub same : IsSameSink begun ended
      pub searches : IsSearchPrinted reader begun searched.result reader' ended
      pub in_order : IsPrintedInOrder reader begun searched.result reader' ended
      pub has_match : searched.has_match ≡ rules.has_match ended.format
      pub ends : ended.printer.now ≡ new
      pub wrote : ended.writer.now ≡ writer'
