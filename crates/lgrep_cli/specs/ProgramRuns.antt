-- What a run of lgrep does: it searches what a reader or a file gives, and writes the text of the
-- calls.
use Rattle.std.specs.Prelude.{◌≡◌, ℕ, Bool, true, false, List, [], Option, Some, None, String}
use Rattle.std.specs.Prelude.{string_bytes, if◌then◌else◌, Result, Ok, Err, IfOk, IfErr}
use Rattle.std.specs.Prelude.{MatchResult, Vec}
use Rattle.std.specs.Global.{Global}
use Rattle.std.specs.Io.KnownBytes.{Appends}
use Rattle.std.specs.IoError.{error_kind}
use Rattle.std.specs.declared.io.Error.{Error}
use Rattle.std.specs.declared.io.ErrorKind.TheVariants.{OutOfMemory}
use Rattle.grep_decode.specs.Reading.{Reader}
use Rattle.grep_decode.specs.Source.{ReadResult}
use Rattle.grep_matcher.specs.Literals.{literal_meaning}
use Rattle.grep_matcher.specs.Meanings.{Meaning}
use Rattle.grep_searcher.specs.declared.SearchError.{SearchError}
use Rattle.grep_searcher.specs.declared.SearchError.TheVariants.{Io}
use Rattle.grep_searcher.specs.Plans.{search_plan, Planned, SearcherState}
use Rattle.grep_searcher.specs.Searches.{IsInput, Taken, IsUnread, searched_bytes}
use Rattle.lgrep_cli.specs.CommandLine.{AskFor, AskForNothing, AskForSomething}
use Rattle.lgrep_cli.specs.Messages.{WritesFailure, WritesMessage, failed_line, usage_line}
use Rattle.lgrep_cli.specs.OptionSettings.{searched_settings, settings_of_options}
use Rattle.lgrep_cli.specs.PrintedTexts.{count_text, has_match, text}
use Rattle.grep_output.specs.Outputs.{OutputCall, flushes, Writes}
use Rattle.lgrep_cli.specs.declared.options.Options.{Options}

-- a searcher with the settings of the options' search, and its buffers
abbrev pub searcher_of : Options → SearcherState
searcher_of options = record { settings = searched_settings options; has_buffers = true }

-- what the options' literal means
abbrev pub meaning_of : Options → Meaning
meaning_of options = literal_meaning (string_bytes options.literal)

-- whether a match was reported, or why the run failed
abbrev pub RunResult : Type 0
RunResult = Result Bool (SearchError Global)

-- a file as a reader, before any call
abbrev pub opened : {F : Type 0} → F → Reader F
opened file = record { inner = file; last = None }

-- the calls that are defined for some input, of the literal under the options' settings
abbrev pub calls_of : Options → List ℕ → List Planned
calls_of options bytes =
    (search_plan (settings_of_options options) (meaning_of options) bytes).calls

-- those that were made when no more of an input was read: the calls over the lines that were seen,
-- or none
abbrev pub calls_over : Options → Bool → List ℕ → List Planned
calls_over options false seen = []
calls_over options true seen = calls_of options seen

-- the text that is written for all calls of a search: how many report a match if the options ask
-- for the count, else what is reported
abbrev pub whole_text : Options → List Planned → List ℕ
whole_text options calls = if options.count then count_text calls else text calls

-- the text that is written for the calls that were made, if the search then fails: no count
abbrev pub partial_text : Options → List Planned → List ℕ
partial_text options calls = if options.count then [] else text calls

-- the decoded bytes of an input that begins with what was taken of a reader, and ends there if the
-- reader ended
abbrev pub Input : {R : Type 0} {remaining : R → Option (List ℕ)}
    {read_step : R → ReadResult → R → Type 0} → Options
    → {reader reader' : R} → Taken remaining read_step reader reader' → List ℕ → Type 0
Input options taken bytes = IsInput (settings_of_options options) taken.ended taken.pieces bytes

module _ {W : Type 0} (contents : W → Option (List ℕ)) where
  -- if a reader says which bytes remain: what the writer holds grows by the text of the calls for
  -- all of them, decoded, and `found` is whether one of the calls reports a match
  abbrev pub IsPrintedWhole : Options → Option (List ℕ) → W → Bool → W → Type 0
  IsPrintedWhole options None writer found writer' = Unit {0}
  IsPrintedWhole options (Some input) writer found writer' =
      Appends (contents writer) (contents writer')
      (whole_text options (calls_of options (searched_bytes (settings_of_options options) input)))
      × (found ≡ has_match (calls_of options (searched_bytes (settings_of_options options) input)))

module _ {R W : Type 0} (remaining : R → Option (List ℕ)) (read_step : R → ReadResult → R → Type 0)
    (write_step : W → OutputCall → W → Type 0) where
  -- this was taken of the reader. Whatever follows it, the text of the calls is written, and
  -- `found` is whether one of the calls reports a match
  pub record IsPrinted (options : Options) (reader : R) (writer : W) (found : Bool) (reader' : R)
      (writer' : W) : Type 0 where
    pub taken : Taken remaining read_step reader reader'
    pub written : (bytes : List ℕ) → Input options taken bytes
        → Writes write_step writer (whole_text options (calls_of options bytes)) (Ok tt) writer'
    pub is_found : (bytes : List ℕ) → Input options taken bytes
        → found ≡ has_match (calls_of options bytes)

  -- a printed search, and then a flush that succeeds, which is the only one
  pub record IsPrintedAndFlushed (options : Options) (reader : R) (writer : W) (found : Bool)
      (reader' : R) (writer' : W) : Type 0 where
    pub unflushed : W
    pub printed : IsPrinted options reader writer found reader' unflushed
    pub flushed : write_step unflushed (flushes (Ok tt)) writer'

  -- why a run failed with an error
  pub data IsFailure (options : Options) (reader : R) (writer : W) : SearchError Global → R → W
      → Type 0 where
    -- there was no memory to begin with, and neither the reader nor the writer had a call
    of_memory : {error : Error} → error_kind error ≡ OutOfMemory
        → IsFailure options reader writer (Io error) reader writer
    -- by this error the input wasn't read to its end: the text of the calls over the lines that
    -- were seen is written, which is none in a search across lines and if matches are counted, and
    -- then the writer is flushed, whatever that returns
    of_reader : {error : Error} {reader' : R} {unflushed writer' : W} (begun : Bool) (seen : List ℕ)
        (flushed : Result (Unit {0}) Error)
        → IsUnread remaining read_step (searcher_of options) (meaning_of options)
        reader begun seen error reader'
        → Writes write_step writer (partial_text options (calls_over options begun seen)) (Ok tt)
        unflushed
        → write_step unflushed (flushes flushed) writer'
        → IsFailure options reader writer (Io error) reader' writer'
    -- by an error of reading the input wasn't read to its end either, and then the writer failed
    -- with this error: the text of the calls over the lines that were seen is written as far as
    -- some first bytes
    of_reader_and_write : {error : Error} {reader' : R} {writer' : W} (begun : Bool) (seen : List ℕ)
        (read_error : Error)
        → IsUnread remaining read_step (searcher_of options) (meaning_of options)
        reader begun seen read_error reader'
        → Writes write_step writer (partial_text options (calls_over options begun seen))
        (Err error) writer'
        → IsFailure options reader writer (Io error) reader' writer'
    -- the writer failed with this error. Whatever follows what was taken of the reader, the text of
    -- the calls is written as far as some first bytes
    of_write : {error : Error} {reader' : R} {writer' : W}
        (taken : Taken remaining read_step reader reader')
        → ((bytes : List ℕ) → Input options taken bytes
        → Writes write_step writer (whole_text options (calls_of options bytes)) (Err error)
        writer')
        → IsFailure options reader writer (Io error) reader' writer'
    -- whatever follows what was taken of the reader, all is written, and the flush failed with this
    -- error
    of_flush : {error : Error} {reader' : R} {unflushed writer' : W}
        (taken : Taken remaining read_step reader reader')
        → ((bytes : List ℕ) → Input options taken bytes
        → Writes write_step writer (whole_text options (calls_of options bytes)) (Ok tt) unflushed)
        → write_step unflushed (flushes (Err error)) writer'
        → IsFailure options reader writer (Io error) reader' writer'

  -- what a run over a reader does, by its result
  pub record IsProgramRun (contents : W → Option (List ℕ)) (options : Options) (reader : R)
      (writer : W) (result : RunResult) (reader' : R) (writer' : W) : Type 0 where
    -- a run that succeeds wrote the text of the calls and flushed it, and returns whether one of
    -- the calls reports a match
    pub printed : IfOk result (λ found.
        IsPrintedAndFlushed options reader writer found reader' writer')
    -- so is the text of the whole input, if the reader says which bytes remain
    pub whole : IfOk result (λ found.
        IsPrintedWhole contents options (remaining reader) writer found writer')
    -- a run that fails does so for one of these reasons
    pub failed : IfErr result (λ error. IsFailure options reader writer error reader' writer')

module _ {F W : Type 0} (opens : List ℕ → Result F Error → Type 0)
    (remaining : Reader F → Option (List ℕ))
    (read_step : Reader F → ReadResult → Reader F → Type 0)
    (write_step : W → OutputCall → W → Type 0) (contents : W → Option (List ℕ)) where
  -- what a run over a path does, by its result
  pub data IsPathRun (path : List ℕ) (options : Options) (writer : W) : RunResult → W → Type 0 where
    -- opening the file at this path returned this error, and the writer had no call
    of_opening : {error : Error} → opens path (Err error)
        → IsPathRun path options writer (Err (Io error)) writer
    -- it returned this file, and all else is what a run over the file does
    of_file : {result : RunResult} {writer' : W} (file : F) (reader' : Reader F)
        → opens path (Ok file)
        → IsProgramRun remaining read_step write_step contents options (opened file) writer result
        reader' writer'
        → IsPathRun path options writer result writer'

-- the exit status of a run: 0 if it reported a match, 1 if it reported none, 2 if it failed
abbrev pub status_of : RunResult → ℕ
status_of (Ok true) = 0
status_of (Ok false) = 1
status_of (Err error) = 2

module _ {F R W : Type 0} (opens : List ℕ → Result F Error → Type 0)
    (file_remaining : Reader F → Option (List ℕ))
    (file_step : Reader F → ReadResult → Reader F → Type 0) (remaining : R → Option (List ℕ))
    (read_step : R → ReadResult → R → Type 0) (write_step : W → OutputCall → W → Type 0)
    (contents : W → Option (List ℕ)) where
  -- what a run does that is over a path if there is one, whatever it is, and else over the input
  abbrev pub IsRunAt : Option (String Global) → Options → R → W → RunResult → R → W → Type 0
  IsRunAt None options input writer result input' writer' =
      IsProgramRun remaining read_step write_step contents options input writer result input'
      writer'
  IsRunAt (Some path) options input writer result input' writer' =
      IsPathRun opens file_remaining file_step write_step contents (string_bytes path) options
      writer result writer'
      × (input' ≡ input)

-- what the program does if its arguments can't be read: it says that it failed, and neither the
-- input nor the writer had a call
pub record IsStopped {R W E : Type 0} (message_step : E → OutputCall → E → Type 0) (input : R)
    (writer : W) (messages : E) (status : ℕ) (input' : R) (writer' : W) (messages' : E) : Type 0
  where
    pub is_error : status ≡ 2
    pub same_input : input' ≡ input
    pub same_writer : writer' ≡ writer
    pub message : WritesMessage message_step failed_line messages messages'

module _ {F R W E : Type 0} (opens : List ℕ → Result F Error → Type 0)
    (file_remaining : Reader F → Option (List ℕ))
    (file_step : Reader F → ReadResult → Reader F → Type 0) (remaining : R → Option (List ℕ))
    (read_step : R → ReadResult → R → Type 0) (write_step : W → OutputCall → W → Type 0)
    (contents : W → Option (List ℕ)) (message_step : E → OutputCall → E → Type 0) where
  -- what the program does with its arguments, by its exit status
  pub data IsProgramEnd (arguments : List (String Global)) (input : R) (writer : W) (messages : E)
      : ℕ → R → W → E → Type 0 where
    -- the arguments ask for nothing, which it says, and neither the input nor the writer had a call
    of_usage : {messages' : E} → AskForNothing arguments
        → WritesMessage message_step usage_line messages messages'
        → IsProgramEnd arguments input writer messages 2 input writer messages'
    -- they ask for options, but there was no memory to keep them: neither had a call either
    of_memory : {messages' : E} → AskForSomething arguments
        → WritesMessage message_step failed_line messages messages'
        → IsProgramEnd arguments input writer messages 2 input writer messages'
    -- the status is that of a run by the options that the arguments ask for, and if it failed, the
    -- program says so
    of_run : {input' : R} {writer' : W} {messages' : E} (options : Options) (result : RunResult)
        → AskFor arguments options
        → IsRunAt opens file_remaining file_step remaining read_step write_step contents
        options.path options input writer result input' writer'
        → WritesFailure message_step result messages messages'
        → IsProgramEnd arguments input writer messages (status_of result) input' writer' messages'

  -- what the program does, whether its arguments can be read or not
  abbrev pub IsRunByArguments : Result (Vec (String Global) Global) Error → R → W → E → ℕ → R → W
      → E → Type 0
  IsRunByArguments arguments input writer messages status input' writer' messages' =
      MatchResult arguments
      (λ arguments. IsProgramEnd arguments.items input writer messages status input' writer'
      messages')
      (λ _. IsStopped message_step input writer messages status input' writer' messages')
