-- What the program does, by its arguments.
use Rattle.std.specs.Prelude.{◌≡◌, ◌≢◌, ◌⊎◌, ℕ, Bool, true, false, not, ◌&&◌, ◌||◌, if◌then◌else◌}
use Rattle.std.specs.Prelude.{List, []}
use Rattle.std.specs.Prelude.{length, map, nat_lt, Option, None, Some, Result, Ok, Err}
use Rattle.std.specs.Prelude.{String}
use Rattle.std.specs.Prelude.{string_bytes, Vec}
use Rattle.std.specs.Borrow.{Bor}
use Rattle.std.specs.Global.{Global}
use Rattle.std.specs.IoError.{error_kind}
use Rattle.std.specs.List.{count_by}
use Rattle.std.specs.declared.alloc.AllocError.{AllocError}
use Rattle.std.specs.declared.io.Error.{Error}
use Rattle.std.specs.declared.io.ErrorKind.TheVariants.{BrokenPipe}
use Rattle.grep_output.specs.Outputs.{OutputCall}
use Rattle.grep_output.specs.PendingTexts.{Flushes}
use Rattle.grep_searcher.specs.Source.{ReadResult}
use Rattle.linegrep_options.specs.CommandLines.{Refusal, Refused, reading_of}
use Rattle.linegrep_options.specs.OptionUses.{last_value, places_of, values_of}
use Rattle.linegrep_options.specs.ParsedWords.{AreRead, texts}
use Rattle.linegrep_options.specs.declared.command_line.Parsed.{Parsed}
use Rattle.linegrep_options.specs.declared.option_id.OptionId.TheVariants.{File, Files}
use Rattle.linegrep_options.specs.declared.option_id.OptionId.TheVariants.{Generate, Help}
use Rattle.linegrep_options.specs.declared.option_id.OptionId.TheVariants.{ShortHelp}
use Rattle.linegrep_options.specs.declared.option_id.OptionId.TheVariants.{TypeList, Unrestricted}
use Rattle.linegrep_options.specs.declared.option_id.OptionId.TheVariants.{Version}
use Rattle.linegrep_options.specs.declared.uses.Use.{Use}
use Rattle.linegrep_cli.specs.ConfigFiles.{AreWords}
use Rattle.linegrep_cli.specs.NamedPatterns.{ArePatterns, LackPatterns}
use Rattle.linegrep_cli.specs.OperandRuns.{is_input}
use Rattle.linegrep_cli.specs.OperandTexts.{operand_texts}
use Rattle.linegrep_cli.specs.OptionMeanings.{paths_of}
use Rattle.linegrep_cli.specs.OptionUses.{has}
use Rattle.linegrep_cli.specs.OptionValues.{AreLists, AreOptions, names_input}
use Rattle.linegrep_cli.specs.Listings.{IsListingRun}
use Rattle.linegrep_cli.specs.Refusals.{IsCauseForFiles, IsRefusedFor, IsRefusedWith}
use Rattle.linegrep_cli.specs.Refusals.{IsRefusedWithoutMemory, IsSaid}
use Rattle.linegrep_cli.specs.WholeRuns.{IsSearchRun}
use Rattle.linegrep_cli.specs.Worlds.{World}
use Rattle.linegrep_cli.specs.declared.lists.Lists.{Lists}
use Rattle.linegrep_cli.specs.declared.options.Options.{Options}
use Rattle.linegrep_cli.specs.declared.program.Streams.{Streams}
use Rattle.linegrep_cli.specs.declared.search.Ended.{Ended}
use Rattle.linegrep_files.specs.Failures.{has_cause}
use Rattle.linegrep_files.specs.FolderFacts.{FolderFacts}
use Rattle.linegrep_files.specs.TypeDefinitions.{HaveMalformed, IsTypeListOf}
use Rattle.linegrep_files.specs.declared.failures.Failure.{Failure}
use Rattle.linegrep_help.specs.GeneratedTexts.{generated}
use Rattle.linegrep_help.specs.HelpTexts.{help, short_help, version}

-- the status after a text is written. It is also 0 if nobody reads the text
abbrev pub HasAnswerStatus : Result (Unit {0}) Error → ℕ → Type 0
HasAnswerStatus (Ok u) status = status ≡ 0
HasAnswerStatus (Err error) status = ((error_kind error ≡ BrokenPipe) × (status ≡ 0))
    ⊎ ((error_kind error ≢ BrokenPipe) × (status ≡ 2))

-- what standard error has after a text is written: nothing more, unless writing failed and somebody
-- reads the text
abbrev pub IsFailureSaid : {X : Type 0} → (X → OutputCall → X → Type 0) → Result (Unit {0}) Error
    → X → X → Type 0
IsFailureSaid say_step (Ok u) errors errors' = errors' ≡ errors
IsFailureSaid say_step (Err error) errors errors' =
    ((error_kind error ≡ BrokenPipe) × (errors' ≡ errors))
    ⊎ ((error_kind error ≢ BrokenPipe) × (text : List ℕ) × IsSaid say_step text errors errors')

-- a text is the answer, as help is: it is written and flushed, and nothing is read or said
pub record IsAnswered {R W X : Type 0} (write_step : W → OutputCall → W → Type 0)
    (say_step : X → OutputCall → X → Type 0) (text : List ℕ) (input : R) (output : W) (errors : X)
    (ended : Ended R W) (errors' : X) : Type 0 where
  pub unread : ended.input ≡ input
  pub written : Result (Unit {0}) Error
  pub flushed : Flushes write_step output text written ended.output
  pub status : HasAnswerStatus written ended.status
  pub said : IsFailureSaid say_step written errors errors'

-- the kind of the text that is to be generated, if one is
abbrev pub kind_asked : List Use → List ℕ
kind_asked uses = of_value (last_value uses Generate)
  where
    of_value : Option (Bor (List ℕ)) → List ℕ
    of_value None = []
    of_value (Some kind) = kind.now

-- the text that options ask for in place of a search, if they ask for one
abbrev pub text_asked : Options → Option (List ℕ)
text_asked options = if has options Help then Some help
    else if has options ShortHelp then Some short_help
    else if has options Version then Some version
    else if has options Generate then Some (generated (kind_asked options.uses.now)) else None

-- how many of the files of patterns are standard input
abbrev pub inputs_named : List Use → ℕ
inputs_named uses = count_by (λ file. is_input file.now) (values_of File uses)

-- standard input is searched, as one of the paths
abbrev pub searches_named_input : Options → Bool
searches_named_input options = not (has options Files) && names_input (paths_of options)

-- options don't go together: `-u` is given more than three times, or standard input is to be read
-- twice
abbrev pub exclude_each_other : Options → Bool
exclude_each_other options = nat_lt 3 (length (places_of Unrestricted 1 options.uses.now))
    || nat_lt 1 (inputs_named options.uses.now)
    || (nat_lt 0 (inputs_named options.uses.now) && searches_named_input options)

-- why options are refused before anything is searched or listed: they ask for the list of types,
-- and a definition of a type isn't well formed; they don't go together; or there is no pattern
pub data AreRefused {R : Type 0} (remaining : R → Option (List ℕ))
    (read_step : R → ReadResult → R → Type 0) (folders : FolderFacts) (options : Options)
    (input : R) : R → Type 0 where
  of_definition : has options TypeList ≡ true → HaveMalformed options.types
      → AreRefused remaining read_step folders options input input
  of_contraries : exclude_each_other options ≡ true
      → AreRefused remaining read_step folders options input input
  of_patterns : {input' : R} → has options Files ≡ false
      → LackPatterns remaining read_step folders.reads options input input'
      → AreRefused remaining read_step folders options input input'

-- By the text of an error of memory, and by what surrounds a run.
module _ {S F R W X : Type 0} (message : AllocError → Option (List ℕ)) (world : World S F R W X)
    (system : S) where
  -- what the program does by its options. A text that is asked for is written; otherwise the list
  -- of types, if that is asked for; otherwise files are listed, if that is asked for, or the
  -- patterns are searched for, or the run is refused. If memory is out, nothing is written
  pub data IsOptionsRun (options : Options) (input : R) (output : W) (errors : X)
      : Ended R W → X → Type 0 where
    without_memory : {ended : Ended R W} {errors' : X}
        → IsRefusedWithoutMemory world.errors.step input output errors ended errors'
        → IsOptionsRun options input output errors ended errors'
    of_text : {ended : Ended R W} {errors' : X} (text : List ℕ)
        → text_asked options ≡ Some text
        → IsAnswered world.output.step world.errors.step text input output errors ended errors'
        → IsOptionsRun options input output errors ended errors'
    of_types : {ended : Ended R W} {errors' : X} (text : List ℕ)
        → text_asked options ≡ None → has options TypeList ≡ true → IsTypeListOf options.types text
        → IsAnswered world.output.step world.errors.step text input output errors ended errors'
        → IsOptionsRun options input output errors ended errors'
    of_refusal : {ended : Ended R W} {errors' : X} (mid : R) (failure : Failure)
        → text_asked options ≡ None → (has_cause failure ≡ true
        → AreRefused world.input.remaining world.input.step (world.folders.facts system) options
        input mid)
        → IsRefusedWith world.errors.step failure mid output errors ended errors'
        → IsOptionsRun options input output errors ended errors'
    of_listing : {ended : Ended R W} {errors' : X}
        → text_asked options ≡ None → has options TypeList ≡ false
        → exclude_each_other options ≡ false → has options Files ≡ true
        → IsRefusedFor world.errors.step (IsCauseForFiles (world.folders.facts system) options)
        input output errors ended errors'
        ⊎ IsListingRun world system options input output errors ended
        → IsOptionsRun options input output errors ended errors'
    of_search : {ended : Ended R W} {errors' : X} (patterns : List (String Global)) (mid : R)
        → text_asked options ≡ None → has options TypeList ≡ false
        → exclude_each_other options ≡ false → has options Files ≡ false
        → ArePatterns world.input.remaining world.input.step (world.folders.facts system).reads
        options input (map string_bytes patterns) mid
        → IsSearchRun message world system options patterns mid output errors ended errors'
        → IsOptionsRun options input output errors ended errors'

  -- what the program does by parsed arguments: what the options say, unless memory is out
  pub data IsParsedRun (parsed : Parsed) (streams : Streams) (input : R) (output : W) (errors : X)
      : Ended R W → X → Type 0 where
    without_memory : {ended : Ended R W} {errors' : X}
        → IsRefusedWithoutMemory world.errors.step input output errors ended errors'
        → IsParsedRun parsed streams input output errors ended errors'
    of_options : {ended : Ended R W} {errors' : X} (options : Options)
        (uses : Bor (List Use)) (operands : List (Bor (List ℕ))) (lists : Lists)
        → uses.now ≡ parsed.uses.items
        → map (λ operand. operand.now) operands ≡ operand_texts parsed.operands.items
        → AreLists uses.now operands lists → AreOptions uses lists streams options
        → IsOptionsRun options input output errors ended errors'
        → IsParsedRun parsed streams input output errors ended errors'

  -- what the program does. Its words are those of the file of options and of the command line. If
  -- they aren't a command line, it says so; otherwise it does what they say, unless memory is out.
  -- `said` is standard error once it is known which words these are
  pub data IsProgramRun (arguments : List (Vec ℕ Global)) (streams : Streams) (input : R)
      (output : W) (errors : X) : Ended R W → X → Type 0 where
    of_fault : {ended : Ended R W} {errors' : X} (words : List (Vec ℕ Global)) (said : X)
        (refusal : Refusal) (failure : Failure)
        → AreWords world.errors.step (world.folders.facts system) arguments errors words said
        → reading_of (texts words) ≡ Refused refusal
        → IsRefusedWith world.errors.step failure input output said ended errors'
        → IsProgramRun arguments streams input output errors ended errors'
    without_memory : {ended : Ended R W} {errors' : X}
        → IsRefusedWithoutMemory world.errors.step input output errors ended errors'
        → IsProgramRun arguments streams input output errors ended errors'
    of_parsed : {ended : Ended R W} {errors' : X} (words : List (Vec ℕ Global)) (said : X)
        (parsed : Parsed)
        → AreWords world.errors.step (world.folders.facts system) arguments errors words said
        → AreRead words parsed
        → IsParsedRun parsed streams input output said ended errors'
        → IsProgramRun arguments streams input output errors ended errors'
