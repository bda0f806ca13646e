-- When a run is refused, and what is said of it.
use Rattle.std.specs.Prelude.{◌≡◌, ◌≢◌, ℕ, false, true, List, Result}
use Rattle.std.specs.Prelude.{String, map, string_bytes}
use Rattle.std.specs.Global.{Global}
use Rattle.std.specs.declared.io.Error.{Error}
use Rattle.grep_output.specs.Outputs.{OutputCall, Writes}
use Rattle.grep_regex.specs.Refusals.{IsRefusal}
use Rattle.grep_regex.specs.declared.error.Error.{Error as PatternError}
use Rattle.grep_regex.specs.declared.error.Error.TheVariants.{Memory}
use Rattle.linegrep_cli.specs.ColorOptions.{refuses_colors}
use Rattle.linegrep_cli.specs.FileChoices.{AreFileOptions}
use Rattle.linegrep_cli.specs.HyperlinkOptions.{IsFormatRefused}
use Rattle.linegrep_cli.specs.PathSeparators.{refuses_path_separator}
use Rattle.linegrep_cli.specs.PatternOptions.{pattern_options, pattern_texts}
use Rattle.linegrep_cli.specs.PatternOptions.{refuses_size_limits}
use Rattle.linegrep_cli.specs.RunScopes.{order_for}
use Rattle.linegrep_cli.specs.SearcherOptions.{refuses_label}
use Rattle.linegrep_cli.specs.declared.search.Ended.{Ended}
use Rattle.linegrep_cli.specs.declared.options.Options.{Options}
use Rattle.linegrep_files.specs.Choices.{AreFilesRefused}
use Rattle.linegrep_files.specs.Failures.{has_cause, text_of}
use Rattle.linegrep_files.specs.FolderFacts.{FolderFacts}
use Rattle.linegrep_files.specs.Orders.{LacksOrder}
use Rattle.linegrep_files.specs.declared.failures.Failure.{Failure}
use Rattle.linegrep_files.specs.declared.file_options.FileOptions.{FileOptions}

-- why patterns are refused: they aren't well formed or are too large, all as one or each by itself
pub data ArePatternsRefused (options : Options) (patterns : List (String Global)) : Type 0 where
  of_all : (error : PatternError) → error ≢ Memory
      → IsRefusal (pattern_options options patterns) (pattern_texts options patterns) error
      → ArePatternsRefused options patterns
  of_each : (error : PatternError) → error ≢ Memory
      → IsRefusal (pattern_options options patterns) (map string_bytes patterns) error
      → ArePatternsRefused options patterns

-- why a run is refused that needs files: a limit of sizes isn't one; a separator isn't one byte;
-- colors or the format of links aren't well formed; the system doesn't have an order; or what is
-- said of files is refused
pub data IsCauseForFiles (folders : FolderFacts) (options : Options) : Type 0 where
  of_size_limits : refuses_size_limits options ≡ true → IsCauseForFiles folders options
  of_path_separator : refuses_path_separator options ≡ true → IsCauseForFiles folders options
  of_colors : refuses_colors options ≡ true → IsCauseForFiles folders options
  of_hyperlink_format : IsFormatRefused options → IsCauseForFiles folders options
  of_order : LacksOrder folders.times (order_for options) → IsCauseForFiles folders options
  of_files : (files : FileOptions) → AreFileOptions options files → AreFilesRefused files
      → IsCauseForFiles folders options

-- why a search is refused: as a run that needs files; or the label of an encoding isn't known, or
-- patterns are refused
pub data IsCause (folders : FolderFacts) (options : Options) (patterns : List (String Global))
    : Type 0 where
  of_cause_for_files : IsCauseForFiles folders options → IsCause folders options patterns
  of_label : refuses_label options ≡ true → IsCause folders options patterns
  of_patterns : ArePatternsRefused options patterns → IsCause folders options patterns

-- a text is said, and nothing else: it is written, or writing it fails
abbrev pub IsSaid : {X : Type 0} → (X → OutputCall → X → Type 0) → List ℕ → X → X → Type 0
IsSaid say_step text old new = (written : Result (Unit {0}) Error)
    × Writes say_step old text written new

-- a run is refused, and standard error says why: nothing is read or written
pub record IsRefusedWith {R W X : Type 0} (say_step : X → OutputCall → X → Type 0)
    (failure : Failure) (input : R) (output : W) (errors : X) (ended : Ended R W) (errors' : X)
    : Type 0 where
  pub status : ended.status ≡ 2
  pub unread : ended.input ≡ input
  pub unwritten : ended.output ≡ output
  pub said : IsSaid say_step (text_of failure) errors errors'

-- a run is refused since there is no memory
abbrev pub IsRefusedWithoutMemory : {R W X : Type 0} → (X → OutputCall → X → Type 0) → R → W → X
    → Ended R W → X → Type 0
IsRefusedWithoutMemory say_step input output errors ended errors' =
    (failure : Failure) × (has_cause failure ≡ false)
    × IsRefusedWith say_step failure input output errors ended errors'

-- a run is refused for a cause, or since there is no memory
pub record IsRefusedFor {R W X : Type 0} (say_step : X → OutputCall → X → Type 0) (Cause : Type 0)
    (input : R) (output : W) (errors : X) (ended : Ended R W) (errors' : X) : Type 0 where
  pub failure : Failure
  pub refused : IsRefusedWith say_step failure input output errors ended errors'
  pub caused : has_cause failure ≡ true → Cause
