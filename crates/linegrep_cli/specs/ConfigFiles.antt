-- The file of options that the environment names, and the words that a run parses: those of the
-- file, and then those of the command line.
use Rattle.std.specs.Prelude.{◌≡◌, ◌≢◌, ℕ, Bool, true, false, ◌||◌, ◌==◌, List, ◌++◌, codes, length}
use Rattle.std.specs.Prelude.{MatchBool, None, Some, Ok, Err, String, Vec, string_bytes}
use Rattle.std.specs.Global.{Global}
use Rattle.std.specs.IoError.{error_kind}
use Rattle.std.specs.declared.io.Error.{Error}
use Rattle.std.specs.declared.io.ErrorKind.TheVariants.{OutOfMemory}
use Rattle.grep_output.specs.Outputs.{OutputCall}
use Rattle.linegrep_cli.specs.ConfigWords.{config_words}
use Rattle.linegrep_cli.specs.Refusals.{IsSaid}
use Rattle.linegrep_cli.specs.declared.config.Config.{Config}
use Rattle.linegrep_cli.specs.declared.config.Config.TheVariants.{Absent, Present, Unreadable}
use Rattle.linegrep_cli.specs.declared.config.ConfigFile.{ConfigFile}
use Rattle.linegrep_files.specs.FolderFacts.{FolderFacts}
use Rattle.linegrep_options.specs.CommandLines.{Refusal, Refused, reading_of}
use Rattle.linegrep_options.specs.OptionUses.{applies}
use Rattle.linegrep_options.specs.ParsedWords.{AreRead, texts}
use Rattle.linegrep_options.specs.declared.command_line.Parsed.{Parsed}
use Rattle.linegrep_options.specs.declared.option_id.OptionId.TheVariants.{Help, NoConfig}
use Rattle.linegrep_options.specs.declared.option_id.OptionId.TheVariants.{NoMessages, ShortHelp}
use Rattle.linegrep_options.specs.declared.option_id.OptionId.TheVariants.{Version}
use Rattle.linegrep_options.specs.declared.uses.Use.{Use}

-- no file of options is read: `--no-config` says so, or a text is asked for in place of a search
abbrev pub skips_config : List Use → Bool
skips_config uses = applies uses NoConfig || applies uses Help || applies uses ShortHelp
    || applies uses Version

-- what is said if the name of the file isn't UTF-8
abbrev pub other_name_text : List ℕ
other_name_text = codes "linegrep: RIPGREP_CONFIG_PATH: the value isn't UTF-8\n"

-- what is said if the file at a path can't be read, for a reason
abbrev pub unread_text : List ℕ → List ℕ → List ℕ
unread_text path reason =
    codes "linegrep: RIPGREP_CONFIG_PATH: " ++ (path ++ (codes ": " ++ (reason ++ codes "\n")))

module _ (folders : FolderFacts) where
  -- the environment names the file at a path as the file of options
  abbrev pub IsNamedFile : String Global → Type 0
  IsNamedFile path = folders.variables (codes "RIPGREP_CONFIG_PATH") (Ok (Some path))
      × ((length (string_bytes path) == 0) ≡ false)

  -- what there is of a file of options. There is none if the variable isn't set or is empty. That
  -- memory is out is none of these
  pub data IsConfig : Config → Type 0 where
    of_unset : folders.variables (codes "RIPGREP_CONFIG_PATH") (Ok None) → IsConfig Absent
    of_empty : (path : String Global)
        → folders.variables (codes "RIPGREP_CONFIG_PATH") (Ok (Some path))
        → (length (string_bytes path) == 0) ≡ true → IsConfig Absent
    of_other_name : (text : String Global) (error : Error)
        → folders.variables (codes "RIPGREP_CONFIG_PATH") (Err error)
        → error_kind error ≢ OutOfMemory → string_bytes text ≡ other_name_text
        → IsConfig (Unreadable text)
    of_unread : (path text : String Global) (error : Error) (reason : List ℕ) → IsNamedFile path
        → folders.reads (string_bytes path) (Err error) → error_kind error ≢ OutOfMemory
        → string_bytes text ≡ unread_text (string_bytes path) reason → IsConfig (Unreadable text)
    of_contents : (file : ConfigFile) → IsNamedFile file.path
        → folders.reads (string_bytes file.path) (Ok file.contents) → IsConfig (Present file)

-- standard error says that the file can't be read, unless `--no-messages` applies
abbrev pub IsWarned : {X : Type 0} → (X → OutputCall → X → Type 0) → List Use → List ℕ → X → X
    → Type 0
IsWarned say_step uses text old new =
    MatchBool (applies uses NoMessages) (new ≡ old) (IsSaid say_step text old new)

-- a command line is one by itself, and a file of options is read before it
abbrev pub SeeksConfig : List (Vec ℕ Global) → Type 0
SeeksConfig arguments = (parsed : Parsed) × AreRead arguments parsed
    × (skips_config parsed.uses.items ≡ false)

module _ {X : Type 0} (say_step : X → OutputCall → X → Type 0) (folders : FolderFacts)
    (arguments : List (Vec ℕ Global)) (errors : X) where
  -- the words that a run parses: those of its command line. If the command line is one by itself
  -- and doesn't ask otherwise, those of the file of options come before them, if there is one; and
  -- if it can't be read, standard error says so
  pub data AreWords : List (Vec ℕ Global) → X → Type 0 where
    of_refused_words : (refusal : Refusal) → reading_of (texts arguments) ≡ Refused refusal
        → AreWords arguments errors
    of_command_line : (parsed : Parsed) → AreRead arguments parsed
        → skips_config parsed.uses.items ≡ true → AreWords arguments errors
    of_no_file : SeeksConfig arguments → IsConfig folders Absent → AreWords arguments errors
    of_unreadable : {errors' : X} (parsed : Parsed) (text : String Global)
        → AreRead arguments parsed → skips_config parsed.uses.items ≡ false
        → IsConfig folders (Unreadable text)
        → IsWarned say_step parsed.uses.items (string_bytes text) errors errors'
        → AreWords arguments errors'
    of_file : {words : List (Vec ℕ Global)} (file : ConfigFile) → SeeksConfig arguments
        → IsConfig folders (Present file)
        → texts words ≡ config_words file.contents.items ++ texts arguments → AreWords words errors
