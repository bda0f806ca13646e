-- Which of the files and folders of a folder are visited. Globs decide first, then ignore files,
-- and for a file its types.
use Rattle.std.specs.Prelude.{◌≡◌, ℕ, ◌-◌, Bool, true, not, ◌||◌, if◌then◌else◌, List, []}
use Rattle.std.specs.Option.{option_map}
use Rattle.std.specs.Prelude.{◌++◌, length, MatchBool, MatchOption, None, Option, Some, slice_get}
use Rattle.grep_ignore.specs.Classes.{begins_with}
use Rattle.grep_ignore.specs.Layers.{IsDecider}
use Rattle.grep_ignore.specs.declared.layers.Decider.{Decider}
use Rattle.linegrep_files.specs.FileTypes.{AreTypesRefused, AreTypes, IsTypeChoice}
use Rattle.linegrep_files.specs.FolderFacts.{FolderFacts}
use Rattle.linegrep_files.specs.Globs.{AreGlobs, IsGlobChoice}
use Rattle.linegrep_files.specs.IgnoreFiles.{AreWithin, HasSource, ReadsTheSame}
use Rattle.linegrep_files.specs.Limits.{AreLimits, has_no_size}
use Rattle.linegrep_files.specs.MalformedGlobs.{HaveMalformed}
use Rattle.linegrep_files.specs.ParentFiles.{AreBegun, AreIgnores, base_of}
use Rattle.linegrep_files.specs.declared.choices.Choices.{Choices}
use Rattle.linegrep_files.specs.declared.file_options.FileOptions.{FileOptions}
use Rattle.linegrep_files.specs.declared.failures.Failure.{Failure}
use Rattle.linegrep_files.specs.declared.globs.Choice.{Choice}
use Rattle.linegrep_files.specs.declared.globs.Choice.TheVariants.{Chosen, LeftOut, Unmatched}
use Rattle.linegrep_files.specs.declared.ignores.Ignores.{Ignores}
use Rattle.linegrep_files.specs.declared.notes.Note.{Note}
use Rattle.linegrep_files.specs.declared.notes.Reason.{Reason}
use Rattle.linegrep_files.specs.declared.notes.Reason.TheVariants.{Globs, Hidden, Rule, Types}

-- the notes that were made and aren't said yet, if notes are asked for
abbrev pub notes_of : Choices → Option (List Note)
notes_of choices = option_map (λ notes. notes.items) choices.notes

-- the depth of the nearest repository that the folder is in, if it is in one. If no repository is
-- needed, each folder counts as in one
abbrev pub repository_of : Ignores → Option ℕ
repository_of ignores =
    if ignores.sources.needs_repository then last_of ignores.repositories.items else Some 0
  where
    last_of : List ℕ → Option ℕ
    last_of depths = slice_get depths (length depths - 1)

-- the rule of ignore files that decides of a name in the folder, if there is one
abbrev pub IsIgnoreDecider : Ignores → List ℕ → Bool → Option Decider → Type 0
IsIgnoreDecider ignores name is_folder =
    IsDecider (ignores.path.items ++ name) is_folder ignores.start (repository_of ignores)
    ignores.layers

-- the rule that decides is the reason why something isn't visited, if it leaves that out
abbrev pub rule_reason : Option Decider → Option Reason
rule_reason None = None
rule_reason (Some decider) = if decider.keeps then None else Some (Rule decider.layer decider.line)

-- whether something is shown: a rule that decides of it keeps it, or if none does it is shown
abbrev pub is_kept : Option Decider → Bool → Bool
is_kept None is_shown = is_shown
is_kept (Some decider) is_shown = decider.keeps

-- what isn't shown is hidden
abbrev pub hidden_unless : Bool → Option Reason
hidden_unless is_shown = if is_shown then None else Some Hidden

-- why a file isn't visited, by what types say of it: if they say nothing it may be hidden
abbrev pub type_reason : Choice → Bool → Option Reason
type_reason Chosen is_shown = None
type_reason LeftOut is_shown = Some Types
type_reason Unmatched is_shown = hidden_unless is_shown

-- why something isn't visited that no glob is about, if it isn't. Ignore files decide, and for a
-- file its types. If none of these is about it, it is visited if it is shown
abbrev pub IsUnmatchedReason : Choices → List ℕ → Bool → Bool → Option Reason → Type 0
IsUnmatchedReason choices name is_folder is_shown reason = (decider : Option Decider)
    × IsIgnoreDecider choices.ignores name is_folder decider
    × MatchOption (rule_reason decider)
    (MatchBool is_folder (reason ≡ hidden_unless (is_kept decider is_shown))
    ((choice : Choice) × IsTypeChoice choices.types name choice
    × (reason ≡ type_reason choice (is_kept decider is_shown))))
    (λ rule. reason ≡ Some rule)

-- what has a name isn't hidden, or hidden ones are shown
abbrev pub is_shown : Choices → List ℕ → Bool
is_shown choices name = choices.shows_hidden || not (begins_with 46 name)

-- why something with a name in the folder, which is at a path, isn't visited, if it isn't
pub data IsReason (choices : Choices) (path name : List ℕ) (is_folder : Bool) :
    Option Reason → Type 0 where
  of_glob : IsGlobChoice choices.globs path is_folder Chosen
      → IsReason choices path name is_folder None
  of_exclusion : IsGlobChoice choices.globs path is_folder LeftOut
      → IsReason choices path name is_folder (Some Globs)
  of_unmatched : (reason : Option Reason) → IsGlobChoice choices.globs path is_folder Unmatched
      → IsUnmatchedReason choices name is_folder (is_shown choices name) reason
      → IsReason choices path name is_folder reason

-- ignore files say the same as before
pub record IgnoresTheSame (old new : Ignores) : Type 0 where
  pub layers : new.layers ≡ old.layers
  pub path : new.path.items ≡ old.path.items
  pub repositories : new.repositories ≡ old.repositories
  pub source : HasSource old new

-- choices say the same as before
pub record SaysTheSame (old new : Choices) : Type 0 where
  pub globs : new.globs ≡ old.globs
  pub types : new.types ≡ old.types
  pub limits : new.limits ≡ old.limits
  pub shows_hidden : new.shows_hidden ≡ old.shows_hidden
  pub ignores : IgnoresTheSame old.ignores new.ignores

-- what is wrong with ignore files that were read, and isn't said yet
abbrev pub warnings_of : Choices → List Failure
warnings_of choices = choices.ignores.warnings.items

-- choices differ from others only in the ignore files that belong to folders
pub record AreAlike (one other : Choices) : Type 0 where
  pub globs : other.globs ≡ one.globs
  pub types : other.types ≡ one.types
  pub limits : other.limits ≡ one.limits
  pub shows_hidden : other.shows_hidden ≡ one.shows_hidden
  pub ignores : ReadsTheSame one.ignores other.ignores
  pub base : base_of other.ignores.layers ≡ base_of one.ignores.layers

-- a folder is taken up, by its name for the system: choices say the same, but for the ignore files
-- that count there
pub record AreTakenUp (folders : FolderFacts) (name : List ℕ) (old new : Choices) : Type 0 where
  pub globs : new.globs ≡ old.globs
  pub types : new.types ≡ old.types
  pub limits : new.limits ≡ old.limits
  pub shows_hidden : new.shows_hidden ≡ old.shows_hidden
  pub ignores : AreBegun folders name old.ignores new.ignores

-- choices go on in a folder, by the names in it and its path below the folder that is searched:
-- they say the same, but for the ignore files that count there, by what a system may say of files
pub record IsWithin (folders : FolderFacts) (folder below names : List ℕ) (old new : Choices) :
    Type 0 where
  pub globs : new.globs ≡ old.globs
  pub types : new.types ≡ old.types
  pub limits : new.limits ≡ old.limits
  pub shows_hidden : new.shows_hidden ≡ old.shows_hidden
  pub ignores : AreWithin folders folder below names old.ignores new.ignores

-- why what options say of files is refused: a glob can't be read, a type can't be used, or the size
-- isn't one
pub data AreFilesRefused (options : FileOptions) : Type 0 where
  of_glob : HaveMalformed options.ignores_glob_case options.globs.now → AreFilesRefused options
  of_iglob : HaveMalformed true options.iglobs.now → AreFilesRefused options
  of_types : AreTypesRefused options.types → AreFilesRefused options
  of_size : has_no_size options.max_filesize ≡ true → AreFilesRefused options

-- choices are what options say, with the ignore files that count everywhere
pub record AreChoices (folders : FolderFacts) (options : FileOptions) (choices : Choices) : Type 0
  where
    pub globs : AreGlobs options.globs.now options.iglobs.now options.ignores_glob_case
        choices.globs
    pub types : AreTypes options.types choices.types
    pub limits : AreLimits options choices.limits
    pub hidden : choices.shows_hidden ≡ options.shows_hidden
    pub notes : notes_of choices ≡ (if options.explains then Some [] else None)
    pub ignores : AreIgnores folders options.sources options.ignore_files.now choices.ignores
