-- What options say of which files of folders are searched.
use Rattle.std.specs.Prelude.{◌≡◌, ℕ, Bool, ◌&&◌, ◌||◌, not, if◌then◌else◌, List, [], None, Option}
use Rattle.std.specs.Prelude.{Some}
use Rattle.std.specs.Prelude.{nat_le, nat_lt}
use Rattle.std.specs.Borrow.{Bor}
use Rattle.linegrep_cli.specs.OptionUses.{has, last_use}
use Rattle.linegrep_options.specs.declared.option_id.OptionId.{OptionId}
use Rattle.linegrep_options.specs.declared.option_id.OptionId.TheVariants.{Debug}
use Rattle.linegrep_options.specs.declared.option_id.OptionId.TheVariants.{GlobCaseInsensitive}
use Rattle.linegrep_options.specs.declared.option_id.OptionId.TheVariants.{Hidden, Ignore}
use Rattle.linegrep_options.specs.declared.option_id.OptionId.TheVariants.{IgnoreDot, IgnoreExclude}
use Rattle.linegrep_options.specs.declared.option_id.OptionId.TheVariants.{
  IgnoreFileCaseInsensitive,
}
use Rattle.linegrep_options.specs.declared.option_id.OptionId.TheVariants.{IgnoreGlobal}
use Rattle.linegrep_options.specs.declared.option_id.OptionId.TheVariants.{IgnoreParent, IgnoreVcs}
use Rattle.linegrep_options.specs.declared.option_id.OptionId.TheVariants.{NoHidden}
use Rattle.linegrep_options.specs.declared.option_id.OptionId.TheVariants.{NoIgnore, NoIgnoreDot}
use Rattle.linegrep_options.specs.declared.option_id.OptionId.TheVariants.{NoIgnoreExclude}
use Rattle.linegrep_options.specs.declared.option_id.OptionId.TheVariants.{NoIgnoreFiles}
use Rattle.linegrep_options.specs.declared.option_id.OptionId.TheVariants.{NoIgnoreGlobal}
use Rattle.linegrep_options.specs.declared.option_id.OptionId.TheVariants.{NoIgnoreParent}
use Rattle.linegrep_options.specs.declared.option_id.OptionId.TheVariants.{NoIgnoreVcs}
use Rattle.linegrep_options.specs.declared.option_id.OptionId.TheVariants.{NoRequireGit}
use Rattle.linegrep_options.specs.declared.option_id.OptionId.TheVariants.{OneFileSystem}
use Rattle.linegrep_cli.specs.declared.options.Options.{Options}
use Rattle.linegrep_files.specs.Choices.{AreChoices}
use Rattle.linegrep_files.specs.FolderFacts.{FolderFacts}
use Rattle.linegrep_files.specs.declared.choices.Choices.{Choices}
use Rattle.linegrep_files.specs.declared.file_options.FileOptions.{FileOptions}
use Rattle.linegrep_files.specs.declared.ignores.Sources.{Sources}

-- the texts that an option is given
abbrev pub texts_of : Option (Bor (List (Bor (List ℕ)))) → List (Bor (List ℕ))
texts_of None = []
texts_of (Some texts) = texts.now

-- the place of the last use of either of two options, or 0
abbrev pub last_of_both : Options → OptionId → OptionId → ℕ
last_of_both options one other =
    if nat_lt (last_use options one) (last_use options other)
    then last_use options other else last_use options one

-- whether ignore files of a kind are read. Of the options about this kind and about all kinds, the
-- last that asks for them has to come after the last that refuses them, and after the first `-u`;
-- they are also read if none of these is used
abbrev pub reads : Options → OptionId → OptionId → Bool
reads options asked refused =
    nat_le (last_of_both options refused NoIgnore) (last_of_both options asked Ignore)
    && nat_le options.unrestricted.ignored (last_of_both options asked Ignore)

-- which ignore files are read, and how
abbrev pub sources_of : Options → Sources
sources_of options = record {
  dot = reads options IgnoreDot NoIgnoreDot;
  git = reads options IgnoreVcs NoIgnoreVcs;
  exclude = reads options IgnoreVcs NoIgnoreVcs && reads options IgnoreExclude NoIgnoreExclude;
  global = reads options IgnoreVcs NoIgnoreVcs && reads options IgnoreGlobal NoIgnoreGlobal;
  parents = reads options IgnoreParent NoIgnoreParent;
  needs_repository = not (has options NoRequireGit);
  ignores_case = has options IgnoreFileCaseInsensitive;
}

-- the ignore files that are named
abbrev pub ignore_files_of : Options → List (Bor (List ℕ))
ignore_files_of options = if has options NoIgnoreFiles then [] else texts_of options.ignore_files

-- whether hidden files and folders are searched: `--hidden` or the second `-u` asks for that, and
-- no `--no-hidden` comes after it
abbrev pub shows_hidden : Options → Bool
shows_hidden options = has options Hidden
    || nat_lt (last_use options NoHidden) options.unrestricted.hidden

-- what options say of which files of folders are searched
pub record AreFileOptions (options : Options) (files : FileOptions) : Type 0 where
  pub globs : files.globs.now ≡ texts_of options.globs
  pub iglobs : files.iglobs.now ≡ texts_of options.iglobs
  pub glob_case : files.ignores_glob_case ≡ has options GlobCaseInsensitive
  pub types : files.types ≡ options.types
  pub depth : files.max_depth ≡ options.max_depth
  pub size : files.max_filesize ≡ options.max_filesize
  pub system : files.is_one_system ≡ has options OneFileSystem
  pub sources : files.sources ≡ sources_of options
  pub ignore_files : files.ignore_files.now ≡ ignore_files_of options
  pub hidden : files.shows_hidden ≡ shows_hidden options
  pub explains : files.explains ≡ has options Debug

-- which files of folders are searched is what options say
pub record AreChoicesOf (folders : FolderFacts) (options : Options) (choices : Choices) : Type 0
  where
    pub files : FileOptions
    pub are_files : AreFileOptions options files
    pub are_choices : AreChoices folders files choices
