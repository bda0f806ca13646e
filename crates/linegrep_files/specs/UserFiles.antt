-- Where the user's own ignore file for all repositories is, by the environment and by git's
-- settings.
use Rattle.std.specs.Prelude.{◌≡◌, ◌≢◌, ℕ, true, false, not, ◌&&◌, if◌then◌else◌, List, [], ◌++◌}
use Rattle.std.specs.Prelude.{codes}
use Rattle.std.specs.Prelude.{None, Option, Some, Result, Ok, Err, String, Vec, string_bytes}
use Rattle.std.specs.Global.{Global}
use Rattle.std.specs.Str.{IsUtf8}
use Rattle.std.specs.declared.io.Error.{Error}
use Rattle.grep_ignore.specs.Classes.{is_empty}
use Rattle.linegrep_files.specs.FolderFacts.{FolderFacts}
use Rattle.linegrep_files.specs.GitSettings.{excludes_file}
use Rattle.linegrep_files.specs.Paths.{joined}

-- By what the environment may have.
module _ (variables : List ℕ → Result (Option (String Global)) Error → Type 0) where
  -- the value of a variable. It is empty if the variable isn't set, or isn't UTF-8
  pub data IsValue (name : List ℕ) : List ℕ → Type 0 where
    of_value : (value : String Global) → variables name (Ok (Some value))
        → IsValue name (string_bytes value)
    of_unset : variables name (Ok None) → IsValue name []
    of_unread : (error : Error) → variables name (Err error) → IsValue name []

  -- the folder in which git's folder of settings is: the one that the environment names, or one in
  -- the user's folder, if there is that
  abbrev pub IsSettingsFolder : List ℕ → List ℕ → Type 0
  IsSettingsFolder home folder = (own : List ℕ) × IsValue (codes "XDG_CONFIG_HOME") own
      × (folder ≡ (if is_empty own && not (is_empty home) then joined home (codes ".config")
      else own))

-- a path, with the user's folder in place of a tilde before the first slash
pub data IsExpanded (home : List ℕ) : List ℕ → List ℕ → Type 0 where
  of_tilde : (rest : List ℕ) → IsExpanded home (codes "~/" ++ rest) (joined home rest)
  of_other_start : (path : List ℕ) → ((rest : List ℕ) → path ≢ codes "~/" ++ rest)
      → IsExpanded home path path

-- the path that a setting names, if there is a setting and it is UTF-8
pub data IsInHome (home : List ℕ) : Option (List ℕ) → Option (List ℕ) → Type 0 where
  of_no_setting : IsInHome home None None
  of_text : {named : List ℕ} (path : List ℕ) → IsUtf8 path → IsExpanded home path named
      → IsInHome home (Some path) (Some named)
  of_other_bytes : (bytes : List ℕ) → (IsUtf8 bytes → ⊥) → IsInHome home (Some bytes) None

-- the file for all repositories that git's settings name: those of the file with a name in a
-- folder. There are none if the folder isn't known, or the file can't be read
pub data IsNamedBy (reads : List ℕ → Result (Vec ℕ Global) Error → Type 0)
    (home folder name : List ℕ) : Option (List ℕ) → Type 0 where
  of_nowhere : is_empty folder ≡ true → IsNamedBy reads home folder name None
  of_unread_settings : (error : Error) → is_empty folder ≡ false
      → reads (joined folder name) (Err error)
      → IsNamedBy reads home folder name None
  of_settings : {path : Option (List ℕ)} (contents : Vec ℕ Global)
      → is_empty folder ≡ false → reads (joined folder name) (Ok contents)
      → IsInHome home (excludes_file contents.items) path → IsNamedBy reads home folder name path

-- the ignore file that git reads if its settings name none
abbrev pub default_file : List ℕ → Option (List ℕ)
default_file folder = if is_empty folder then None else Some (joined folder (codes "git/ignore"))

-- the path of the user's own ignore file if git's settings in the user's folder name none: the file
-- that those in the folder of settings name, or else the one that git reads by default
pub data IsSharedFile (system : FolderFacts) (home : List ℕ) : Option (List ℕ) → Type 0 where
  of_shared_settings : (folder path : List ℕ) → IsSettingsFolder system.variables home folder
      → IsNamedBy system.reads home folder (codes "git/config") (Some path)
      → IsSharedFile system home (Some path)
  of_default : (folder : List ℕ) → IsSettingsFolder system.variables home folder
      → IsNamedBy system.reads home folder (codes "git/config") None
      → IsSharedFile system home (default_file folder)

-- the path of the user's own ignore file for all repositories, if there is one: the file that git's
-- settings in the user's folder name, or another
pub data IsUserFile (system : FolderFacts) : Option (List ℕ) → Type 0 where
  of_own_settings : (home path : List ℕ) → IsValue system.variables (codes "HOME") home
      → IsNamedBy system.reads home home (codes ".gitconfig") (Some path)
      → IsUserFile system (Some path)
  of_others : {path : Option (List ℕ)} (home : List ℕ)
      → IsValue system.variables (codes "HOME") home
      → IsNamedBy system.reads home home (codes ".gitconfig") None → IsSharedFile system home path
      → IsUserFile system path
