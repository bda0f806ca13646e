-- Where the exclude file of a repository is, by what reading files may return.
use Rattle.std.specs.Prelude.{◌≢◌, ℕ, List, ◌++◌, None, Option, Some, Result, Ok, Err, String, Vec}
use Rattle.std.specs.Prelude.{codes}
use Rattle.std.specs.Prelude.{if◌then◌else◌, string_bytes}
use Rattle.std.specs.Global.{Global}
use Rattle.std.specs.Option.{option_map}
use Rattle.std.specs.Str.{IsTrimAscii, IsUtf8}
use Rattle.std.specs.declared.io.Error.{Error}
use Rattle.grep_ignore.specs.Classes.{begins_with}
use Rattle.linegrep_files.specs.Paths.{joined}

-- a path, which begins in a folder unless it begins with a slash
abbrev pub resolved : List ℕ → List ℕ → List ℕ
resolved folder path = if begins_with 47 path then path else joined folder path

-- the bytes of a text, if there is one
abbrev pub bytes_in : Option (String Global) → Option (List ℕ)
bytes_in text = option_map string_bytes text

module _ (reads : List ℕ → Result (Vec ℕ Global) Error → Type 0) where
  -- the text of the file at a path: there is none if it isn't read, or isn't UTF-8
  pub data IsTextRead (path : List ℕ) : Option (List ℕ) → Type 0 where
    of_text : (contents : Vec ℕ Global) → reads path (Ok contents) → IsUtf8 contents.items
        → IsTextRead path (Some contents.items)
    of_other : (contents : Vec ℕ Global) → reads path (Ok contents) → (IsUtf8 contents.items → ⊥)
        → IsTextRead path None
    of_unread : (error : Error) → reads path (Err error) → IsTextRead path None

  -- the folder that a worktree shares with others, by what the file `commondir` in its own folder
  -- says; without that file, its own
  pub data IsShared (folder : List ℕ) : List ℕ → Type 0 where
    of_alone : IsTextRead (joined folder (codes "commondir")) None → IsShared folder folder
    of_shared : (text shared : List ℕ) → IsTextRead (joined folder (codes "commondir")) (Some text)
        → IsTrimAscii text shared → IsShared folder (resolved folder shared)

  -- the folder that a repository names, if it has a file in place of the folder `.git`
  pub data IsRepositoryAt (folder : List ℕ) : Option (List ℕ) → Type 0 where
    of_folder : IsTextRead (joined folder (codes ".git")) None → IsRepositoryAt folder None
    of_unnamed : (text : List ℕ) → IsTextRead (joined folder (codes ".git")) (Some text)
        → ((rest : List ℕ) → text ≢ codes "gitdir:" ++ rest) → IsRepositoryAt folder None
    of_named : (rest named : List ℕ) {at : List ℕ}
        → IsTextRead (joined folder (codes ".git")) (Some (codes "gitdir:" ++ rest))
        → IsTrimAscii rest named → IsShared (resolved folder named) at
        → IsRepositoryAt folder (Some at)

  -- the path of the exclude file of the repository at a folder
  pub data IsExcludePath (folder : List ℕ) : List ℕ → Type 0 where
    of_own : IsRepositoryAt folder None
        → IsExcludePath folder (joined folder (codes ".git/info/exclude"))
    of_other_folder : (at : List ℕ) → IsRepositoryAt folder (Some at)
        → IsExcludePath folder (joined at (codes "info/exclude"))
