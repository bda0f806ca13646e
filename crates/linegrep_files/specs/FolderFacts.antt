-- What a system may say of folders and files, and of the environment.
use Rattle.std.specs.Prelude.{ℕ, Bool, List, Option, Result, String, Vec}
use Rattle.std.specs.Global.{Global}
use Rattle.std.specs.declared.io.Error.{Error}
use Rattle.linegrep_files.specs.declared.folders.Found.{Found}
use Rattle.linegrep_files.specs.declared.order.SortKey.{SortKey}

-- what a system may return for a path: the names in a folder, each with a NUL at its end; what is
-- at the path, by whether a link is followed; the bytes of a file; the path from the root of the
-- system on; and a time of a file. And what it may return for the name of a variable of the
-- environment: its value
pub record FolderFacts : Type 1 where
  pub lists : List ℕ → Result (Vec ℕ Global) Error → Type 0
  pub looks : Bool → List ℕ → Result Found Error → Type 0
  pub reads : List ℕ → Result (Vec ℕ Global) Error → Type 0
  pub resolves : List ℕ → Result (String Global) Error → Type 0
  pub times : SortKey → List ℕ → Result (Option ℕ) Error → Type 0
  pub variables : List ℕ → Result (Option (String Global)) Error → Type 0
