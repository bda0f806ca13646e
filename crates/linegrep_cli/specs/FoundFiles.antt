-- What a run finds before it searches or lists anything: standard input and files, in their order.
use Rattle.std.specs.Prelude.{◌≡◌, Bool, true, false, ℕ, List, [], ◌∷◌, ◌++◌, MatchBool, Result, Ok}
use Rattle.std.specs.Prelude.{String, codes, not, string_bytes}
use Rattle.std.specs.Borrow.{Bor}
use Rattle.std.specs.Global.{Global}
use Rattle.std.specs.declared.io.Error.{Error}
use Rattle.linegrep_cli.specs.OperandRuns.{is_escaped, is_input}
use Rattle.linegrep_cli.specs.WaitingFiles.{AreInOrder, AreRanked, IsAt}
use Rattle.linegrep_cli.specs.declared.late.Target.{Target}
use Rattle.linegrep_cli.specs.declared.late.Target.TheVariants.{File as FileTarget, StandardInput}
use Rattle.linegrep_cli.specs.declared.late.Waiting.{Waiting}
use Rattle.linegrep_cli.specs.declared.scope.Scope.{Scope}
use Rattle.linegrep_files.specs.FolderFacts.{FolderFacts}
use Rattle.linegrep_files.specs.Trees.{AreAllOf}
use Rattle.linegrep_files.specs.declared.choices.Choices.{Choices}
use Rattle.linegrep_files.specs.declared.entry.Entry.{Entry}
use Rattle.linegrep_files.specs.declared.entry.Entry.TheVariants.{File, Folder}
use Rattle.linegrep_files.specs.declared.walk.Route.{Route}

-- By what is kept of each that is found; by what a system says, and how folders are walked through;
-- by whether the search of a file of a folder ends once it is found to be binary; and by whether
-- standard input is searched without an operand.
module _ {T : Type 0} (IsKept : Target → List ℕ → T → Type 0) (folders : FolderFacts)
    (finds : List ℕ → Result Bool Error → Type 0) (route : Route) (quits : Bool) (reads : Bool)
  where
    -- the files among the entries of a folder, as they are found
    pub data AreFilesFound : List Entry → List T → Type 0 where
      no_file_found : AreFilesFound [] []
      file_found : {entries : List Entry} {found : List T} (text : String Global) (one : T)
          → AreFilesFound entries found → IsKept (FileTarget quits) (string_bytes text) one
          → AreFilesFound (entries ++ File text ∷ []) (found ++ one ∷ [])
      folder_found : {entries : List Entry} {found : List T} (text : String Global)
          → AreFilesFound entries found → AreFilesFound (entries ++ Folder text ∷ []) found

    -- what is found in a folder: the files of the entries that are visited of it by choices, in the
    -- order of paths
    pub record AreFoundIn (choices : Choices) (folder : List ℕ) (found : List T) : Type 0 where
      pub entries : List Entry
      pub all : AreAllOf folders route choices folder entries
      pub files : AreFilesFound entries found

    -- what is found for an operand
    pub data AreFoundAt (choices : Choices) (path : Bor (List ℕ)) : List T → Type 0 where
      of_found_input : (one : T) → is_input path.now ≡ true
          → IsKept StandardInput (codes "<stdin>") one → AreFoundAt choices path (one ∷ [])
      of_found_file : (one : T) → is_input path.now ≡ false → is_escaped path.now ≡ false
          → finds path.now (Ok false) → IsKept (FileTarget false) path.now one
          → AreFoundAt choices path (one ∷ [])
      of_found_folder : {found : List T} → is_input path.now ≡ false → is_escaped path.now ≡ false
          → finds path.now (Ok true) → AreFoundIn choices path.now found
          → AreFoundAt choices path found

    -- what is found for operands, in their order
    pub data AreFoundFor (choices : Choices) : List (Bor (List ℕ)) → List T → Type 0 where
      none_found : AreFoundFor choices [] []
      next_found : {paths : List (Bor (List ℕ))} {found next : List T} (path : Bor (List ℕ))
          → AreFoundFor choices paths found → AreFoundAt choices path next
          → AreFoundFor choices (paths ++ path ∷ []) (found ++ next)

    -- what is found of all that is searched. Without an operand that is standard input, if options
    -- say so, or else what is in the current folder
    abbrev pub AreAllFound : Choices → List (Bor (List ℕ)) → List T → Type 0
    AreAllFound choices [] found = MatchBool reads
        ((one : T) × IsKept StandardInput (codes "<stdin>") one × (found ≡ one ∷ []))
        (AreFoundIn choices [] found)
    AreAllFound choices (path ∷ later) found = AreFoundFor choices (path ∷ later) found

-- what a run finds first, in the order in which it is visited: sorted by the times that the system
-- says, or by paths, the files of all operands together
pub record AreFoundSorted (folders : FolderFacts) (finds : List ℕ → Result Bool Error → Type 0)
    (scope : Scope) (choices : Choices) (paths : List (Bor (List ℕ))) (sorted : List Waiting)
    : Type 0 where
  pub found : List Waiting
  pub all : AreAllFound IsAt folders finds scope.route (not scope.searches_binary)
      scope.searches_input choices paths found
  pub ranked : List Waiting
  pub are_ranked : AreRanked folders.times scope.order found ranked
  pub in_order : AreInOrder scope.order ranked sorted
