-- What a run lists, and the text of that.
use Rattle.std.specs.Prelude.{◌≡◌, Bool, ℕ, List, [], ◌∷◌, ◌++◌, map, not, MatchBool}
use Rattle.std.specs.Prelude.{Option, Some, Result, codes, string_bytes}
use Rattle.std.specs.Borrow.{Bor}
use Rattle.std.specs.declared.io.Error.{Error}
use Rattle.grep_printer.specs.PathTexts.{path_text}
use Rattle.grep_printer.specs.declared.hyperlinks.HyperlinkConfig.{HyperlinkConfig}
use Rattle.grep_printer.specs.declared.hyperlinks.PrinterPath.{PrinterPath}
use Rattle.grep_printer.specs.declared.path.PathFormat.{PathFormat}
use Rattle.linegrep_cli.specs.FoundFiles.{AreAllFound, AreFoundSorted}
use Rattle.linegrep_cli.specs.HyperlinkOptions.{IsPathShown}
use Rattle.linegrep_cli.specs.declared.late.Target.{Target}
use Rattle.linegrep_cli.specs.declared.late.Target.TheVariants.{File, StandardInput}
use Rattle.linegrep_cli.specs.declared.late.Waiting.{Waiting}
use Rattle.linegrep_cli.specs.declared.scope.Scope.{Scope}
use Rattle.linegrep_files.specs.FolderFacts.{FolderFacts}
use Rattle.linegrep_files.specs.Orders.{is_late}
use Rattle.linegrep_files.specs.declared.choices.Choices.{Choices}

-- what is listed of something that is found is its path
abbrev pub IsPath : Target → List ℕ → List ℕ → Type 0
IsPath target path listed = listed ≡ path

-- the path under which something is listed that was found at a path
abbrev pub path_at : Target → List ℕ → List ℕ
path_at StandardInput path = codes "<stdin>"
path_at (File quits) path = path

abbrev pub listed_path : Waiting → List ℕ
listed_path waiting = path_at waiting.target (string_bytes waiting.file.path)

-- the paths that a run lists, by its operands and its order
abbrev pub AreListed : FolderFacts → (List ℕ → Result Bool Error → Type 0) → Scope → Choices
    → List (Bor (List ℕ)) → List (List ℕ) → Type 0
AreListed folders finds scope choices operands paths = MatchBool (is_late scope.order)
    ((sorted : List Waiting) × AreFoundSorted folders finds scope choices operands sorted
    × (paths ≡ map listed_path sorted))
    (AreAllFound IsPath folders finds scope.route (not scope.searches_binary) scope.searches_input
    choices operands paths)

-- the text of some paths, one after the other: each as it is shown, with what comes after it
pub data ArePathTexts (folders : FolderFacts) (separator : Option ℕ)
    (hyperlinks : Option (Bor HyperlinkConfig)) (format : PathFormat)
    : List (List ℕ) → List ℕ → Type 0 where
  no_path : ArePathTexts folders separator hyperlinks format [] []
  next_path : {paths : List (List ℕ)} {text : List ℕ} (path : Bor (List ℕ)) (shown : PrinterPath)
      → ArePathTexts folders separator hyperlinks format paths text
      → IsPathShown folders separator hyperlinks (Some path) (Some shown)
      → ArePathTexts folders separator hyperlinks format (paths ++ path.now ∷ [])
      (text ++ path_text format shown)
