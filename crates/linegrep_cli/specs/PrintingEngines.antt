-- What the engine of a searcher, a matcher and a printer does in each call, and writes.
use Rattle.std.specs.Prelude.{◌≡◌, ◌⊎◌, ℕ, Bool, false, true, if◌then◌else◌}
use Rattle.std.specs.Prelude.{List, Option, None, Some, is_some, Result, Ok, Err}
use Rattle.std.specs.Borrow.{Bor}
use Rattle.std.specs.Global.{Global}
use Rattle.std.specs.IoError.{error_kind}
use Rattle.std.specs.declared.io.Error.{Error}
use Rattle.std.specs.declared.io.ErrorKind.TheVariants.{OutOfMemory}
use Rattle.grep_output.specs.Outputs.{OutputCall}
use Rattle.grep_searcher.specs.Meanings.{MatcherFacts}
use Rattle.grep_searcher.specs.Source.{ReadResult}
use Rattle.grep_searcher.specs.declared.BinaryDetection.{BinaryDetection}
use Rattle.grep_searcher.specs.declared.BinaryDetection.TheVariants.{Convert, Quit}
use Rattle.grep_searcher.specs.declared.SearchError.{SearchError}
use Rattle.grep_searcher.specs.declared.SearchError.TheVariants.{Io}
use Rattle.grep_printer.specs.declared.hyperlinks.HyperlinkConfig.{HyperlinkConfig}
use Rattle.grep_printer.specs.declared.hyperlinks.PrinterPath.{PrinterPath}
use Rattle.linegrep_cli.specs.EngineCalls.{EngineCall, finishes, lists, says, searches_file}
use Rattle.linegrep_cli.specs.EngineCalls.{searches_input, sets_quits}
use Rattle.linegrep_cli.specs.EngineSteps.{IsWrittenError}
use Rattle.linegrep_cli.specs.Haystacks.{IsPulled, remaining_of}
use Rattle.linegrep_cli.specs.HyperlinkOptions.{IsPathShown}
use Rattle.linegrep_cli.specs.PrinterSearches.{IsFinished, IsFlushed, IsSearchWritten}
use Rattle.linegrep_cli.specs.declared.engine.PrintingEngine.{PrintingEngine}
use Rattle.linegrep_cli.specs.declared.haystacks.Haystack.{Haystack}
use Rattle.grep_printer.specs.declared.printed_search.Searched.{Searched}
use Rattle.linegrep_files.specs.FolderFacts.{FolderFacts}

-- what is done about a binary file, by whether its search ends once it is found to be binary
abbrev pub detection_with : Bool → BinaryDetection → BinaryDetection
detection_with quits (Convert byte) = if quits then Quit byte else Convert byte
detection_with quits detection = detection

-- there was nothing to be done
pub record IsNothingFound (searched : Searched) : Type 0 where
  pub unmatched : searched.has_match ≡ false
  pub ok : searched.result ≡ Ok tt

-- nothing was searched, since there is no memory
abbrev pub IsUnsearched : Searched → Type 0
IsUnsearched searched = (searched.has_match ≡ false) × ((error : Error)
    × (error_kind error ≡ OutOfMemory) × (searched.result ≡ Err (Io error)))

-- a result is that of a search, with the writer's error, if it is one
abbrev pub IsWrittenResult : Result (Unit {0}) (SearchError Global) → Result (Unit {0}) Error
    → Type 0
IsWrittenResult (Ok u) result = result ≡ Ok tt
IsWrittenResult (Err e) result = (error : Error) × (result ≡ Err error) × IsWrittenError e error

-- something is done with a path as it is written, with these links; or there is no memory for that
-- path, and nothing is done
abbrev pub IsDoneShown : {S F M R W X : Type 0} → (S → FolderFacts) → Option (Bor HyperlinkConfig)
    → (PrintingEngine S F M R W X → Option PrinterPath → Searched → PrintingEngine S F M R W X
    → Type 0) → Option (Bor (List ℕ)) → PrintingEngine S F M R W X → Searched
    → PrintingEngine S F M R W X → Type 0
IsDoneShown facts_of hyperlinks IsDone path old searched new =
    ((shown : Option PrinterPath)
    × IsPathShown (facts_of old.system.now) old.path_separator hyperlinks path shown
    × IsDone old shown searched new)
    ⊎ ((is_some old.path_separator ≡ true) × IsUnsearched searched × (new ≡ old))

module _ {S F M R W X E : Type 0} (output : E → Option (List ℕ)) (facts : M → MatcherFacts E)
    (first_at : M → List ℕ → ℕ → Option (ℕ × ℕ))
    (groups_at : M → List ℕ → ℕ → List (Option (ℕ × ℕ)))
    (write_step : W → OutputCall → W → Type 0)
    (file_remaining : F → Option (List ℕ)) (remaining : R → Option (List ℕ))
    (read_step : R → ReadResult → R → Type 0) where
  -- a file is searched, or without one standard input, with the engine's settings and matcher. What
  -- the engine's printer makes of it is written
  pub record IsSearched (file : Option F) (old : PrintingEngine S F M R W X)
      (path : Option PrinterPath) (searched : Searched) (new : PrintingEngine S F M R W X)
      : Type 0 where
    pub left : Haystack F R
    pub written : IsSearchWritten output facts first_at groups_at write_step
        (remaining_of file_remaining remaining) (IsPulled file_remaining remaining read_step)
        old.searcher old.matcher path (record { file = file; reader = old.haystack.reader })
        old.writer old.printer searched left new.writer new.printer
    pub settings : new.searcher.settings ≡ old.searcher.settings
    pub others : new ≡ record old {
      searcher = new.searcher;
      printer = new.printer;
      writer = new.writer;
      haystack = record { file = None; reader = left.reader };
    }

  -- before a text on standard error, what was found so far is written
  pub record IsSaidAfter (old : PrintingEngine S F M R W X) (result : Result (Unit {0}) Error)
      (new : PrintingEngine S F M R W X) : Type 0 where
    pub flushed : IsFlushed write_step old.writer old.printer result new.writer new.printer
    pub others : new ≡ record old {
      printer = new.printer;
      writer = new.writer;
      errors = new.errors;
    }

  -- all is written in the end
  pub record IsAllWritten (old : PrintingEngine S F M R W X) (result : Result (Unit {0}) Error)
      (new : PrintingEngine S F M R W X) : Type 0 where
    pub ended : Result (Unit {0}) (SearchError Global)
    pub finished : IsFinished write_step old.writer old.printer ended new.writer new.printer
    pub is_result : IsWrittenResult ended result
    pub others : new ≡ record old { printer = new.printer; writer = new.writer }

  -- what one call does, by what a system may say. Standard input has no link, and no file is listed
  abbrev pub IsEngineStep : (S → FolderFacts) → PrintingEngine S F M R W X → EngineCall F
      → PrintingEngine S F M R W X → Type 0
  IsEngineStep facts_of old (searches_file path file searched) new =
      IsDoneShown facts_of old.hyperlinks (IsSearched (Some file)) path old searched new
  IsEngineStep facts_of old (searches_input path searched) new =
      IsDoneShown facts_of None (IsSearched None) path old searched new
  IsEngineStep facts_of old (lists path searched) new = IsNothingFound searched × (new ≡ old)
  IsEngineStep facts_of old (says result) new = IsSaidAfter old result new
  IsEngineStep facts_of old (sets_quits quits) new = new ≡ record old {
    searcher = record old.searcher {
      settings = record old.searcher.settings {
        binary_detection = detection_with quits old.detection;
      };
    };
  }
  IsEngineStep facts_of old (finishes result) new = IsAllWritten old result new
