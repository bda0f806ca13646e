-- What the printer of a run writes in a search, when it is flushed, and at the end of all.
use Rattle.std.specs.Prelude.{◌≡◌, ℕ, List, Option}
use Rattle.std.specs.Prelude.{Result, Ok, Err}
use Rattle.std.specs.Global.{Global}
use Rattle.std.specs.declared.io.Error.{Error}
use Rattle.grep_output.specs.Outputs.{OutputCall}
use Rattle.grep_searcher.specs.Meanings.{MatcherFacts}
use Rattle.grep_searcher.specs.Plans.{SearcherState}
use Rattle.grep_searcher.specs.Source.{ReadResult}
use Rattle.grep_searcher.specs.declared.SearchError.{SearchError}
use Rattle.grep_searcher.specs.declared.SearchError.TheVariants.{Io}
use Rattle.grep_printer.specs.ReplacedTexts.{replaced_rules}
use Rattle.grep_printer.specs.ReplacerTexts.{optional_text_at, template_text_at}
use Rattle.grep_printer.specs.StandardTexts.{standard_rules}
use Rattle.grep_printer.specs.SummaryTexts.{summary_rules}
use Rattle.grep_printer.specs.VimgrepTexts.{vimgrep_rules}
use Rattle.linegrep_cli.specs.CountedRuns.{AreStatsPut, IsCountedSearch, IsRunFlushed}
use Rattle.linegrep_cli.specs.JsonRuns.{AreTotalsPut, IsJsonWritten}
use Rattle.linegrep_cli.specs.PrinterKinds.{IsJson, IsLines, IsParts, IsReplacedLines}
use Rattle.linegrep_cli.specs.PrinterKinds.{IsReplacedParts, IsSummary}
use Rattle.linegrep_cli.specs.WriterFlushes.{IsWriterFlushed}
use Rattle.linegrep_cli.specs.declared.printers.Printer.{Printer}
use Rattle.linegrep_cli.specs.declared.printers.Printer.TheVariants.{Json, Lines, Parts}
use Rattle.linegrep_cli.specs.declared.printers.Printer.TheVariants.{ReplacedLines}
use Rattle.linegrep_cli.specs.declared.printers.Printer.TheVariants.{ReplacedParts, Summary}
use Rattle.grep_printer.specs.declared.hyperlinks.PrinterPath.{PrinterPath}
use Rattle.grep_printer.specs.declared.printed_search.Searched.{Searched}

module _ {M W E : Type 0} (output : E → Option (List ℕ)) (facts : M → MatcherFacts E)
    (first_at : M → List ℕ → ℕ → Option (ℕ × ℕ))
    (groups_at : M → List ℕ → ℕ → List (Option (ℕ × ℕ)))
    (write_step : W → OutputCall → W → Type 0) {R : Type 0} (remaining : R → Option (List ℕ))
    (read_step : R → ReadResult → R → Type 0)
    (state : SearcherState) (matcher : M) (path : Option PrinterPath) where
  -- what a search of a source writes, by what is written of searches
  abbrev pub IsSearchWritten : R → W → Printer M → Searched → R → W → Printer M → Type 0
  IsSearchWritten reader writer (Lines old) searched reader' writer' =
      IsLines (IsCountedSearch standard_rules output facts first_at write_step remaining read_step
      state matcher path reader writer old searched reader' writer')
  IsSearchWritten reader writer (Parts old) searched reader' writer' =
      IsParts (IsCountedSearch vimgrep_rules output facts first_at write_step remaining read_step
      state matcher path reader writer old searched reader' writer')
  IsSearchWritten reader writer (ReplacedLines old) searched reader' writer' =
      IsReplacedLines (IsCountedSearch
      (replaced_rules standard_rules groups_at (λ m. (facts m).meaning)) output facts first_at
      write_step remaining read_step state matcher path reader writer old searched reader' writer')
  IsSearchWritten reader writer (ReplacedParts old) searched reader' writer' =
      IsReplacedParts (IsCountedSearch
      (replaced_rules vimgrep_rules groups_at (λ m. (facts m).meaning)) output facts first_at
      write_step remaining read_step state matcher path reader writer old searched reader' writer')
  IsSearchWritten reader writer (Summary old) searched reader' writer' =
      IsSummary (IsCountedSearch summary_rules output facts first_at write_step remaining read_step
      state matcher path reader writer old searched reader' writer')
  IsSearchWritten reader writer (Json old) searched reader' writer' =
      IsJson (IsJsonWritten
      (optional_text_at (template_text_at groups_at (λ m. (facts m).meaning))) output facts
      first_at write_step remaining read_step state matcher path reader writer old searched reader'
      writer')

module _ {M W : Type 0} (write_step : W → OutputCall → W → Type 0) where
  -- the printer of a run writes what is pending, and flushes its writer
  abbrev pub IsFlushed : W → Printer M → Result (Unit {0}) Error → W → Printer M → Type 0
  IsFlushed writer (Lines old) result writer' =
      IsLines (IsRunFlushed write_step writer old result writer')
  IsFlushed writer (Parts old) result writer' =
      IsParts (IsRunFlushed write_step writer old result writer')
  IsFlushed writer (ReplacedLines old) result writer' =
      IsReplacedLines (IsRunFlushed write_step writer old result writer')
  IsFlushed writer (ReplacedParts old) result writer' =
      IsReplacedParts (IsRunFlushed write_step writer old result writer')
  IsFlushed writer (Summary old) result writer' =
      IsSummary (IsRunFlushed write_step writer old result writer')
  IsFlushed writer (Json old) result writer' = IsJson (λ new.
      IsWriterFlushed write_step writer old.printer result writer' new.printer
      × (new ≡ record old { printer = new.printer }))

  -- the totals of all searches are written after what these wrote, if options ask for that
  abbrev pub HasTotals : W → Printer M → Result (Unit {0}) (SearchError Global) → W → Printer M
      → Type 0
  HasTotals writer (Json old) result writer' = IsJson (λ new. (elapsed : ℕ)
      × AreTotalsPut write_step writer old.printer old.stats elapsed result writer' new.printer
      × (new ≡ record old { printer = new.printer }))
  HasTotals writer (Lines old) result writer' =
      IsLines (AreStatsPut write_step writer old result writer')
  HasTotals writer (Parts old) result writer' =
      IsParts (AreStatsPut write_step writer old result writer')
  HasTotals writer (ReplacedLines old) result writer' =
      IsReplacedLines (AreStatsPut write_step writer old result writer')
  HasTotals writer (ReplacedParts old) result writer' =
      IsReplacedParts (AreStatsPut write_step writer old result writer')
  HasTotals writer (Summary old) result writer' =
      IsSummary (AreStatsPut write_step writer old result writer')

  -- the totals of all searches are written, and everything is written and flushed
  pub data IsFinished (writer : W) (old : Printer M) : Result (Unit {0}) (SearchError Global) → W
      → Printer M → Type 0 where
    of_totals : {e : SearchError Global} {writer' : W} {new : Printer M}
        → HasTotals writer old (Err e) writer' new → IsFinished writer old (Err e) writer' new
    of_flush : (between : W) (mid : Printer M) {writer' : W} {new : Printer M}
        → HasTotals writer old (Ok tt) between mid → IsFlushed between mid (Ok tt) writer' new
        → IsFinished writer old (Ok tt) writer' new
    of_failed_flush : {error : Error} (between : W) (mid : Printer M)
        {writer' : W} {new : Printer M}
        → HasTotals writer old (Ok tt) between mid → IsFlushed between mid (Err error) writer' new
        → IsFinished writer old (Err (Io error)) writer' new
