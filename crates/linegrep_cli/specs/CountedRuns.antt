-- What a run writes and counts, if a format prints its searches.
use Rattle.std.specs.Prelude.{◌≡◌, ℕ, List, MatchBool, MatchResult, Option, Result, Ok, Err}
use Rattle.std.specs.Global.{Global}
use Rattle.std.specs.declared.io.Error.{Error}
use Rattle.grep_output.specs.Outputs.{OutputCall}
use Rattle.grep_searcher.specs.Meanings.{MatcherFacts}
use Rattle.grep_searcher.specs.Plans.{SearcherState}
use Rattle.grep_searcher.specs.Source.{ReadResult}
use Rattle.grep_searcher.specs.declared.SearchError.{SearchError}
use Rattle.grep_printer.specs.CountedTexts.{counted_rules, stats_text}
use Rattle.grep_printer.specs.Formats.{Rules}
use Rattle.grep_printer.specs.JsonEnds.{FailsToPutText, PutsText}
use Rattle.grep_printer.specs.PrintedSearches.{IsPrintedBy}
use Rattle.grep_printer.specs.StatsSums.{stats_sum}
use Rattle.grep_printer.specs.declared.counted.CountedFormat.{CountedFormat}
use Rattle.grep_printer.specs.declared.hyperlinks.PrinterPath.{PrinterPath}
use Rattle.grep_printer.specs.declared.printer.Printer.{Printer}
use Rattle.grep_printer.specs.declared.stats.Stats.{Stats}
use Rattle.linegrep_cli.specs.WriterFlushes.{IsWriterFlushed}
use Rattle.linegrep_cli.specs.declared.counted_run.CountedRun.{CountedRun}
use Rattle.grep_printer.specs.declared.printed_search.Searched.{Searched}

-- what a search counts is added to the totals, if it ended in `Ok`
abbrev pub AreAdded : Stats → Stats → Result (Unit {0}) (SearchError Global) → Stats → Type 0
AreAdded totals stats (Ok u) new = new ≡ stats_sum totals stats
AreAdded totals stats (Err e) new = new ≡ totals

module _ {F M W E : Type 0} (rules : Rules F) (output : E → Option (List ℕ))
    (facts : M → MatcherFacts E) (first_at : M → List ℕ → ℕ → Option (ℕ × ℕ))
    (write_step : W → OutputCall → W → Type 0) {R : Type 0} (remaining : R → Option (List ℕ))
    (read_step : R → ReadResult → R → Type 0) (state : SearcherState) (matcher : M)
    (path : Option PrinterPath) where
  -- a search is printed by a format, and counted
  pub record IsCountedSearch (reader : R) (writer : W) (old : CountedRun F) (searched : Searched)
      (reader' : R) (writer' : W) (new : CountedRun F) : Type 0 where
    pub printed : IsPrintedBy (counted_rules rules) output facts first_at write_step remaining
        read_step state matcher path reader writer old.printer searched reader' writer' new.printer
    pub elapsed : ℕ
    pub totals : AreAdded old.stats (record printed.ended.format.stats { elapsed = elapsed })
        searched.result new.stats
    pub start : new.start ≡ old.start

module _ {F W : Type 0} (write_step : W → OutputCall → W → Type 0) where
  -- the text of counts is written, or writing it fails
  abbrev pub AreCountsPut : W → Printer (CountedFormat F) → Stats → ℕ
      → Result (Unit {0}) (SearchError Global) → W → Printer (CountedFormat F) → Type 0
  AreCountsPut writer old stats elapsed result writer' new = MatchResult result
      (λ _. PutsText write_step writer old (stats_text stats elapsed) writer' new)
      (λ e. FailsToPutText write_step writer old (stats_text stats elapsed) e writer' new)

  -- what a run has counted is written, if it counts
  abbrev pub AreStatsPut : W → CountedRun F → Result (Unit {0}) (SearchError Global) → W
      → CountedRun F → Type 0
  AreStatsPut writer old result writer' new = MatchBool old.printer.format.is_counting
      ((elapsed : ℕ) × AreCountsPut writer old.printer old.stats elapsed result writer' new.printer
      × (new ≡ record old { printer = new.printer }))
      ((result ≡ Ok tt) × (writer' ≡ writer) × (new ≡ old))

  -- a run writes what is pending, and flushes its writer
  abbrev pub IsRunFlushed : W → CountedRun F → Result (Unit {0}) Error → W → CountedRun F → Type 0
  IsRunFlushed writer old result writer' new =
      IsWriterFlushed write_step writer old.printer result writer' new.printer
      × (new ≡ record old { printer = new.printer })
