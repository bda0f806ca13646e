-- What a run writes, if its searches are written as messages in JSON.
use Rattle.std.specs.Prelude.{◌≡◌, ℕ, List, MatchResult, Option, Result, Ok, Err}
use Rattle.std.specs.Global.{Global}
use Rattle.grep_output.specs.Outputs.{OutputCall}
use Rattle.grep_searcher.specs.Meanings.{MatcherFacts}
use Rattle.grep_searcher.specs.Plans.{SearcherState}
use Rattle.grep_searcher.specs.Source.{ReadResult}
use Rattle.grep_searcher.specs.declared.SearchError.{SearchError}
use Rattle.grep_printer.specs.Hyperlinks.{shown_path}
use Rattle.grep_printer.specs.JsonEnds.{FailsToPutText, PutsText}
use Rattle.grep_printer.specs.JsonMessages.{json_line, summary_json}
use Rattle.grep_printer.specs.JsonTexts.{end_text, json_rules, stats_of}
use Rattle.grep_printer.specs.ReplacerTexts.{TextAt}
use Rattle.grep_printer.specs.StatsSums.{stats_sum}
use Rattle.grep_printer.specs.declared.json_printer.JsonFormat.{JsonFormat}
use Rattle.grep_printer.specs.declared.hyperlinks.PrinterPath.{PrinterPath}
use Rattle.grep_printer.specs.declared.printer.Printer.{Printer}
use Rattle.grep_printer.specs.declared.printer.PrinterSink.{PrinterSink}
use Rattle.grep_printer.specs.declared.stats.Stats.{Stats}
use Rattle.grep_printer.specs.PrintedSearches.{IsSearchPrinted, IsSinkFor}
use Rattle.linegrep_cli.specs.declared.json_run.JsonRun.{JsonRun}
use Rattle.grep_printer.specs.declared.printed_search.Searched.{Searched}

-- what a search counts is added to the totals, if it ended in `Ok`
abbrev pub AreCounted : Stats → Result Stats (SearchError Global)
    → Result (Unit {0}) (SearchError Global) → Stats → Type 0
AreCounted totals (Ok stats) result new = (result ≡ Ok tt) × (new ≡ stats_sum totals stats)
AreCounted totals (Err e) result new = (result ≡ Err e) × (new ≡ totals)

module _ {W : Type 0} (write_step : W → OutputCall → W → Type 0) where
  -- after a search that ended in `Ok`, the message about its end is written, if it reported
  -- something, with how long it took. The result is what the search counted
  abbrev pub IsEndPut : {T M : Type 0} → PrinterSink (JsonFormat T) M W
      → Result (Unit {0}) (SearchError Global) → ℕ → Result Stats (SearchError Global) → W
      → Printer (JsonFormat T) → Type 0
  IsEndPut sink (Ok u) elapsed counts writer new = MatchResult counts
      (λ stats. (stats ≡ stats_of sink.format.progress elapsed)
      × PutsText write_step sink.writer.now sink.printer.now
      (end_text (shown_path sink.path) sink.format.progress elapsed) writer new)
      (λ e. FailsToPutText write_step sink.writer.now sink.printer.now
      (end_text (shown_path sink.path) sink.format.progress elapsed) e writer new)
  IsEndPut sink (Err e) elapsed counts writer new =
      (counts ≡ Err e) × (writer ≡ sink.writer.now) × (new ≡ sink.printer.now)

  -- the message about all searches is written, or writing it fails
  abbrev pub AreTotalsPut : {T : Type 0} → W → Printer (JsonFormat T) → Stats → ℕ
      → Result (Unit {0}) (SearchError Global) → W → Printer (JsonFormat T) → Type 0
  AreTotalsPut writer old totals elapsed result writer' new = MatchResult result
      (λ _. PutsText write_step writer old (json_line (summary_json totals elapsed)) writer' new)
      (λ e. FailsToPutText write_step writer old (json_line (summary_json totals elapsed)) e
      writer' new)

module _ {T M W E : Type 0} (text_at : T → TextAt) (output : E → Option (List ℕ))
    (facts : M → MatcherFacts E)
    (first_at : M → List ℕ → ℕ → Option (ℕ × ℕ)) (write_step : W → OutputCall → W → Type 0)
    {R : Type 0} (remaining : R → Option (List ℕ)) (read_step : R → ReadResult → R → Type 0)
    (state : SearcherState) (matcher : M) (path : Option PrinterPath) where
  -- a search is written as messages, with what would replace its matches
  pub record IsJsonWritten (reader : R) (writer : W) (old : JsonRun T) (searched : Searched)
      (reader' : R) (writer' : W) (new : JsonRun T) : Type 0 where
    pub begun : PrinterSink (JsonFormat T) M W
    pub ended : PrinterSink (JsonFormat T) M W
    pub result : Result (Unit {0}) (SearchError Global)
    pub elapsed : ℕ
    pub counts : Result Stats (SearchError Global)
    pub begins : IsSinkFor (json_rules text_at) old.printer writer matcher path begun
    pub searches : IsSearchPrinted (json_rules text_at) output facts first_at write_step remaining
        read_step state reader begun result reader' ended
    pub has_match : searched.has_match ≡ (json_rules text_at).has_match ended.format
    pub ends : IsEndPut write_step ended result elapsed counts writer' new.printer
    pub totals : AreCounted old.stats counts searched.result new.stats
    pub start : new.start ≡ old.start
