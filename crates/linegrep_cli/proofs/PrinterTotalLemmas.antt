-- What a printer of a run writes after all searches, and how its writer fails then.
use Rattle.std.proofs.Common.{◌≡◌, ◌∙◌, ℕ, Bool, true, false, List, [], ◌++◌, ap, refl, subst}
use Rattle.std.proofs.Common.{subst₂, sym}
use Rattle.std.proofs.Common.{inl, inr}
use Rattle.std.specs.Prelude.{MatchBool, Option, Some, Result, Ok, Err}
use Rattle.std.specs.Global.{Global}
use Rattle.std.proofs.lemmas.List.{append-nil}
use Rattle.std.specs.Io.KnownBytes.{Appends}
use Rattle.grep_output.specs.Outputs.{OutputCall, taken_by}
use Rattle.grep_output.specs.PendingTexts.{pending_bytes}
use Rattle.grep_printer.specs.CountedTexts.{stats_text}
use Rattle.grep_printer.specs.JsonMessages.{json_line, summary_json}
use Rattle.grep_printer.specs.declared.counted.CountedFormat.{CountedFormat}
use Rattle.grep_searcher.specs.declared.SearchError.{SearchError}
use Rattle.grep_searcher.specs.declared.SearchError.TheVariants.{Io}
use Rattle.linegrep_cli.proofs.OutputTextLemmas.{all-flushed, flush-failed, text-put}
use Rattle.linegrep_cli.proofs.PrinterKindLemmas.{json-run, lines-run, parts-run, replaced-lines-run}
use Rattle.linegrep_cli.proofs.PrinterKindLemmas.{replaced-parts-run}
use Rattle.linegrep_cli.proofs.PrinterKindLemmas.{summary-run}
use Rattle.linegrep_cli.proofs.SearchTextLemmas.{IsAfter, not-both}
use Rattle.linegrep_cli.specs.CountedRuns.{AreCountsPut, AreStatsPut}
use Rattle.linegrep_cli.specs.EngineSteps.{has_failed}
use Rattle.linegrep_cli.specs.JsonRuns.{AreTotalsPut}
use Rattle.linegrep_cli.specs.PrinterSearches.{HasTotals, IsFinished, of_failed_flush}
use Rattle.linegrep_cli.specs.PrinterSearches.{of_flush}
use Rattle.linegrep_cli.specs.PrinterSearches.{of_totals}
use Rattle.linegrep_cli.specs.SearchTexts.{AreCounts, AreTotals, Findings}
use Rattle.linegrep_cli.specs.declared.counted_run.CountedRun.{CountedRun}
use Rattle.linegrep_cli.specs.declared.json_run.JsonRun.{JsonRun}
use Rattle.linegrep_cli.specs.declared.printers.Printer.{Printer}
use Rattle.linegrep_cli.specs.declared.printers.Printer.TheVariants.{Json, Lines, Parts, ReplacedLines, ReplacedParts}
use Rattle.linegrep_cli.specs.declared.printers.Printer.TheVariants.{Summary}
use Rattle.linegrep_cli.proofs.PrinterTextLemmas.{IsPrinterAfter, IsPut, IsRunAfter, pending_of, printer-flushed}
use Rattle.linegrep_cli.proofs.PrinterTextLemmas.{text-after}

abbrev nothing : List ℕ
nothing = []

abbrev all-well : Result (Unit {0}) (SearchError Global)
all-well = Ok tt

module _ {W : Type 0} (write_step : W → OutputCall → W → Type 0) (contents : W → Option (List ℕ))
    (grows : (old new : W) (call : OutputCall) → write_step old call new
    → Appends (contents old) (contents new) (taken_by call)) (writer : W) (writer' : W) where
  -- a run that counts puts its counts, and another one nothing
  run-totals : {G : Type 0} (format : CountedFormat G) (old new : CountedRun G) (findings : Findings)
      → IsRunAfter format old findings → AreStatsPut write_step writer old (Ok tt) writer' new
      → (totals : List ℕ) × AreCounts format findings.stats totals
      × IsPut contents writer (pending_bytes old.printer.pending) totals writer' (pending_bytes new.printer.pending)
  run-totals {G} format old new findings after put = by old.printer.format.is_counting refl put
    where
      counting : (is : Bool) → old.printer.format.is_counting ≡ is → format.is_counting ≡ is
      counting is same = ap (λ (f : CountedFormat G). f.is_counting) (sym after.writer.same) ∙ same

      by : (is : Bool) → old.printer.format.is_counting ≡ is
          → MatchBool is ((elapsed : ℕ) × AreCountsPut write_step writer old.printer old.stats elapsed (Ok tt) writer'
          new.printer × (new ≡ record old { printer = new.printer }))
          ((all-well ≡ all-well) × (writer' ≡ writer) × (new ≡ old))
          → (totals : List ℕ) × AreCounts format findings.stats totals
          × IsPut contents writer (pending_bytes old.printer.pending) totals writer' (pending_bytes new.printer.pending)
      by true is (elapsed, puts, same) = (
        stats_text old.stats elapsed,
        subst (λ b. MatchBool b ((time : ℕ) × (stats_text old.stats elapsed ≡ stats_text findings.stats time))
            (stats_text old.stats elapsed ≡ [])) (sym (counting true is))
            (elapsed, ap (λ stats. stats_text stats elapsed) after.counts),
        λ held known. text-put contents write_step grows writer writer' held (pending_bytes old.printer.pending)
            (stats_text old.stats elapsed) (pending_bytes new.printer.pending) known puts.put,
      )
      by false is (ok, same, still) = (
        [],
        subst (λ b. MatchBool b ((time : ℕ) × (nothing ≡ stats_text findings.stats time)) (nothing ≡ [])) (sym
            (counting false is)) refl,
        λ held known. (
          held,
          ap contents same ∙ known,
          ap (λ xs. held ++ xs) (append-nil (pending_bytes old.printer.pending)
              ∙ ap (λ (r : CountedRun G). pending_bytes r.printer.pending) (sym still)),
        ),
      )

module _ {M W : Type 0} (write_step : W → OutputCall → W → Type 0) (contents : W → Option (List ℕ))
    (grows : (old new : W) (call : OutputCall) → write_step old call new
    → Appends (contents old) (contents new) (taken_by call)) (writer : W) (writer' : W) where
  pub totals-put : (first old new : Printer M) (findings : Findings) → IsPrinterAfter first old findings
      → HasTotals write_step writer old (Ok tt) writer' new
      → (totals : List ℕ) × AreTotals first findings.stats totals
      × IsPut contents writer (pending_of old) totals writer' (pending_of new)
  totals-put (Lines begun) old new findings after put =
      let (one, is_one, kept) = lines-run old after in
      let (other, is_other, counts) = lines-run new
      (subst (λ p. HasTotals write_step writer p (Ok tt) writer' new) is_one put) in
      let (totals, are, puts) = run-totals write_step contents grows writer writer' begun.printer.format one other
      findings kept counts in (
        totals,
        are,
        subst₂ (λ p q. IsPut contents writer (pending_of p) totals writer' (pending_of q)) (sym is_one)
            (sym is_other) puts,
      )
  totals-put (Parts begun) old new findings after put =
      let (one, is_one, kept) = parts-run old after in
      let (other, is_other, counts) = parts-run new
      (subst (λ p. HasTotals write_step writer p (Ok tt) writer' new) is_one put) in
      let (totals, are, puts) = run-totals write_step contents grows writer writer' begun.printer.format one other
      findings kept counts in (
        totals,
        are,
        subst₂ (λ p q. IsPut contents writer (pending_of p) totals writer' (pending_of q)) (sym is_one)
            (sym is_other) puts,
      )
  totals-put (ReplacedLines begun) old new findings after put =
      let (one, is_one, kept) = replaced-lines-run old after in
      let (other, is_other, counts) = replaced-lines-run new
      (subst (λ p. HasTotals write_step writer p (Ok tt) writer' new) is_one put) in
      let (totals, are, puts) = run-totals write_step contents grows writer writer' begun.printer.format one other
      findings kept counts in (
        totals,
        are,
        subst₂ (λ p q. IsPut contents writer (pending_of p) totals writer' (pending_of q)) (sym is_one)
            (sym is_other) puts,
      )
  totals-put (ReplacedParts begun) old new findings after put =
      let (one, is_one, kept) = replaced-parts-run old after in
      let (other, is_other, counts) = replaced-parts-run new
      (subst (λ p. HasTotals write_step writer p (Ok tt) writer' new) is_one put) in
      let (totals, are, puts) = run-totals write_step contents grows writer writer' begun.printer.format one other
      findings kept counts in (
        totals,
        are,
        subst₂ (λ p q. IsPut contents writer (pending_of p) totals writer' (pending_of q)) (sym is_one)
            (sym is_other) puts,
      )
  totals-put (Summary begun) old new findings after put =
      let (one, is_one, kept) = summary-run old after in
      let (other, is_other, counts) = summary-run new
      (subst (λ p. HasTotals write_step writer p (Ok tt) writer' new) is_one put) in
      let (totals, are, puts) = run-totals write_step contents grows writer writer' begun.printer.format one other
      findings kept counts in (
        totals,
        are,
        subst₂ (λ p q. IsPut contents writer (pending_of p) totals writer' (pending_of q)) (sym is_one)
            (sym is_other) puts,
      )
  totals-put (Json begun) old new findings after put =
      let (one, is_one, kept) = json-run old after in
      let (other, is_other, (elapsed, puts, same)) = json-run new
      (subst (λ p. HasTotals write_step writer p (Ok tt) writer' new) is_one put) in (
        json_line (summary_json one.stats elapsed),
        (
          elapsed,
          ap (λ stats. json_line (summary_json stats elapsed))
              kept.counts,
        ),
        subst₂ (λ p q. IsPut contents writer (pending_of p) (json_line (summary_json one.stats elapsed)) writer'
            (pending_of q)) (sym is_one) (sym is_other)
            (λ held known. text-put contents write_step grows writer writer' held (pending_bytes one.printer.pending)
            (json_line (summary_json one.stats elapsed)) (pending_bytes other.printer.pending) known puts.put),
      )

module _ {W : Type 0} (write_step : W → OutputCall → W → Type 0) (writer : W) (writer' : W) where
  run-totals-after : {G : Type 0} (old new : CountedRun G) (result : Result (Unit {0}) (SearchError Global))
      → AreStatsPut write_step writer old result writer' new → old.printer.has_failed ≡ false
      → IsAfter write_step result new.printer.has_failed writer'
  run-totals-after {G} old new result put unfailed = by old.printer.format.is_counting put
    where
      counts : (elapsed : ℕ) (result : Result (Unit {0}) (SearchError Global))
          → AreCountsPut write_step writer old.printer old.stats elapsed result writer' new.printer
          → IsAfter write_step result new.printer.has_failed writer'
      counts elapsed (Ok u) puts = inl (puts.has_failed ∙ unfailed)
      counts elapsed (Err e) fails = elim (text-after write_step writer old.printer
          (stats_text old.stats elapsed) writer'
          new.printer e fails unfailed) [
            | inl still ↦ inl still
            | inr (error, io, failed) ↦ inr (error, ap Err io, failed)
          ]

      by : (is : Bool) → MatchBool is
          ((elapsed : ℕ) × AreCountsPut write_step writer old.printer old.stats elapsed result writer' new.printer
          × (new ≡ record old { printer = new.printer }))
          ((result ≡ Ok tt) × (writer' ≡ writer) × (new ≡ old))
          → IsAfter write_step result new.printer.has_failed writer'
      by true (elapsed, puts, same) = counts elapsed result puts
      by false (ok, same, still) = inl (ap (λ (r : CountedRun G). r.printer.has_failed) still ∙ unfailed)

  json-totals-after : {T : Type 0} (old new : JsonRun T) (elapsed : ℕ)
      (result : Result (Unit {0}) (SearchError Global))
      → AreTotalsPut write_step writer old.printer old.stats elapsed result writer' new.printer
      → old.printer.has_failed ≡ false → IsAfter write_step result new.printer.has_failed writer'
  json-totals-after old new elapsed (Ok u) puts unfailed = inl (puts.has_failed ∙ unfailed)
  json-totals-after old new elapsed (Err e) fails unfailed = elim (text-after write_step writer old.printer
      (json_line (summary_json old.stats elapsed)) writer' new.printer e fails unfailed) [
        | inl still ↦ inl still
        | inr (error, io, failed) ↦ inr (error, ap Err io, failed)
      ]

module _ {M W : Type 0} (write_step : W → OutputCall → W → Type 0) (writer : W) (writer' : W) where
  totals-after : (old new : Printer M) (result : Result (Unit {0}) (SearchError Global))
      → HasTotals write_step writer old result writer' new → has_failed old ≡ false
      → IsAfter write_step result (has_failed new) writer'
  totals-after (Lines one) new result put unfailed =
      let (other, is, counts) = lines-run new put in
      subst (λ p. IsAfter write_step result (has_failed p) writer') (sym is)
      (run-totals-after write_step writer writer' one other result counts unfailed)
  totals-after (Parts one) new result put unfailed =
      let (other, is, counts) = parts-run new put in
      subst (λ p. IsAfter write_step result (has_failed p) writer') (sym is)
      (run-totals-after write_step writer writer' one other result counts unfailed)
  totals-after (ReplacedLines one) new result put unfailed =
      let (other, is, counts) = replaced-lines-run new put in
      subst (λ p. IsAfter write_step result (has_failed p) writer') (sym is)
      (run-totals-after write_step writer writer' one other result counts unfailed)
  totals-after (ReplacedParts one) new result put unfailed =
      let (other, is, counts) = replaced-parts-run new put in
      subst (λ p. IsAfter write_step result (has_failed p) writer') (sym is)
      (run-totals-after write_step writer writer' one other result counts unfailed)
  totals-after (Summary one) new result put unfailed =
      let (other, is, counts) = summary-run new put in
      subst (λ p. IsAfter write_step result (has_failed p) writer') (sym is)
      (run-totals-after write_step writer writer' one other result counts unfailed)
  totals-after (Json one) new result put unfailed =
      let (other, is, (elapsed, puts, same)) = json-run new put in
      subst (λ p. IsAfter write_step result (has_failed p) writer') (sym is)
      (json-totals-after write_step writer writer' one other elapsed result puts unfailed)

module _ {M W : Type 0} (write_step : W → OutputCall → W → Type 0) (contents : W → Option (List ℕ))
    (grows : (old new : W) (call : OutputCall) → write_step old call new
    → Appends (contents old) (contents new) (taken_by call)) where
  -- at the end the totals are written and all is flushed, and nothing more
  pub all-finished : (first old : Printer M) (writer writer' : W) (new : Printer M) (findings : Findings)
      (held : List ℕ)
      → contents writer ≡ Some held → IsPrinterAfter first old findings
      → IsFinished write_step writer old (Ok tt) writer' new
      → (totals : List ℕ) × AreTotals first findings.stats totals
      × (contents writer' ≡ Some (held ++ (pending_of old ++ totals)))
  all-finished first old writer writer' new findings held is after (of_flush between mid put flushed) =
      let (totals, are, puts) = totals-put write_step contents grows writer between first old mid findings after put in
      let (now, known, whole) = puts held is in (
        totals,
        are,
        all-flushed contents write_step grows between writer' now (pending_of mid) known
            (printer-flushed write_step between (Ok tt) writer' mid new flushed).flushed
            ∙ ap Some (sym whole),
      )

-- however that ends, the writer hasn't failed, or its error ended it
pub finished-after : {M W : Type 0} (write_step : W → OutputCall → W → Type 0) (old : Printer M) (writer : W)
    (result : Result (Unit {0}) (SearchError Global)) (writer' : W) (new : Printer M)
    → IsFinished write_step writer old result writer' new → has_failed old ≡ false
    → IsAfter write_step result (has_failed new) writer'
finished-after write_step old writer _ writer' new (of_totals {e = e} put) unfailed =
    totals-after write_step writer writer' old new (Err e) put unfailed
finished-after write_step old writer _ writer' new (of_flush between mid put flushed) unfailed =
    elim (totals-after write_step writer between old mid (Ok tt) put unfailed) [
      | inl still ↦ inl ((printer-flushed write_step between (Ok tt) writer' mid new flushed).failed ∙ still)
      | inr (error, is, failed) ↦ absurd (not-both (Ok tt) tt (Io error) refl is)
    ]
finished-after write_step old writer _ writer' new (of_failed_flush {error = error} between mid put flushed) unfailed =
    inr (
      error,
      refl,
      flush-failed write_step between writer' (pending_of mid) error
          (printer-flushed write_step between (Err error) writer' mid new flushed).flushed,
    )

-- the writer of a printer that goes on hasn't failed
pub after-unfailed : {M : Type 0} (first now : Printer M) (findings : Findings) → IsPrinterAfter first now findings
    → has_failed now ≡ false
after-unfailed (Lines begun) now findings after =
    let (run, is, kept) = lines-run now after in ap has_failed is ∙ kept.writer.unfailed
after-unfailed (Parts begun) now findings after =
    let (run, is, kept) = parts-run now after in ap has_failed is ∙ kept.writer.unfailed
after-unfailed (ReplacedLines begun) now findings after =
    let (run, is, kept) = replaced-lines-run now after in ap has_failed is ∙ kept.writer.unfailed
after-unfailed (ReplacedParts begun) now findings after =
    let (run, is, kept) = replaced-parts-run now after in ap has_failed is ∙ kept.writer.unfailed
after-unfailed (Summary begun) now findings after =
    let (run, is, kept) = summary-run now after in ap has_failed is ∙ kept.writer.unfailed
after-unfailed (Json begun) now findings after =
    let (run, is, kept) = json-run now after in ap has_failed is ∙ kept.writer.unfailed
