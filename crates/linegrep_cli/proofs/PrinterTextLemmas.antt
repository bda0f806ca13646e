-- What a printer of a run writes in a search, in a flush and at the end, and how its writer fails.
use Rattle.std.proofs.Common.{◌≡◌, ◌∙◌, ℕ, Bool, true, false, List, [], ◌∷◌, ◌++◌, ap, append_assoc, refl, subst}
use Rattle.std.proofs.Common.{subst₂, sym}
use Rattle.std.proofs.Common.{◌⊎◌, inl, inr}
use Rattle.std.specs.Prelude.{◌||◌, Option, Some, Result, Ok, Err, if◌then◌else◌}
use Rattle.std.specs.Prelude.{is_ok}
use Rattle.std.specs.Global.{Global}
use Rattle.std.specs.declared.io.Error.{Error}
use Rattle.std.specs.Io.KnownBytes.{Appends}
use Rattle.grep_output.specs.Outputs.{OutputCall, taken_by}
use Rattle.grep_output.specs.PendingTexts.{Flushes, pending_bytes}
use Rattle.grep_printer.specs.CountedTexts.{counted_rules}
use Rattle.grep_printer.specs.Formats.{Rules, is_text}
use Rattle.grep_printer.specs.Hyperlinks.{shown_path}
use Rattle.grep_printer.specs.JsonEnds.{FailsToPutText, PutsText}
use Rattle.grep_printer.specs.JsonTexts.{end_text, json_rules, stats_of}
use Rattle.grep_printer.specs.PrintedSearches.{IsSearchPrinted}
use Rattle.grep_printer.specs.ReplacedTexts.{replaced_rules}
use Rattle.grep_printer.specs.ReplacerTexts.{TextAt, optional_text_at, template_text_at}
use Rattle.grep_printer.specs.StandardTexts.{standard_rules}
use Rattle.grep_printer.specs.StatsSums.{stats_sum}
use Rattle.grep_printer.specs.SummaryTexts.{summary_rules}
use Rattle.grep_printer.specs.VimgrepTexts.{vimgrep_rules}
use Rattle.grep_printer.specs.declared.hyperlinks.PrinterPath.{PrinterPath}
use Rattle.grep_printer.specs.declared.counted.CountedFormat.{CountedFormat}
use Rattle.grep_printer.specs.declared.json_printer.JsonFormat.{JsonFormat}
use Rattle.grep_printer.specs.declared.printed_search.Searched.{Searched}
use Rattle.grep_printer.specs.declared.printer.Printer.{Printer as Writer}
use Rattle.grep_printer.specs.declared.stats.Stats.{Stats}
use Rattle.grep_searcher.specs.Meanings.{MatcherFacts}
use Rattle.grep_searcher.specs.Plans.{IsLawful, SearcherState}
use Rattle.grep_searcher.specs.Searches.{IsInputOf, Taken}
use Rattle.grep_searcher.specs.Source.{ReadResult}
use Rattle.grep_searcher.specs.declared.SearchError.{SearchError}
use Rattle.grep_searcher.specs.declared.SearchError.TheVariants.{Io}
use Rattle.grep_printer.proofs.SomeTextLemmas.{text-some}
use Rattle.linegrep_cli.proofs.OutputTextLemmas.{text-put, write-failed}
use Rattle.linegrep_cli.proofs.PrinterKindLemmas.{json-run, lines-run, parts-run, replaced-lines-run}
use Rattle.linegrep_cli.proofs.PrinterKindLemmas.{replaced-parts-run}
use Rattle.linegrep_cli.proofs.PrinterKindLemmas.{summary-run}
use Rattle.linegrep_cli.proofs.SearchTextLemmas.{IsAfter, not-both, sink-after, text-of-sink}
use Rattle.linegrep_cli.specs.CountedRuns.{AreAdded, IsCountedSearch}
use Rattle.linegrep_cli.specs.EngineSteps.{has_failed}
use Rattle.linegrep_cli.specs.JsonRuns.{AreCounted, IsEndPut, IsJsonWritten}
use Rattle.linegrep_cli.specs.PrinterKinds.{IsJson, IsLines, IsParts, IsReplacedLines, IsReplacedParts, IsSummary}
use Rattle.linegrep_cli.specs.PrinterSearches.{IsFlushed, IsSearchWritten}
use Rattle.linegrep_cli.specs.SearchTexts.{Findings, IsCountedText, IsJsonText, IsTextBy}
use Rattle.linegrep_cli.specs.SearchTexts.{IsTextOf}
use Rattle.linegrep_cli.specs.SearchTexts.{findings_then}
use Rattle.linegrep_cli.specs.WriterFlushes.{IsWriterFlushed}
use Rattle.linegrep_cli.specs.WrittenRuns.{HasFailedWith}
use Rattle.linegrep_cli.specs.declared.counted_run.CountedRun.{CountedRun}
use Rattle.linegrep_cli.specs.declared.json_run.JsonRun.{JsonRun}
use Rattle.linegrep_cli.specs.declared.printers.Printer.{Printer}
use Rattle.linegrep_cli.specs.declared.printers.Printer.TheVariants.{Json, Lines, Parts, ReplacedLines, ReplacedParts}
use Rattle.linegrep_cli.specs.declared.printers.Printer.TheVariants.{Summary}

-- a printer writes by the format with which it began, after some findings, and its writer hasn't failed
pub record IsWriterAfter {G : Type 0} (format : G) (writer : Writer G) (findings : Findings) : Type 0 where
  pub same : writer.format ≡ format
  pub has_written : writer.has_written ≡ is_text findings.text
  pub unfailed : writer.has_failed ≡ false

-- so does a run, which has added up what was counted
pub record IsRunAfter {G : Type 0} (format : CountedFormat G) (run : CountedRun G) (findings : Findings) : Type 0 where
  pub writer : IsWriterAfter format run.printer findings
  pub counts : run.stats ≡ findings.stats

pub record IsJsonAfter {T : Type 0} (format : JsonFormat T) (run : JsonRun T) (findings : Findings) : Type 0 where
  pub writer : IsWriterAfter format run.printer findings
  pub counts : run.stats ≡ findings.stats

abbrev pub IsPrinterAfter : {M : Type 0} → Printer M → Printer M → Findings → Type 0
IsPrinterAfter (Lines begun) now findings =
    IsLines (λ run. IsRunAfter begun.printer.format run findings) now
IsPrinterAfter (Parts begun) now findings =
    IsParts (λ run. IsRunAfter begun.printer.format run findings) now
IsPrinterAfter (ReplacedLines begun) now findings =
    IsReplacedLines (λ run. IsRunAfter begun.printer.format run findings) now
IsPrinterAfter (ReplacedParts begun) now findings =
    IsReplacedParts (λ run. IsRunAfter begun.printer.format run findings) now
IsPrinterAfter (Summary begun) now findings =
    IsSummary (λ run. IsRunAfter begun.printer.format run findings) now
IsPrinterAfter (Json begun) now findings = IsJson (λ run. IsJsonAfter begun.printer.format run findings) now

-- what waits to be written
abbrev pub pending_of : {M : Type 0} → Printer M → List ℕ
pending_of (Lines run) = pending_bytes run.printer.pending
pending_of (Parts run) = pending_bytes run.printer.pending
pending_of (ReplacedLines run) = pending_bytes run.printer.pending
pending_of (ReplacedParts run) = pending_bytes run.printer.pending
pending_of (Summary run) = pending_bytes run.printer.pending
pending_of (Json run) = pending_bytes run.printer.pending

-- a result of counts, without them
abbrev unit-of : Result Stats (SearchError Global) → Result (Unit {0}) (SearchError Global)
unit-of (Ok stats) = Ok tt
unit-of (Err e) = Err e

text-more : (text next : List ℕ) → (is_text text || is_text next) ≡ is_text (text ++ next)
text-more [] next = refl
text-more (byte ∷ text) next = ap (λ some. some || is_text next) (text-some byte text)
    ∙ sym (text-some byte (text ++ next))

module _ {W : Type 0} (contents : W → Option (List ℕ)) (writer : W) (pending text : List ℕ) (writer' : W)
    (pending' : List ℕ) where
  -- a text comes after what an output holds and what waits
  abbrev pub IsPut : Type 0
  IsPut = (held : List ℕ) → contents writer ≡ Some held
      → (now : List ℕ) × (contents writer' ≡ Some now) × (held ++ (pending ++ text) ≡ now ++ pending')

-- two texts, one after the other
both-put : {W : Type 0} (contents : W → Option (List ℕ)) (old mid new : W) (first second third text next : List ℕ)
    → IsPut contents old first text mid second → IsPut contents mid second next new third
    → IsPut contents old first (text ++ next) new third
both-put contents old mid new first second third text next put puts held is =
    let (between, known, all) = put held is in
    let (now, last, whole) = puts between known in (
      now,
      last,
      ap (λ xs. held ++ xs) (sym (append_assoc first text next))
          ∙ (sym (append_assoc held (first ++ text) next) ∙ (ap (λ xs. xs ++ next) all
          ∙ (append_assoc between second next ∙ whole))),
    )

module _ {W G : Type 0} (write_step : W → OutputCall → W → Type 0) (writer : W) (old : Writer G) (text : List ℕ)
    (writer' : W) (new : Writer G) where
  -- if a text isn't put, that is with the writer's error, or it hasn't failed
  pub text-after : (e : SearchError Global) → FailsToPutText write_step writer old text e writer' new
      → old.has_failed ≡ false → (new.has_failed ≡ false)
      ⊎ ((error : Error) × (e ≡ Io error) × HasFailedWith write_step error writer')
  text-after e fails unfailed = elim fails.cause [
    | inl failed ↦ inr (failed.error, failed.is_io, write-failed write_step writer writer' _ failed.error failed.failed)
    | inr memory ↦ inl (memory.has_failed ∙ unfailed)
  ]

module _ {M W E : Type 0} (output : E → Option (List ℕ)) (facts : M → MatcherFacts E)
    (first_at : M → List ℕ → ℕ → Option (ℕ × ℕ)) (groups_at : M → List ℕ → ℕ → List (Option (ℕ × ℕ)))
    (write_step : W → OutputCall → W → Type 0) (contents : W
    → Option (List ℕ)) (grows : (old new : W) (call : OutputCall) → write_step old call new
    → Appends (contents old) (contents new) (taken_by call))
    {R : Type 0} (remaining : R → Option (List ℕ)) (read_step : R → ReadResult → R → Type 0)
    (state : SearcherState) (matcher : M) (lawful : IsLawful (facts matcher) state.settings)
    (path : Option PrinterPath) (reader : R) (writer : W) (searched : Searched) (reader' : R) (writer' : W) where
  abbrev After : Result (Unit {0}) (SearchError Global) → Bool → W → Type 0
  After = IsAfter write_step

  -- what a search adds to the findings before it
  pub record IsNextText (first : Printer M) (before : Findings) (old new : Printer M) : Type 0 where
    pub taken : Taken remaining read_step reader reader'
    pub next : Findings
    pub found : next.found ≡ searched.has_match
    pub of : (bytes : List ℕ) → IsInputOf remaining read_step taken state.settings bytes
        → IsTextBy facts first_at groups_at state.settings matcher first (is_text before.text) path bytes next
    pub put : IsPut contents writer (pending_of old) next.text writer' (pending_of new)
    pub after : IsPrinterAfter first new (findings_then before next)

  module _ {G : Type 0} (rules : Rules G) (format : CountedFormat G) (old new : CountedRun G)
      (counted : IsCountedSearch rules output facts first_at write_step remaining read_step state matcher path reader
      writer old searched reader' writer' new) where
    -- a run's search adds a text
    record IsRunText (before : Findings) : Type 0 where
      pub taken : Taken remaining read_step reader reader'
      pub next : Findings
      pub found : next.found ≡ searched.has_match
      pub of : (bytes : List ℕ) → IsInputOf remaining read_step taken state.settings bytes
          → IsCountedText facts first_at state.settings matcher path bytes rules format (is_text before.text) next
      pub put : IsPut contents writer (pending_bytes old.printer.pending) next.text writer'
          (pending_bytes new.printer.pending)
      pub after : IsRunAfter format new (findings_then before next)

    run-text : (before : Findings) (held : List ℕ) → contents writer ≡ Some held → searched.result ≡ Ok tt
        → IsRunAfter format old before → IsRunText before
    run-text before held is ok after =
        let printed = counted.printed in
        let (put, same) = text-of-sink (counted_rules rules) output facts first_at write_step contents grows remaining
        read_step state matcher path reader writer old.printer reader' printed.begun printed.ended printed.begins
        lawful held is (subst (λ r. IsSearchPrinted (counted_rules rules) output facts first_at write_step remaining
        read_step state reader printed.begun r reader' printed.ended) ok printed.searches) in
        record {
          taken = put.taken;
          next = record {
            found = searched.has_match;
            stats = record printed.ended.format.stats { elapsed = counted.elapsed };
            text = put.text;
          };
          found = refl;
          of = λ bytes input. record {
            last = printed.ended.format;
            of = subst₂ (λ f follows. IsTextOf (counted_rules rules) facts first_at state.settings matcher path
                ((counted_rules rules).begun f follows) bytes printed.ended.format put.text)
                after.writer.same after.writer.has_written (put.of bytes input);
            found_is = printed.has_match;
            elapsed = counted.elapsed;
            stats_is = refl;
          };
          put = λ own known. subst₂ (λ w (p : Writer (CountedFormat G)). (now : List ℕ) × (contents w ≡ Some now)
              × (own ++ (pending_bytes old.printer.pending ++ put.text) ≡ now ++ pending_bytes p.pending))
              printed.wrote printed.ends (text-put contents write_step grows writer printed.ended.writer.now own
              (pending_bytes old.printer.pending) put.text
              (pending_bytes printed.ended.printer.now.pending) known put.put);
          after = record {
            writer = record {
              same = ap (λ p. p.format) (sym printed.ends) ∙ (put.format ∙ after.writer.same);
              has_written = ap (λ p. p.has_written) (sym printed.ends)
                  ∙ (put.has_written ∙ (ap (λ follows. follows || is_text put.text) after.writer.has_written
                  ∙ text-more before.text put.text));
              unfailed = ap (λ p. p.has_failed) (sym printed.ends) ∙ (put.has_failed ∙ after.writer.unfailed);
            };
            counts = subst (λ r. AreAdded old.stats (record printed.ended.format.stats { elapsed = counted.elapsed }) r
                new.stats) ok counted.totals
                ∙ ap (λ sum. stats_sum sum (record printed.ended.format.stats { elapsed = counted.elapsed }))
                after.counts;
          };
        }

    -- however it ends, the writer hasn't failed, or its error ended the search
    run-after : old.printer.has_failed ≡ false → After searched.result new.printer.has_failed writer'
    run-after unfailed =
        subst₂ (λ failed w. After searched.result failed w)
        (ap (λ p. p.has_failed) counted.printed.ends) counted.printed.wrote
        (sink-after (counted_rules rules) output facts first_at write_step contents grows remaining read_step state
        matcher path reader writer old.printer reader' counted.printed.begun counted.printed.ended
        counted.printed.begins
        lawful searched.result counted.printed.searches unfailed)

  module _ {T : Type 0} (text_at : T → TextAt) (format : JsonFormat T) (old new : JsonRun T)
      (written : IsJsonWritten text_at output facts first_at write_step remaining read_step state matcher path reader
      writer old searched reader' writer' new) where
    abbrev end-of : List ℕ
    end-of = end_text (shown_path written.ended.path) written.ended.format.progress written.elapsed

    -- a search that ends in `Ok` puts the message that it has ended
    record IsJsonEnd : Type 0 where
      pub searched-well : written.result ≡ Ok tt
      pub counts : new.stats ≡ stats_sum old.stats (stats_of written.ended.format.progress written.elapsed)
      pub put : PutsText write_step written.ended.writer.now written.ended.printer.now end-of writer' new.printer

    json-end : searched.result ≡ Ok tt → IsJsonEnd
    json-end ok = by written.result refl written.counts written.totals written.ends
      where
        by : (result : Result (Unit {0}) (SearchError Global)) → written.result ≡ result
            → (counts : Result Stats (SearchError Global)) → AreCounted old.stats counts searched.result new.stats
            → IsEndPut write_step written.ended result written.elapsed counts writer' new.printer → IsJsonEnd
        by (Ok u) is (Ok stats) (well, sum) (counted, put) = record {
          searched-well = is;
          counts = sum ∙ ap (stats_sum old.stats) counted;
          put = put;
        }
        by (Ok u) is (Err e) (failed, sum) fails = absurd (not-both searched.result tt e ok failed)
        by (Err e) is (Ok stats) (well, sum) (counted, writes, same) = absurd (not-both (Ok stats) stats e refl counted)
        by (Err e) is (Err other) (failed, sum) ends = absurd (not-both searched.result tt other ok failed)

    record IsJsonNext (before : Findings) : Type 0 where
      pub taken : Taken remaining read_step reader reader'
      pub next : Findings
      pub found : next.found ≡ searched.has_match
      pub of : (bytes : List ℕ) → IsInputOf remaining read_step taken state.settings bytes
          → IsJsonText facts first_at state.settings matcher path bytes text_at format (is_text before.text) next
      pub put : IsPut contents writer (pending_bytes old.printer.pending) next.text writer'
          (pending_bytes new.printer.pending)
      pub after : IsJsonAfter format new (findings_then before next)

    json-text : (before : Findings) (held : List ℕ) → contents writer ≡ Some held → searched.result ≡ Ok tt
        → IsJsonAfter format old before → IsJsonNext before
    json-text before held is ok after =
        let end = json-end ok in
        let (put, same) = text-of-sink (json_rules text_at) output facts first_at write_step contents grows remaining
        read_step state matcher path reader writer old.printer reader' written.begun written.ended written.begins
        lawful held is (subst (λ r. IsSearchPrinted (json_rules text_at) output facts first_at write_step remaining
        read_step state reader written.begun r reader' written.ended) end.searched-well written.searches) in
        record {
          taken = put.taken;
          next = record {
            found = searched.has_match;
            stats = stats_of written.ended.format.progress written.elapsed;
            text = put.text ++ end-of;
          };
          found = refl;
          of = λ bytes input. record {
            last = written.ended.format;
            body = put.text;
            of = subst₂ (λ f follows. IsTextOf (json_rules text_at) facts first_at state.settings matcher path
                ((json_rules text_at).begun f follows) bytes written.ended.format put.text)
                after.writer.same after.writer.has_written (put.of bytes input);
            found_is = written.has_match;
            elapsed = written.elapsed;
            stats_is = refl;
            text_is = ap (λ p. put.text ++ end_text (shown_path p) written.ended.format.progress written.elapsed) same;
          };
          put = both-put contents writer written.ended.writer.now writer' (pending_bytes old.printer.pending)
              (pending_bytes written.ended.printer.now.pending) (pending_bytes new.printer.pending) put.text end-of
              (λ own known. text-put contents write_step grows writer written.ended.writer.now own
              (pending_bytes old.printer.pending) put.text
              (pending_bytes written.ended.printer.now.pending) known put.put)
              (λ own known. text-put contents write_step grows written.ended.writer.now writer' own
              (pending_bytes written.ended.printer.now.pending) end-of (pending_bytes new.printer.pending) known
              end.put.put);
          after = record {
            writer = record {
              same = end.put.format ∙ (put.format ∙ after.writer.same);
              has_written = end.put.has_written
                  ∙ (ap (λ follows. follows || is_text end-of) (put.has_written
                  ∙ (ap (λ follows. follows || is_text put.text) after.writer.has_written
                  ∙ text-more before.text put.text))
                  ∙ (text-more (before.text ++ put.text) end-of
                  ∙ ap is_text (append_assoc before.text put.text end-of)));
              unfailed = end.put.has_failed ∙ (put.has_failed ∙ after.writer.unfailed);
            };
            counts = end.counts ∙ ap (λ sum. stats_sum sum (stats_of written.ended.format.progress written.elapsed))
                after.counts;
          };
        }

    json-after : old.printer.has_failed ≡ false → After searched.result new.printer.has_failed writer'
    json-after unfailed = by written.result written.counts written.totals written.ends
        (sink-after (json_rules text_at) output facts first_at write_step contents grows remaining read_step state
        matcher path reader writer old.printer reader' written.begun written.ended written.begins lawful written.result
        written.searches unfailed)
      where
        by : (result : Result (Unit {0}) (SearchError Global)) (counts : Result Stats (SearchError Global))
            → AreCounted old.stats counts searched.result new.stats
            → IsEndPut write_step written.ended result written.elapsed counts writer' new.printer
            → After result written.ended.printer.now.has_failed written.ended.writer.now
            → After searched.result new.printer.has_failed writer'
        by (Ok u) (Ok stats) counted (sum, put) (inl well) = inl (put.has_failed ∙ well)
        by (Ok u) (Ok stats) counted (sum, put) (inr (error, is, failed)) =
            absurd (not-both (Ok u) u (Io error) refl is)
        by (Ok u) (Err e) (is, same) fails (inl well) = elim (text-after write_step written.ended.writer.now
            written.ended.printer.now end-of writer' new.printer e fails well) [
              | inl still ↦ inl still
              | inr (error, io, failed) ↦ inr (error, is ∙ ap Err io, failed)
            ]
        by (Ok u) (Err e) counted fails (inr (error, is, failed)) = absurd (not-both (Ok u) u (Io error) refl is)
        by (Err e) (Ok stats) counted (is, writes, same) after = absurd (not-both (Ok stats) stats e refl is)
        by (Err e) (Err other) (result_is, same) (is, writes, still) (inl well) =
            inl (ap (λ p. p.has_failed) still ∙ well)
        by (Err e) (Err other) (result_is, same) (is, writes, still) (inr (error, io, failed)) =
            inr (error, result_is ∙ (ap unit-of is ∙ io), subst (HasFailedWith write_step error) (sym writes) failed)

  -- a search by a printer
  abbrev Search : Printer M → Printer M → Type 0
  Search old new = IsSearchWritten output facts first_at groups_at write_step remaining read_step state matcher path
      reader writer old searched reader' writer' new

  by-runs : (first : Printer M) (before : Findings) (old new one other : Printer M) → old ≡ one → new ≡ other
      → IsNextText first before one other → IsNextText first before old new
  by-runs first before old new one other is was next =
      subst₂ (IsNextText first before) (sym is) (sym was) next

  -- if it ends in `Ok`, it adds a text
  pub printer-text : (first old new : Printer M) (before : Findings) (held : List ℕ) → contents writer ≡ Some held
      → searched.result ≡ Ok tt → IsPrinterAfter first old before → Search old new → IsNextText first before old new
  printer-text (Lines begun) old new before held is ok after written =
      let (one, is_one, kept) = lines-run old after in
      let (other, is_other, counted) = lines-run new (subst (λ p. Search p new) is_one written) in
      let next = run-text standard_rules begun.printer.format one other counted before held is ok kept in
      by-runs (Lines begun) before old new (Lines one) (Lines other) is_one is_other (record {
        taken = next.taken;
        next = next.next;
        found = next.found;
        of = next.of;
        put = next.put;
        after = next.after;
      })
  printer-text (Parts begun) old new before held is ok after written =
      let (one, is_one, kept) = parts-run old after in
      let (other, is_other, counted) = parts-run new (subst (λ p. Search p new) is_one written) in
      let next = run-text vimgrep_rules begun.printer.format one other counted before held is ok kept in
      by-runs (Parts begun) before old new (Parts one) (Parts other) is_one is_other (record {
        taken = next.taken;
        next = next.next;
        found = next.found;
        of = next.of;
        put = next.put;
        after = next.after;
      })
  printer-text (ReplacedLines begun) old new before held is ok after written =
      let (one, is_one, kept) = replaced-lines-run old after in
      let (other, is_other, counted) = replaced-lines-run new (subst (λ p. Search p new) is_one written) in
      let next = run-text (replaced_rules standard_rules groups_at (λ m.
      (facts m).meaning)) begun.printer.format one other counted before held is ok kept in
      by-runs (ReplacedLines begun) before old new (ReplacedLines one) (ReplacedLines other) is_one is_other (record {
        taken = next.taken;
        next = next.next;
        found = next.found;
        of = next.of;
        put = next.put;
        after = next.after;
      })
  printer-text (ReplacedParts begun) old new before held is ok after written =
      let (one, is_one, kept) = replaced-parts-run old after in
      let (other, is_other, counted) = replaced-parts-run new (subst (λ p. Search p new) is_one written) in
      let next = run-text (replaced_rules vimgrep_rules groups_at (λ m.
      (facts m).meaning)) begun.printer.format one other counted before held is ok kept in
      by-runs (ReplacedParts begun) before old new (ReplacedParts one) (ReplacedParts other) is_one is_other (record {
        taken = next.taken;
        next = next.next;
        found = next.found;
        of = next.of;
        put = next.put;
        after = next.after;
      })
  printer-text (Summary begun) old new before held is ok after written =
      let (one, is_one, kept) = summary-run old after in
      let (other, is_other, counted) = summary-run new (subst (λ p. Search p new) is_one written) in
      let next = run-text summary_rules begun.printer.format one other counted before held is ok kept in
      by-runs (Summary begun) before old new (Summary one) (Summary other) is_one is_other (record {
        taken = next.taken;
        next = next.next;
        found = next.found;
        of = next.of;
        put = next.put;
        after = next.after;
      })
  printer-text (Json begun) old new before held is ok after written =
      let (one, is_one, kept) = json-run old after in
      let (other, is_other, told) = json-run new (subst (λ p. Search p new) is_one written) in
      let next = json-text (optional_text_at (template_text_at groups_at (λ m. (facts m).meaning)))
      begun.printer.format one other told before held is ok kept in
      by-runs (Json begun) before old new (Json one) (Json other) is_one is_other (record {
        taken = next.taken;
        next = next.next;
        found = next.found;
        of = next.of;
        put = next.put;
        after = next.after;
      })

  -- however it ends, the writer hasn't failed, or its error ended the search
  pub printer-after : (old new : Printer M) → Search old new → has_failed old ≡ false
      → After searched.result (has_failed new) writer'
  printer-after (Lines one) new written unfailed =
      let (other, is, counted) = lines-run new written in
      subst (λ p. After searched.result (has_failed p) writer') (sym is)
      (run-after standard_rules one.printer.format one other counted unfailed)
  printer-after (Parts one) new written unfailed =
      let (other, is, counted) = parts-run new written in
      subst (λ p. After searched.result (has_failed p) writer') (sym is)
      (run-after vimgrep_rules one.printer.format one other counted unfailed)
  printer-after (ReplacedLines one) new written unfailed =
      let (other, is, counted) = replaced-lines-run new written in
      subst (λ p. After searched.result (has_failed p) writer') (sym is)
      (run-after (replaced_rules standard_rules groups_at (λ m.
      (facts m).meaning)) one.printer.format one other counted unfailed)
  printer-after (ReplacedParts one) new written unfailed =
      let (other, is, counted) = replaced-parts-run new written in
      subst (λ p. After searched.result (has_failed p) writer') (sym is)
      (run-after (replaced_rules vimgrep_rules groups_at (λ m.
      (facts m).meaning)) one.printer.format one other counted unfailed)
  printer-after (Summary one) new written unfailed =
      let (other, is, counted) = summary-run new written in
      subst (λ p. After searched.result (has_failed p) writer') (sym is)
      (run-after summary_rules one.printer.format one other counted unfailed)
  printer-after (Json one) new written unfailed =
      let (other, is, told) = json-run new written in
      subst (λ p. After searched.result (has_failed p) writer') (sym is)
      (json-after (optional_text_at (template_text_at groups_at (λ m. (facts m).meaning))) one.printer.format one other
      told unfailed)

flush-after : {W G : Type 0} (write_step : W → OutputCall → W → Type 0) (writer writer' : W) (old new : Writer G)
    (format : G) (findings : Findings) → IsWriterFlushed write_step writer old (Ok tt) writer' new
    → IsWriterAfter format old findings → IsWriterAfter format new findings
flush-after write_step writer writer' old new format findings flush after = record {
  same = flush.format ∙ after.same;
  has_written = flush.has_written ∙ after.has_written;
  unfailed = flush.has_failed ∙ after.unfailed;
}

module _ {M W : Type 0} (write_step : W → OutputCall → W → Type 0) (writer : W) (result : Result (Unit {0}) Error)
    (writer' : W) where
  -- what is pending is written and flushed, or the writer fails
  pub record IsFlush (old new : Printer M) : Type 0 where
    pub flushed : Flushes write_step writer (pending_of old) result writer'
    pub emptied : pending_of new ≡ []
    pub failed : has_failed new ≡ (if is_ok result then has_failed old else true)

  -- a flush of a printer
  pub printer-flushed : (old new : Printer M) → IsFlushed write_step writer old result writer' new → IsFlush old new
  printer-flushed (Lines one) new flushed =
      let (other, is, flush) = lines-run new flushed in
      subst (IsFlush (Lines one)) (sym is) (record {
        flushed = flush.0.flushed;
        emptied = flush.0.emptied;
        failed = flush.0.has_failed;
      })
  printer-flushed (Parts one) new flushed =
      let (other, is, flush) = parts-run new flushed in
      subst (IsFlush (Parts one)) (sym is) (record {
        flushed = flush.0.flushed;
        emptied = flush.0.emptied;
        failed = flush.0.has_failed;
      })
  printer-flushed (ReplacedLines one) new flushed =
      let (other, is, flush) = replaced-lines-run new flushed in
      subst (IsFlush (ReplacedLines one)) (sym is) (record {
        flushed = flush.0.flushed;
        emptied = flush.0.emptied;
        failed = flush.0.has_failed;
      })
  printer-flushed (ReplacedParts one) new flushed =
      let (other, is, flush) = replaced-parts-run new flushed in
      subst (IsFlush (ReplacedParts one)) (sym is) (record {
        flushed = flush.0.flushed;
        emptied = flush.0.emptied;
        failed = flush.0.has_failed;
      })
  printer-flushed (Summary one) new flushed =
      let (other, is, flush) = summary-run new flushed in
      subst (IsFlush (Summary one)) (sym is) (record {
        flushed = flush.0.flushed;
        emptied = flush.0.emptied;
        failed = flush.0.has_failed;
      })
  printer-flushed (Json one) new flushed =
      let (other, is, flush) = json-run new flushed in
      subst (IsFlush (Json one)) (sym is) (record {
        flushed = flush.0.flushed;
        emptied = flush.0.emptied;
        failed = flush.0.has_failed;
      })

-- after a flush the printer stays after the same findings
pub flush-keeps : {M W : Type 0} (write_step : W → OutputCall → W → Type 0) (writer writer' : W)
    (first old new : Printer M) (findings : Findings) → IsPrinterAfter first old findings
    → IsFlushed write_step writer old (Ok tt) writer' new → IsPrinterAfter first new findings
flush-keeps write_step writer writer' (Lines begun) old new findings after flushed =
    let (one, is_one, kept) = lines-run old after in
    let (other, is, flush) = lines-run new
    (subst (λ p. IsFlushed write_step writer p (Ok tt) writer' new) is_one flushed) in
    subst (λ p. IsPrinterAfter (Lines begun) p findings) (sym is) (record {
      writer = flush-after write_step writer writer' one.printer other.printer begun.printer.format findings flush.0
          kept.writer;
      counts = ap (λ r. r.stats) flush.1 ∙ kept.counts;
    })
flush-keeps write_step writer writer' (Parts begun) old new findings after flushed =
    let (one, is_one, kept) = parts-run old after in
    let (other, is, flush) = parts-run new
    (subst (λ p. IsFlushed write_step writer p (Ok tt) writer' new) is_one flushed) in
    subst (λ p. IsPrinterAfter (Parts begun) p findings) (sym is) (record {
      writer = flush-after write_step writer writer' one.printer other.printer begun.printer.format findings flush.0
          kept.writer;
      counts = ap (λ r. r.stats) flush.1 ∙ kept.counts;
    })
flush-keeps write_step writer writer' (ReplacedLines begun) old new findings after flushed =
    let (one, is_one, kept) = replaced-lines-run old after in
    let (other, is, flush) = replaced-lines-run new
    (subst (λ p. IsFlushed write_step writer p (Ok tt) writer' new) is_one flushed) in
    subst (λ p. IsPrinterAfter (ReplacedLines begun) p findings) (sym is) (record {
      writer = flush-after write_step writer writer' one.printer other.printer begun.printer.format findings flush.0
          kept.writer;
      counts = ap (λ r. r.stats) flush.1 ∙ kept.counts;
    })
flush-keeps write_step writer writer' (ReplacedParts begun) old new findings after flushed =
    let (one, is_one, kept) = replaced-parts-run old after in
    let (other, is, flush) = replaced-parts-run new
    (subst (λ p. IsFlushed write_step writer p (Ok tt) writer' new) is_one flushed) in
    subst (λ p. IsPrinterAfter (ReplacedParts begun) p findings) (sym is) (record {
      writer = flush-after write_step writer writer' one.printer other.printer begun.printer.format findings flush.0
          kept.writer;
      counts = ap (λ r. r.stats) flush.1 ∙ kept.counts;
    })
flush-keeps write_step writer writer' (Summary begun) old new findings after flushed =
    let (one, is_one, kept) = summary-run old after in
    let (other, is, flush) = summary-run new
    (subst (λ p. IsFlushed write_step writer p (Ok tt) writer' new) is_one flushed) in
    subst (λ p. IsPrinterAfter (Summary begun) p findings) (sym is) (record {
      writer = flush-after write_step writer writer' one.printer other.printer begun.printer.format findings flush.0
          kept.writer;
      counts = ap (λ r. r.stats) flush.1 ∙ kept.counts;
    })
flush-keeps write_step writer writer' (Json begun) old new findings after flushed =
    let (one, is_one, kept) = json-run old after in
    let (other, is, flush) = json-run new
    (subst (λ p. IsFlushed write_step writer p (Ok tt) writer' new) is_one flushed) in
    subst (λ p. IsPrinterAfter (Json begun) p findings) (sym is) (record {
      writer = flush-after write_step writer writer' one.printer other.printer begun.printer.format findings flush.0
          kept.writer;
      counts = ap (λ r. r.stats) flush.1 ∙ kept.counts;
    })
