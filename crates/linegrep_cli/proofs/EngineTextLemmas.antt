-- What the calls of an engine come to, by what its output holds, and how its output fails.
use Rattle.std.proofs.Common.{◌≡◌, ◌∙◌, ℕ, Bool, true, false, List, [], ◌∷◌, ◌++◌, ap, append_assoc, refl, subst, subst₂}
use Rattle.std.proofs.Common.{sym}
use Rattle.std.proofs.Common.{◌⊎◌, inl, inr, true≢false}
use Rattle.std.specs.Prelude.{◌||◌, MatchResult, None, Option, Some, Result, Ok, Err, is_some}
use Rattle.std.specs.Borrow.{Bor}
use Rattle.std.specs.Global.{Global}
use Rattle.std.specs.Io.KnownBytes.{IsAtEnd}
use Rattle.std.specs.List.{concat}
use Rattle.std.specs.declared.io.Error.{Error}
use Rattle.std.proofs.lemmas.List.{append-nil}
use Rattle.std.specs.Io.KnownBytes.{Appends}
use Rattle.grep_output.specs.Outputs.{OutputCall, taken_by}
use Rattle.grep_printer.specs.Formats.{is_text}
use Rattle.grep_printer.specs.declared.printed_search.Searched.{Searched}
use Rattle.grep_searcher.specs.Meanings.{MatcherFacts}
use Rattle.grep_searcher.specs.Plans.{IsLawful, Settings}
use Rattle.grep_searcher.specs.Searches.{Reads, searched_bytes}
use Rattle.grep_searcher.specs.Source.{Pulls, ReadResult}
use Rattle.grep_searcher.specs.declared.BinaryDetection.{BinaryDetection}
use Rattle.grep_searcher.specs.declared.LineTerminator.{LineTerminator}
use Rattle.grep_searcher.specs.declared.SearchError.{SearchError}
use Rattle.grep_searcher.specs.declared.SearchError.TheVariants.{Io}
use Rattle.linegrep_cli.proofs.OutputTextLemmas.{all-flushed, flush-failed}
use Rattle.linegrep_cli.proofs.PrinterTextLemmas.{IsNextText, IsPrinterAfter, flush-keeps, pending_of, printer-after}
use Rattle.linegrep_cli.proofs.PrinterTextLemmas.{printer-flushed, printer-text}
use Rattle.linegrep_cli.proofs.PrinterTotalLemmas.{all-finished, finished-after}
use Rattle.linegrep_cli.proofs.SearchTextLemmas.{IsAfter, not-both, one-error, one-io-error}
use Rattle.linegrep_cli.proofs.VisitSoundLemmas.{CallsKeep, IsSearchedSoundly}
use Rattle.linegrep_cli.specs.EngineCalls.{EngineCall, finishes, says, searches_file, searches_input, sets_quits}
use Rattle.linegrep_cli.specs.Haystacks.{IsPulled, IsPulledIn, remaining_in, remaining_of}
use Rattle.linegrep_cli.specs.HyperlinkOptions.{IsPathShown}
use Rattle.linegrep_cli.specs.PrintingEngines.{IsEngineStep, IsSearched, IsUnsearched, IsWrittenResult}
use Rattle.linegrep_cli.specs.PrintingEngines.{detection_with}
use Rattle.linegrep_cli.specs.RunInputs.{AreReadOf, IsFileInput, IsReaderInput}
use Rattle.linegrep_cli.specs.EngineSteps.{IsWrittenError, has_failed}
use Rattle.linegrep_cli.specs.PrinterSearches.{IsFinished}
use Rattle.linegrep_cli.specs.SearchTexts.{AreTextsFor, AreTotals, Findings, Input, IsTextBy, MayHave, findings_then}
use Rattle.linegrep_cli.specs.SearchTexts.{next_input, settings_for}
use Rattle.linegrep_cli.specs.WrittenRuns.{HasFailedWith}
use Rattle.linegrep_cli.specs.declared.engine.PrintingEngine.{PrintingEngine}
use Rattle.linegrep_cli.specs.declared.haystacks.Haystack.{Haystack}
use Rattle.linegrep_cli.specs.declared.printers.Printer.{Printer}
use Rattle.grep_printer.specs.declared.hyperlinks.HyperlinkConfig.{HyperlinkConfig}
use Rattle.grep_printer.specs.declared.hyperlinks.PrinterPath.{PrinterPath}
use Rattle.linegrep_files.specs.FolderFacts.{FolderFacts}

at-end : {R : Type 0} (remaining : R → Option (List ℕ)) (read_step : R → ReadResult → R → Type 0) (ended : Bool)
    (old : R) (pieces : List (List ℕ)) (new : R) → Reads remaining read_step ended old pieces new → ended ≡ true
    → IsAtEnd (remaining new)
at-end remaining read_step true old pieces new (mid, pulled, last, end) is = end
at-end remaining read_step false old pieces new pulled is = absurd (true≢false (sym is))

module _ {F R : Type 0} (file_remaining : F → Option (List ℕ)) (remaining : R → Option (List ℕ))
    (read_step : R → ReadResult → R → Type 0) where
  abbrev Pull : Haystack F R → ReadResult → Haystack F R → Type 0
  Pull = IsPulled file_remaining remaining read_step

  -- a file that is read leaves standard input as it is
  pulled-file : (old : Haystack F R) (result : ReadResult) (new : Haystack F R) → is_some old.file ≡ true
      → Pull old result new → (is_some new.file ≡ true) × (new.reader ≡ old.reader)
  pulled-file old result new has pulled = by old.file has pulled
    where
      by : (file : Option F) → is_some file ≡ true
          → IsPulledIn file_remaining remaining read_step file old.reader result
          new.file new.reader → (is_some new.file ≡ true) × (new.reader ≡ old.reader)
      by (Some file) is (read, now, same, front) = (ap is_some now, same)
      by None is pulled = absurd (true≢false (sym is))

  file-pulls : (pieces : List (List ℕ)) (old new : Haystack F R) → is_some old.file ≡ true
      → Pulls Pull old pieces new → (is_some new.file ≡ true) × (new.reader ≡ old.reader)
  file-pulls [] old new has same = (
    subst (λ (h : Haystack F R). is_some h.file ≡ true) same has,
    ap (λ (h : Haystack F R). h.reader) (sym same),
  )
  file-pulls (piece ∷ pieces) old new has (some, (mid, pulled, later)) =
      let (still, same) = pulled-file old (Ok piece) mid has pulled in
      let (last, now) = file-pulls pieces mid new still later in
      (last, now ∙ same)

  pub file-reads : (ended : Bool) (pieces : List (List ℕ)) (old new : Haystack F R) → is_some old.file ≡ true
      → Reads (remaining_of file_remaining remaining) Pull ended old pieces new → new.reader ≡ old.reader
  file-reads false pieces old new has pulled = (file-pulls pieces old new has pulled).1
  file-reads true pieces old new has (mid, pulled, last, end) =
      let (still, same) = file-pulls pieces old mid has pulled in
      (pulled-file mid (Ok []) new still last).1 ∙ same

  -- without a file standard input is read
  pulled-reader : (old : Haystack F R) (result : ReadResult) (new : Haystack F R) → old.file ≡ None
      → Pull old result new → (new.file ≡ None) × read_step old.reader result new.reader
  pulled-reader old result new none pulled =
      subst (λ file. IsPulledIn file_remaining remaining read_step file old.reader
      result new.file new.reader) none pulled

  reader-pulls : (pieces : List (List ℕ)) (old new : Haystack F R) → old.file ≡ None → Pulls Pull old pieces new
      → (new.file ≡ None) × Pulls read_step old.reader pieces new.reader
  reader-pulls [] old new none same =
      (subst (λ (h : Haystack F R). h.file ≡ None) same none, ap (λ (h : Haystack F R). h.reader) same)
  reader-pulls (piece ∷ pieces) old new none (some, (mid, pulled, later)) =
      let (still, step) = pulled-reader old (Ok piece) mid none pulled in
      let (last, pulls) = reader-pulls pieces mid new still later in
      (last, (some, (mid.reader, step, pulls)))

  pub reader-reads : (ended : Bool) (pieces : List (List ℕ)) (old new : Haystack F R) → old.file ≡ None
      → Reads (remaining_of file_remaining remaining) Pull ended old pieces new
      → Reads remaining read_step ended old.reader pieces new.reader
  reader-reads false pieces old new none pulled = (reader-pulls pieces old new none pulled).1
  reader-reads true pieces old new none (mid, pulled, last, end) =
      let (still, pulls) = reader-pulls pieces old mid none pulled in
      let (gone, step) = pulled-reader mid (Ok []) new still last in (
        mid.reader,
        pulls,
        step,
        subst (λ file. IsAtEnd
            (remaining_in file_remaining remaining file new.reader)) gone end,
      )

module _ {S F M R W X E : Type 0} (output : E → Option (List ℕ)) (facts : M → MatcherFacts E)
    (first_at : M → List ℕ → ℕ → Option (ℕ × ℕ)) (groups_at : M → List ℕ → ℕ → List (Option (ℕ × ℕ)))
    (write_step : W → OutputCall → W → Type 0) (file_remaining : F → Option (List ℕ)) (remaining : R → Option (List ℕ))
    (read_step : R → ReadResult → R → Type 0) (contents : W
    → Option (List ℕ)) (grows : (old new : W) (call : OutputCall) → write_step old call new
    → Appends (contents old) (contents new) (taken_by call))
    (settings : Settings) (separator : Option ℕ) (facts_of : S → FolderFacts) (system : S)
    (hyperlinks : Option (Bor HyperlinkConfig)) (matcher : M)
    (trusted : (terminator : LineTerminator) → (facts matcher).is_lawful terminator) (first : Printer M)
    (before : List ℕ) where
  abbrev Step : PrintingEngine S F M R W X → EngineCall F → PrintingEngine S F M R W X → Type 0
  Step = IsEngineStep output facts first_at groups_at write_step file_remaining remaining read_step facts_of

  -- The engine of a run, some of whose inputs were searched. What it holds and what waits to be written are
  -- what it held in the beginning and the texts of these.
  pub record IsAt (quits : Bool) (inputs : List Input) (found : Bool) (reader : R)
      (engine : PrintingEngine S F M R W X) : Type 0 where
    pub findings : Findings
    pub texts : AreTextsFor facts first_at groups_at settings matcher first inputs findings
    pub found_is : findings.found ≡ found
    pub is_settings : engine.searcher.settings ≡ settings_for settings quits
    pub asks : engine.matcher ≡ matcher
    pub detects : engine.detection ≡ settings.binary_detection
    pub separates : engine.path_separator ≡ separator
    pub links : engine.hyperlinks ≡ hyperlinks
    pub asks_system : engine.system.now ≡ system
    pub reads : engine.haystack ≡ record { file = None; reader = reader }
    pub after : IsPrinterAfter first engine.printer findings
    pub held : List ℕ
    pub holds : contents engine.writer ≡ Some held
    pub whole : before ++ findings.text ≡ held ++ pending_of engine.printer

  -- an engine whose writer hasn't failed
  pub record IsSound (engine : PrintingEngine S F M R W X) : Type 0 where
    pub asks : engine.matcher ≡ matcher
    pub unfailed : has_failed engine.printer ≡ false

  -- an engine of whose run all is written
  pub record IsDone (inputs : List Input) (found : Bool) (reader : R) (engine : PrintingEngine S F M R W X) : Type 0
    where
      pub findings : Findings
      pub texts : AreTextsFor facts first_at groups_at settings matcher first inputs findings
      pub found_is : findings.found ≡ found
      pub totals : List ℕ
      pub are_totals : AreTotals first findings.stats totals
      pub holds : contents engine.writer ≡ Some (before ++ (findings.text ++ totals))
      pub reads : engine.haystack.reader ≡ reader

  module _ (old new : PrintingEngine S F M R W X) where
    lawful : old.matcher ≡ matcher → IsLawful (facts old.matcher) old.searcher.settings
    lawful asks asked =
        subst (λ m. (facts m).is_lawful old.searcher.settings.line_terminator) (sym asks)
        (trusted old.searcher.settings.line_terminator)

    -- a path that is shown by the engine's separator, and by links
    shown-by : (links : Option (Bor HyperlinkConfig)) (path : Option (Bor (List ℕ))) (shown : Option PrinterPath)
        → old.path_separator ≡ separator → old.system.now ≡ system
        → IsPathShown (facts_of old.system.now) old.path_separator links path shown
        → IsPathShown (facts_of system) separator links path shown
    shown-by links path shown is asks shows = subst₂ (λ s (x : S). IsPathShown (facts_of x) s links path shown) is asks
        shows

    -- and by the engine's links
    shown-with : (path : Option (Bor (List ℕ))) (shown : Option PrinterPath)
        → old.path_separator ≡ separator → old.hyperlinks ≡ hyperlinks → old.system.now ≡ system
        → IsPathShown (facts_of old.system.now) old.path_separator old.hyperlinks path shown
        → IsPathShown (facts_of system) separator hyperlinks path shown
    shown-with path shown is links asks shows = shown-by hyperlinks path shown is asks
        (subst (λ l. IsPathShown (facts_of old.system.now) old.path_separator l path shown) links shows)

    module _ (file : Option F) (shown : Option PrinterPath) (searched : Searched)
        (search : IsSearched output facts first_at groups_at write_step file_remaining remaining read_step file old
        shown
        searched new) (ok : searched.result ≡ Ok tt) (quits : Bool) (inputs : List Input) (found : Bool) (reader : R)
        (at : IsAt quits inputs found reader old) where
      next : IsNextText output facts first_at groups_at write_step contents grows
          (remaining_of file_remaining remaining) (IsPulled file_remaining remaining read_step) old.searcher old.matcher
          (lawful at.asks) shown (record { file = file; reader = old.haystack.reader }) old.writer searched search.left
          new.writer first at.findings old.printer new.printer
      next = printer-text output facts first_at groups_at write_step contents grows
          (remaining_of file_remaining remaining) (IsPulled file_remaining remaining read_step) old.searcher old.matcher
          (lawful at.asks) shown (record { file = file; reader = old.haystack.reader }) old.writer searched search.left
          new.writer first old.printer new.printer at.findings at.held at.holds ok at.after search.written

      -- what was searched
      abbrev searched-input : Input
      searched-input = record {
        path = shown;
        read = concat next.taken.pieces;
        is_all = next.taken.ended;
        quits = quits;
      }

      searched-read : AreReadOf (remaining_in file_remaining remaining file
          old.haystack.reader) searched-input.read searched-input.is_all
      searched-read = (
        remaining_of file_remaining remaining search.left,
        next.taken.takes,
        at-end (remaining_of file_remaining remaining) (IsPulled file_remaining remaining read_step) next.taken.ended
            _ next.taken.pieces search.left next.taken.calls,
      )

      -- its text
      searched-text : (bytes : List ℕ) → MayHave searched-input bytes
          → IsTextBy facts first_at groups_at (settings_for settings quits) matcher first
          (is_text at.findings.text) shown
          (searched_bytes (settings_for settings quits) bytes) next.next
      searched-text bytes (more, none, is) =
          subst (λ s. IsTextBy facts first_at groups_at s matcher first (is_text at.findings.text)
          shown (searched_bytes s bytes) next.next) at.is_settings
          (subst (λ m. IsTextBy facts first_at groups_at old.searcher.settings m first
          (is_text at.findings.text) shown (searched_bytes old.searcher.settings bytes) next.next) at.asks
          (next.of (searched_bytes old.searcher.settings bytes)
          (more, none, ap (searched_bytes old.searcher.settings) is)))

      put : (now : List ℕ) × (contents new.writer ≡ Some now)
          × (at.held ++ (pending_of old.printer ++ next.next.text) ≡ now ++ pending_of new.printer)
      put = next.put at.held at.holds

      -- where the engine is then
      searched-at : (reader' : R) → search.left.reader ≡ reader'
          → IsAt quits (inputs ++ searched-input ∷ []) (found || searched.has_match) reader' new
      searched-at reader' left = record {
        findings = findings_then at.findings next.next;
        texts = next_input searched-input next.next at.texts searched-text;
        found_is = ap (λ found. found || next.next.found) at.found_is ∙ ap (λ match. found || match) next.found;
        is_settings = search.settings ∙ at.is_settings;
        asks = ap (λ (e : PrintingEngine S F M R W X). e.matcher) search.others ∙ at.asks;
        detects = ap (λ (e : PrintingEngine S F M R W X). e.detection) search.others ∙ at.detects;
        separates = ap (λ (e : PrintingEngine S F M R W X). e.path_separator) search.others ∙ at.separates;
        links = ap (λ (e : PrintingEngine S F M R W X). e.hyperlinks) search.others ∙ at.links;
        asks_system = ap (λ (e : PrintingEngine S F M R W X). e.system.now) search.others ∙ at.asks_system;
        reads = ap (λ (e : PrintingEngine S F M R W X). e.haystack) search.others
            ∙ ap (λ r. record { file = None; reader = r }) left;
        after = next.after;
        held = put.0;
        holds = put.1;
        whole = sym (append_assoc before at.findings.text next.next.text)
            ∙ (ap (λ all. all ++ next.next.text) at.whole
            ∙ (append_assoc at.held (pending_of old.printer) next.next.text ∙ put.2));
      }

  -- a search of a file, or of standard input, with a path as it is shown
  pub file-kept : (quits : Bool) (inputs : List Input) (found : Bool) (reader : R) (old new : PrintingEngine S F M R W X)
      (path : Option (Bor (List ℕ))) (file : F) (searched : Searched) → IsAt quits inputs found reader old
      → Step old (searches_file path file searched) new → searched.result ≡ Ok tt
      → (input : Input) × IsFileInput file_remaining (facts_of system) separator hyperlinks path file quits input
      × IsAt quits (inputs ++ input ∷ []) (found || searched.has_match) reader new
  file-kept quits inputs found reader old new path file searched at (inl (shown, shows, search)) ok =
      let is-next = next old new (Some file) shown searched search ok quits inputs found reader at in (
        searched-input old new (Some file) shown searched search ok quits inputs found reader at,
        record {
          shown = shown-with old new path shown at.separates at.links at.asks_system shows;
          quits_is = refl;
          read = searched-read old new (Some file) shown searched search ok quits inputs found reader at;
        },
        searched-at old new (Some file) shown searched search ok quits inputs found reader at reader
            (file-reads file_remaining remaining read_step is-next.taken.ended is-next.taken.pieces
            (record { file = Some file; reader = old.haystack.reader }) search.left refl is-next.taken.calls
            ∙ ap (λ (h : Haystack F R). h.reader) at.reads),
      )
  file-kept quits inputs found reader old new path file searched at (inr (has, unsearched, same)) ok =
      absurd (not-searched searched unsearched ok)
    where
      not-searched : (searched : Searched) → IsUnsearched searched → searched.result ≡ Ok tt → ⊥
      not-searched searched (none, (error, memory, is)) ok = not-both searched.result tt _ ok is

  pub input-kept : (inputs : List Input) (found : Bool) (reader : R) (old new : PrintingEngine S F M R W X)
      (path : Option (Bor (List ℕ))) (searched : Searched) → IsAt false inputs found reader old
      → Step old (searches_input path searched) new → searched.result ≡ Ok tt
      → (input : Input) × (reader' : R) × IsReaderInput remaining read_step (facts_of system) separator path reader input reader'
      × IsAt false (inputs ++ input ∷ []) (found || searched.has_match) reader' new
  input-kept inputs found reader old new path searched at (inl (shown, shows, search)) ok =
      let is-next = next old new None shown searched search ok false inputs found reader at in
      let is : old.haystack.reader ≡ reader = ap (λ (h : Haystack F R). h.reader) at.reads in (
        searched-input old new None shown searched search ok false inputs found reader at,
        search.left.reader,
        record {
          shown = shown-by old new None path shown at.separates at.asks_system shows;
          quits_is = refl;
          pieces = is-next.taken.pieces;
          read_is = refl;
          calls = subst (λ r. Reads remaining read_step is-next.taken.ended r is-next.taken.pieces
              search.left.reader) is
              (reader-reads file_remaining remaining read_step is-next.taken.ended is-next.taken.pieces
              (record { file = None; reader = old.haystack.reader }) search.left refl is-next.taken.calls);
          read = subst (λ r. AreReadOf (remaining r) (concat is-next.taken.pieces) is-next.taken.ended) is
              (searched-read old new None shown searched search ok false inputs found reader at);
        },
        searched-at old new None shown searched search ok false inputs found reader at search.left.reader refl,
      )
  input-kept inputs found reader old new path searched at (inr (has, (none, (error, memory, is)), same)) ok =
      absurd (not-both searched.result tt _ ok is)

  -- before a text on standard error all is written
  pub text-kept : (quits : Bool) (inputs : List Input) (found : Bool) (reader : R) (old new : PrintingEngine S F M R W X)
      → IsAt quits inputs found reader old → Step old (says (Ok tt)) new → IsAt quits inputs found reader new
  text-kept quits inputs found reader old new at is =
      let flush = printer-flushed write_step old.writer (Ok tt) new.writer old.printer new.printer is.flushed in
      record {
        findings = at.findings;
        texts = at.texts;
        found_is = at.found_is;
        is_settings = ap (λ (e : PrintingEngine S F M R W X). e.searcher.settings) is.others ∙ at.is_settings;
        asks = ap (λ (e : PrintingEngine S F M R W X). e.matcher) is.others ∙ at.asks;
        detects = ap (λ (e : PrintingEngine S F M R W X). e.detection) is.others ∙ at.detects;
        separates = ap (λ (e : PrintingEngine S F M R W X). e.path_separator) is.others ∙ at.separates;
        links = ap (λ (e : PrintingEngine S F M R W X). e.hyperlinks) is.others ∙ at.links;
        asks_system = ap (λ (e : PrintingEngine S F M R W X). e.system.now) is.others ∙ at.asks_system;
        reads = ap (λ (e : PrintingEngine S F M R W X). e.haystack) is.others ∙ at.reads;
        after = flush-keeps write_step old.writer new.writer first old.printer new.printer at.findings at.after
            is.flushed;
        held = at.held ++ pending_of old.printer;
        holds = all-flushed contents write_step grows old.writer new.writer at.held (pending_of old.printer) at.holds
            flush.flushed;
        whole = at.whole ∙ (sym (append-nil (at.held ++ pending_of old.printer))
            ∙ ap (λ waiting. (at.held ++ pending_of old.printer) ++ waiting) (sym flush.emptied));
      }

  pub quits-kept : (quits next : Bool) (inputs : List Input) (found : Bool) (reader : R)
      (old new : PrintingEngine S F M R W X)
      → IsAt quits inputs found reader old → Step old (sets_quits next) new → IsAt next inputs found reader new
  quits-kept quits next inputs found reader old new at is = record {
    findings = at.findings;
    texts = at.texts;
    found_is = at.found_is;
    is_settings = ap (λ (e : PrintingEngine S F M R W X). e.searcher.settings) is
        ∙ (ap (λ (s : Settings). record s { binary_detection = detection_with next old.detection }) at.is_settings
        ∙ ap (λ (d : BinaryDetection). record settings { binary_detection = detection_with next d }) at.detects);
    asks = ap (λ (e : PrintingEngine S F M R W X). e.matcher) is ∙ at.asks;
    detects = ap (λ (e : PrintingEngine S F M R W X). e.detection) is ∙ at.detects;
    separates = ap (λ (e : PrintingEngine S F M R W X). e.path_separator) is ∙ at.separates;
    links = ap (λ (e : PrintingEngine S F M R W X). e.hyperlinks) is ∙ at.links;
    asks_system = ap (λ (e : PrintingEngine S F M R W X). e.system.now) is ∙ at.asks_system;
    reads = ap (λ (e : PrintingEngine S F M R W X). e.haystack) is ∙ at.reads;
    after = subst (λ p. IsPrinterAfter first p at.findings)
        (sym (ap (λ (e : PrintingEngine S F M R W X). e.printer) is)) at.after;
    held = at.held;
    holds = ap (λ (e : PrintingEngine S F M R W X). contents e.writer) is ∙ at.holds;
    whole = at.whole ∙ ap (λ p. at.held ++ pending_of p)
        (sym (ap (λ (e : PrintingEngine S F M R W X). e.printer) is));
  }

  -- at the end all is written
  pub finishes-kept : (inputs : List Input) (found : Bool) (reader : R) (old new : PrintingEngine S F M R W X)
      → IsAt false inputs found reader old → Step old (finishes (Ok tt)) new → IsDone inputs found reader new
  finishes-kept inputs found reader old new at is =
      let (totals, are, holds) = all-finished write_step contents grows first old.printer old.writer new.writer
      new.printer
      at.findings at.held at.holds at.after (finished-well is.ended is.finished is.is_result) in
      record {
        findings = at.findings;
        texts = at.texts;
        found_is = at.found_is;
        totals = totals;
        are_totals = are;
        holds = holds ∙ ap Some (sym (append_assoc at.held (pending_of old.printer) totals)
            ∙ (ap (λ all. all ++ totals) (sym at.whole) ∙ append_assoc before at.findings.text totals));
        reads = ap (λ (e : PrintingEngine S F M R W X). e.haystack.reader) is.others
            ∙ ap (λ (h : Haystack F R). h.reader) at.reads;
      }
    where
      finished-well : (ended : Result (Unit {0}) (SearchError Global))
          → IsFinished write_step old.writer old.printer ended new.writer new.printer
          → IsWrittenResult ended (Ok tt) → IsFinished write_step old.writer old.printer (Ok tt) new.writer new.printer
      finished-well (Ok u) finished same = finished
      finished-well (Err e) finished (error, same, written) = absurd (not-both (Ok tt) tt error refl same)

  -- a call failed with an error of the writer, which was its last call
  abbrev pub IsCut : Error → PrintingEngine S F M R W X → Type 0
  IsCut error engine = HasFailedWith write_step error engine.writer

  searched-sound : (old new : PrintingEngine S F M R W X) (file : Option F) (shown : Option PrinterPath)
      (searched : Searched)
      → IsSearched output facts first_at groups_at write_step file_remaining remaining read_step file old shown
      searched new → IsSound old
      → IsSearchedSoundly Step (λ engine. has_failed engine.printer) IsSound IsCut searched new
  searched-sound old new file shown searched search sound = record {
    sound = λ unfailed. record {
      asks = ap (λ (e : PrintingEngine S F M R W X). e.matcher) search.others ∙ sound.asks;
      unfailed = unfailed;
    };
    cut = λ failed. elim (printer-after output facts first_at groups_at write_step contents grows
        (remaining_of file_remaining remaining) (IsPulled file_remaining remaining read_step) old.searcher old.matcher
        (lawful old new sound.asks) shown (record { file = file; reader = old.haystack.reader }) old.writer searched
        search.left new.writer old.printer new.printer search.written sound.unfailed) [
          | inl unfailed ↦ absurd (true≢false (sym failed ∙ unfailed))
          | inr cut ↦ cut
        ];
  }

  unsearched-sound : (old new : PrintingEngine S F M R W X) (searched : Searched) → new ≡ old → IsSound old
      → IsSearchedSoundly Step (λ engine. has_failed engine.printer) IsSound IsCut searched new
  unsearched-sound old new searched same sound = record {
    sound = λ unfailed. subst IsSound (sym same) sound;
    cut = λ failed. absurd (true≢false (sym failed
        ∙ (ap (λ (e : PrintingEngine S F M R W X). has_failed e.printer) same ∙ sound.unfailed)));
  }

  -- what is sound stays so, unless the writer fails
  pub calls-keep : CallsKeep Step (λ engine. has_failed engine.printer) IsSound IsCut
  calls-keep = record {
    file = λ old new path file searched step sound. file-sound old new path file searched step sound;
    input = λ old new path searched step sound. input-sound old new path searched step sound;
    list = λ old new path searched (none, same) sound. unsearched-sound old new searched same sound;
    text = λ old new said step sound. text-sound old new said step sound;
    quits = λ old new quits is sound. record {
      asks = ap (λ (e : PrintingEngine S F M R W X). e.matcher) is ∙ sound.asks;
      unfailed = ap (λ (e : PrintingEngine S F M R W X). has_failed e.printer) is ∙ sound.unfailed;
    };
    quits-cut = λ old new quits error is cut.
        subst (HasFailedWith write_step error) (sym (ap (λ (e : PrintingEngine S F M R W X). e.writer) is)) cut;
  }
    where
      file-sound : (old new : PrintingEngine S F M R W X) (path : Option (Bor (List ℕ))) (file : F) (searched : Searched)
          → Step old (searches_file path file searched) new → IsSound old
          → IsSearchedSoundly Step (λ engine. has_failed engine.printer) IsSound IsCut searched new
      file-sound old new path file searched (inl (shown, shows, search)) sound =
          searched-sound old new (Some file) shown searched search sound
      file-sound old new path file searched (inr (has, unsearched, same)) sound =
          unsearched-sound old new searched same sound

      input-sound : (old new : PrintingEngine S F M R W X) (path : Option (Bor (List ℕ))) (searched : Searched)
          → Step old (searches_input path searched) new → IsSound old
          → IsSearchedSoundly Step (λ engine. has_failed engine.printer) IsSound IsCut searched new
      input-sound old new path searched (inl (shown, shows, search)) sound =
          searched-sound old new None shown searched search sound
      input-sound old new path searched (inr (has, unsearched, same)) sound =
          unsearched-sound old new searched same sound

      text-sound : (old new : PrintingEngine S F M R W X) (said : Result (Unit {0}) Error) → Step old (says said) new
          → IsSound old → MatchResult said (λ _. IsSound new) (λ error. IsCut error new)
      text-sound old new (Ok u) is sound = record {
        asks = ap (λ (e : PrintingEngine S F M R W X). e.matcher) is.others ∙ sound.asks;
        unfailed = (printer-flushed write_step old.writer (Ok u) new.writer old.printer new.printer is.flushed).failed
            ∙ sound.unfailed;
      }
      text-sound old new (Err error) is sound = flush-failed write_step old.writer new.writer
          (pending_of old.printer) error
          (printer-flushed write_step old.writer (Err error) new.writer old.printer new.printer is.flushed).flushed

  -- an engine is sound at the end if its writer hasn't failed
  pub finishes-sound : (old new : PrintingEngine S F M R W X) (result : Result (Unit {0}) Error) → IsSound old
      → Step old (finishes result) new → has_failed new.printer ≡ false → IsSound new
  finishes-sound old new result sound is unfailed = record {
    asks = ap (λ (e : PrintingEngine S F M R W X). e.matcher) is.others ∙ sound.asks;
    unfailed = unfailed;
  }

  -- if the end fails, that is with the writer's error, or the writer hasn't failed
  pub finishes-after : (old new : PrintingEngine S F M R W X) (error : Error) → IsSound old
      → Step old (finishes (Err error)) new → (has_failed new.printer ≡ false) ⊎ IsCut error new
  finishes-after old new error sound is =
      by is.ended is.is_result (finished-after write_step old.printer old.writer is.ended new.writer new.printer
      is.finished sound.unfailed)
    where
      by : (ended : Result (Unit {0}) (SearchError Global)) → IsWrittenResult ended (Err error)
          → IsAfter write_step ended (has_failed new.printer) new.writer
          → (has_failed new.printer ≡ false) ⊎ IsCut error new
      by (Ok u) written (inl unfailed) = inl unfailed
      by (Err e) written (inl unfailed) = inl unfailed
      by (Ok u) written (inr (cause, is, failed)) = absurd (not-both (Ok u) u (Io cause) refl is)
      by (Err e) (own, same, written) (inr (cause, is, failed)) =
          let caused = subst (λ x. IsWrittenError x own) (one-error e (Io cause) is) written in
          inr (subst (λ x. HasFailedWith write_step x new.writer) (sym (one-io-error error own same ∙ caused)) failed)
