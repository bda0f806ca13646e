-- What a run has written that lists files, if nothing failed.
use Rattle.std.proofs.Common.{◌≡◌, ◌∙◌, ◌⊎◌, ℕ, Bool, true, false, List, [], ◌∷◌, ◌++◌, ap, ap₂, append_assoc, inl, inr}
use Rattle.std.proofs.Common.{map, refl, subst, subst₂, sym, true≢false, zero-lt-suc}
use Rattle.std.proofs.lemmas.Bool.{lt-ltb}
use Rattle.std.specs.Prelude.{◌&&◌, ◌||◌, MatchBool, MatchResult, None, Option, Some, Result, Ok, Err, codes}
use Rattle.std.specs.Prelude.{if◌then◌else◌, is_ok, length, nat_lt, not, string_bytes}
use Rattle.std.specs.Borrow.{Bor}
use Rattle.std.specs.Global.{Global}
use Rattle.std.specs.Io.KnownBytes.{Appends}
use Rattle.std.specs.declared.io.Error.{Error}
use Rattle.std.proofs.lemmas.List.{append-nil, map-append}
use Rattle.grep_output.specs.Outputs.{OutputCall, taken_by}
use Rattle.grep_output.specs.PendingTexts.{pending_bytes}
use Rattle.grep_printer.specs.JsonEnds.{FailsToPutText, PutsText}
use Rattle.grep_printer.specs.PathTexts.{path_text}
use Rattle.grep_printer.specs.declared.hyperlinks.HyperlinkConfig.{HyperlinkConfig}
use Rattle.grep_printer.specs.declared.path.PathFormat.{PathFormat}
use Rattle.grep_printer.specs.declared.printed_search.Searched.{Searched}
use Rattle.grep_searcher.specs.declared.SearchError.{SearchError}
use Rattle.linegrep_cli.proofs.FoundLemmas.{ListsKeep, all-found, said-found}
use Rattle.linegrep_cli.proofs.LateLemmas.{late-visited}
use Rattle.linegrep_cli.proofs.OutputTextLemmas.{all-flushed, flush-failed, text-put, write-failed}
use Rattle.linegrep_cli.proofs.SearchTextLemmas.{not-both}
use Rattle.linegrep_cli.proofs.VisitSoundLemmas.{CallsKeep, IsSearchedSoundly}
use Rattle.linegrep_cli.proofs.VisitTextLemmas.{IsGood, both-good, search-ended, unless}
use Rattle.linegrep_cli.specs.EngineCalls.{EngineCall, finishes, lists, says}
use Rattle.linegrep_cli.specs.FoundFiles.{AreAllFound, AreFoundSorted}
use Rattle.linegrep_cli.specs.HyperlinkOptions.{IsPathShown}
use Rattle.linegrep_cli.specs.ListedFiles.{AreListed, ArePathTexts, IsPath, listed_path, next_path, path_at}
use Rattle.linegrep_cli.specs.Listings.{IsListed as IsPathListed, IsListerStep}
use Rattle.linegrep_cli.specs.OperandRuns.{AreAllVisited, AreVisitedInOrder, AreVisitedLate, AreWaitingVisited}
use Rattle.linegrep_cli.specs.OperandRuns.{IsInputVisited, IsListed, IsWaitingVisited, ends_with_match, has_found}
use Rattle.linegrep_cli.specs.OperandRuns.{next_waiting, none_waiting, of_searched, of_standard_input, of_unsearched}
use Rattle.linegrep_cli.specs.OperandRuns.{seeks_unmatched}
use Rattle.linegrep_cli.specs.WrittenRuns.{HasFailedWith}
use Rattle.linegrep_cli.specs.declared.late.Waiting.{Waiting}
use Rattle.linegrep_cli.specs.declared.listing.Lister.{Lister}
use Rattle.linegrep_cli.specs.declared.scope.Scope.{Scope}
use Rattle.linegrep_cli.specs.declared.visit.Visit.{Visit}
use Rattle.linegrep_files.specs.FolderFacts.{FolderFacts}
use Rattle.linegrep_files.specs.Orders.{is_late}
use Rattle.linegrep_files.specs.declared.choices.Choices.{Choices}
use Rattle.linegrep_files.specs.declared.file_id.FileId.{FileId}

one-more : {T : Type 0} (found : List T) (one : T) → nat_lt 0 (length (found ++ one ∷ [])) ≡ true
one-more [] one = refl
one-more (first ∷ later) one = lt-ltb 0 (length ((first ∷ later) ++ one ∷ []))
    (zero-lt-suc (length (later ++ one ∷ [])))

or-true : (match : Bool) → (match || true) ≡ true
or-true true = refl
or-true false = refl

-- a run that writes what it finds found something if the search has a match
found-is : (scope : Scope) → seeks_unmatched scope.quiet ≡ false → (searched : Searched)
    → has_found scope searched ≡ searched.has_match
found-is scope sought searched = ap (λ seeks. if seeks then is_ok searched.result && not searched.has_match
    else searched.has_match) sought

-- the first of two cases
only : (is : Bool) (P Q : Type 0) → is ≡ true → MatchBool is P Q → P
only true P Q is_true holds = holds
only false P Q is_true holds = absurd (true≢false (sym is_true))

-- the end of a run
abbrev end-of : (F : Type 0) → EngineCall F
end-of F = finishes (Ok tt)

module _ {S W X : Type 0} (contents : W → Option (List ℕ)) (write_step : W → OutputCall → W → Type 0)
    (grows : (old new : W) (call : OutputCall) → write_step old call new
    → Appends (contents old) (contents new) (taken_by call)) (facts_of : S → FolderFacts) (system : S)
    (separator : Option ℕ) (hyperlinks : Option (Bor HyperlinkConfig)) (format : PathFormat) (silent : Bool)
    (before : List ℕ) where
  abbrev failed : Lister S W X → Bool
  failed lister = lister.printer.has_failed

  -- A lister that has listed some paths. What its output holds and what waits to be written are what the output held
  -- in the beginning and the text of these.
  pub record Has (quits : Bool) (paths : List (List ℕ)) (match : Bool) (lister : Lister S W X) : Type 0 where
    pub text : List ℕ
    pub texts : ArePathTexts (facts_of system) separator hyperlinks format paths text
    pub matched : match ≡ nat_lt 0 (length paths)
    pub quiet : lister.is_quiet ≡ silent
    pub formats : lister.printer.format ≡ format
    pub separates : lister.path_separator ≡ separator
    pub links : lister.hyperlinks ≡ hyperlinks
    pub asks_system : lister.system.now ≡ system
    pub held : List ℕ
    pub holds : contents lister.writer ≡ Some held
    pub whole : before ++ text ≡ held ++ pending_bytes lister.printer.pending

  module _ (F : Type 0) (scope : Scope) (sought : seeks_unmatched scope.quiet ≡ false)
      (ends : silent ≡ true → ends_with_match scope.quiet ≡ true) where
    abbrev Step : Lister S W X → EngineCall F → Lister S W X → Type 0
    Step = IsListerStep write_step facts_of

    -- each path counts as a match
    path-matched : (path : Bor (List ℕ)) (old new : Lister S W X) (searched : Searched)
        → IsPathListed write_step facts_of old path searched new → searched.result ≡ Ok tt
        → searched.has_match ≡ true
    path-matched path old new searched (inr (has, (none, (error, memory, is)), same)) ok =
        absurd (not-both searched.result tt _ ok is)
    path-matched path old new searched (inl (shown, shows, is)) ok = is.has_match ∙ ap is_ok ok

    -- a path is written
    path-put : (path : Bor (List ℕ)) (quits : Bool) (paths : List (List ℕ)) (match : Bool) (old new : Lister S W X)
        (searched : Searched) → silent ≡ false → IsPathListed write_step facts_of old path searched new
        → searched.result ≡ Ok tt → Has quits paths match old → Has quits (paths ++ path.now ∷ []) true new
    path-put path quits paths match old new searched loud (inr (has, (none, (error, memory, is)), same)) ok has_them =
        absurd (not-both searched.result tt _ ok is)
    path-put path quits paths match old new searched loud (inl (shown, shows, is)) ok has =
        let put : PutsText write_step old.writer old.printer (path_text old.printer.format shown) new.writer new.printer
        = subst (λ result. MatchResult result
        (λ _. PutsText write_step old.writer old.printer (path_text old.printer.format shown) new.writer new.printer)
        (λ e. FailsToPutText write_step old.writer old.printer (path_text old.printer.format shown) e new.writer
        new.printer)) ok (unless old.is_quiet _ _ (has.quiet ∙ loud) is.written) in
        let (now, holds, same) = text-put contents write_step grows old.writer new.writer has.held
        (pending_bytes old.printer.pending) (path_text old.printer.format shown) (pending_bytes new.printer.pending)
        has.holds put.put in
        record {
          text = has.text ++ path_text format shown;
          texts = next_path path shown has.texts
              (subst (λ l. IsPathShown (facts_of system) separator l (Some path) (Some shown)) has.links
              (subst₂ (λ s (x : S). IsPathShown (facts_of x) s old.hyperlinks (Some path) (Some shown)) has.separates
              has.asks_system shows));
          matched = sym (one-more paths path.now);
          quiet = ap (λ (l : Lister S W X). l.is_quiet) is.others ∙ has.quiet;
          formats = put.format ∙ has.formats;
          separates = ap (λ (l : Lister S W X). l.path_separator) is.others ∙ has.separates;
          links = ap (λ (l : Lister S W X). l.hyperlinks) is.others ∙ has.links;
          asks_system = ap (λ (l : Lister S W X). l.system.now) is.others ∙ has.asks_system;
          held = now;
          holds = holds;
          whole = sym (append_assoc before has.text (path_text format shown))
              ∙ (ap (λ all. all ++ path_text format shown) has.whole
              ∙ (append_assoc has.held (pending_bytes old.printer.pending) (path_text format shown)
              ∙ (ap (λ (f : PathFormat). has.held ++ (pending_bytes old.printer.pending ++ path_text f shown))
              (sym has.formats) ∙ same)));
        }

    -- a file is listed
    listed : (path : Bor (List ℕ)) (quits : Bool) (paths : List (List ℕ)) (match : Bool) (old : Lister S W X)
        (visit : Visit) (new : Lister S W X) → IsListed Step failed scope path old visit new → IsGood scope visit
        → Has quits paths match old → Has quits (paths ++ path.now ∷ []) (match || visit.has_match) new
    listed path quits paths match old visit new (searched, mid, listing, after) good has = by silent refl
      where
        well : (searched.result ≡ Ok tt) × (new ≡ mid)
        well = search-ended Step failed scope mid new searched.result visit after.ended good

        matched : visit.has_match ≡ true
        matched = after.matched ∙ found-is scope sought searched
            ∙ path-matched path old mid searched listing well.0

        by : (is : Bool) → silent ≡ is → Has quits (paths ++ path.now ∷ []) (match || visit.has_match) new
        by true silently = absurd (true≢false (sym (ap₂ (λ ends match. ends && match) (ends silently) matched)
            ∙ good.goes_on))
        by false loud = subst (λ m. Has quits (paths ++ path.now ∷ []) m new)
            (sym (ap (λ m. match || m) matched ∙ or-true match))
            (subst (Has quits (paths ++ path.now ∷ []) true) (sym well.1)
            (path-put path quits paths match old mid searched loud listing well.0 has))

    module _ (reads : scope.lists_input ≡ true) where
      input-listed : (paths : List (List ℕ)) (match : Bool) (old : Lister S W X) (visit : Visit) (new : Lister S W X)
          → IsInputVisited Step failed scope old visit new → IsGood scope visit → Has false paths match old
          → Has false (paths ++ codes "<stdin>" ∷ []) (match || visit.has_match) new
      input-listed paths match old visit new visited good has =
          let (name, is_name, is) = only scope.lists_input _ _ reads visited in
          subst (λ path. Has false (paths ++ path ∷ []) (match || visit.has_match) new) is_name
          (listed name false paths match old visit new is good has)

      text-kept : (quits : Bool) (paths : List (List ℕ)) (match : Bool) (old new : Lister S W X)
          → Step old (says (Ok tt)) new → Has quits paths match old → Has quits paths match new
      text-kept quits paths match old new is has = record {
        text = has.text;
        texts = has.texts;
        matched = has.matched;
        quiet = ap (λ (l : Lister S W X). l.is_quiet) is.others ∙ has.quiet;
        formats = is.flushed.format ∙ has.formats;
        separates = ap (λ (l : Lister S W X). l.path_separator) is.others ∙ has.separates;
        links = ap (λ (l : Lister S W X). l.hyperlinks) is.others ∙ has.links;
        asks_system = ap (λ (l : Lister S W X). l.system.now) is.others ∙ has.asks_system;
        held = has.held ++ pending_bytes old.printer.pending;
        holds = all-flushed contents write_step grows old.writer new.writer has.held (pending_bytes old.printer.pending)
            has.holds is.flushed.flushed;
        whole = has.whole ∙ (sym (append-nil (has.held ++ pending_bytes old.printer.pending))
            ∙ ap (λ waiting. (has.held ++ pending_bytes old.printer.pending) ++ waiting) (sym is.flushed.emptied));
      }

      pub keep : ListsKeep IsPath Step failed scope Has
      keep = record {
        file = λ path quits paths match old visit new is good has.
            (path.now, refl, listed path quits paths match old visit new is good has);
        input = λ paths match old visit new is good has.
            (codes "<stdin>", refl, input-listed paths match old visit new is good has);
        text = text-kept;
        quits = λ quits next paths match old new same has. again quits next paths match old new same has;
      }
        where
          again : (quits next : Bool) (paths : List (List ℕ)) (match : Bool) (old new : Lister S W X) → new ≡ old
              → Has quits paths match old → Has next paths match new
          again quits next paths match old new same has = subst (Has next paths match) (sym same) (record {
            text = has.text;
            texts = has.texts;
            matched = has.matched;
            quiet = has.quiet;
            formats = has.formats;
            separates = has.separates;
            links = has.links;
            asks_system = has.asks_system;
            held = has.held;
            holds = has.holds;
            whole = has.whole;
          })

      module _ (opens : List ℕ → Result F Error → Type 0) (identifies : F → Option FileId → Type 0)
          (all : scope.lists_files ≡ true) where
        -- what waited was listed
        waiting-listed : (paths : List (List ℕ)) (match : Bool) (waiting : Waiting) (old : Lister S W X) (visit : Visit)
            (new : Lister S W X) → IsWaitingVisited opens identifies Step failed scope waiting old visit new
            → IsGood scope visit → Has false paths match old
            → Has false (paths ++ listed_path waiting ∷ []) (match || visit.has_match) new
        waiting-listed paths match waiting old visit new (of_standard_input target visited) good has =
            subst (λ path. Has false (paths ++ path ∷ []) (match || visit.has_match) new)
            (sym (ap (λ t. path_at t (string_bytes waiting.file.path)) target)) (input-listed paths match old visit new visited good has)
        waiting-listed paths match waiting old visit new (of_searched quits path target is searching begins visited ends)
            good has = absurd (true≢false (sym all ∙ searching))
        waiting-listed paths match waiting old visit new (of_unsearched quits path target is listing visited) good has =
            subst (λ path. Has false (paths ++ path ∷ []) (match || visit.has_match) new)
            (is ∙ sym (ap (λ t. path_at t (string_bytes waiting.file.path)) target)) (listed path false paths match old visit new visited good has)

        all-waiting-listed : (old : Lister S W X) (done : List Waiting) (total : Visit) (new : Lister S W X)
            → AreWaitingVisited opens identifies Step failed scope old done total new → IsGood scope total
            → Has false [] false old → Has false (map listed_path done) total.has_match new
        all-waiting-listed old _ _ _ none_waiting good has = has
        all-waiting-listed old _ _ new (next_waiting done total next {mid} waiting before on visited) good has =
            let (good_before, good_next) = both-good scope total next on good in
            subst (λ paths. Has false paths (total.has_match || next.has_match) new)
            (sym (map-append listed_path done (waiting ∷ [])))
            (waiting-listed (map listed_path done) total.has_match waiting mid next new visited good_next
            (all-waiting-listed old done total mid before good_before has))

        -- all that is visited, in the order that is asked for: what a run lists, if nothing failed
        pub ordered-listed : (folders : FolderFacts) (finds : List ℕ → Result Bool Error → Type 0) (choices : Choices)
            (paths : List (Bor (List ℕ))) (old : Lister S W X) (total : Visit) (new : Lister S W X)
            → AreVisitedInOrder folders finds opens identifies Step failed scope choices paths old total new
            → IsGood scope total → Has false [] false old
            → (found : List (List ℕ)) × AreListed folders finds scope choices paths found
            × Has false found total.has_match new
        ordered-listed folders finds choices paths old total new visited good has = by (is_late scope.order) visited
          where
            by : (late : Bool)
                → MatchBool late (AreVisitedLate folders finds opens identifies Step failed scope choices paths old total
                new) (AreAllVisited folders finds opens identifies Step failed scope choices paths old total new)
                → (found : List (List ℕ))
                × MatchBool late ((sorted : List Waiting) × AreFoundSorted folders finds scope choices paths sorted
                × (found ≡ map listed_path sorted))
                (AreAllFound IsPath folders finds scope.route (not scope.searches_binary) scope.searches_input choices
                paths found)
                × Has false found total.has_match new
            by true visited =
                let is = late-visited folders finds opens identifies Step failed scope (Has false [] false)
                (λ sorted match searched new. Has false (map listed_path sorted) match new)
                (λ count old new said has. said-found IsPath Step failed scope Has keep false [] false old count None new
                said refl has) all-waiting-listed choices paths old total new visited good has in
                (map listed_path is.sorted, (is.sorted, is.are_sorted, refl), is.gives)
            by false visited = all-found IsPath folders finds opens identifies Step failed scope Has keep all
                choices paths old total new visited good has

  -- a lister whose writer hasn't failed
  abbrev pub IsSound : Lister S W X → Type 0
  IsSound lister = lister.printer.has_failed ≡ false

  -- a call failed with an error of the writer, which was its last call
  abbrev pub IsCut : Error → Lister S W X → Type 0
  IsCut error lister = HasFailedWith write_step error lister.writer

  module _ (F : Type 0) where
    abbrev Steps : Lister S W X → EngineCall F → Lister S W X → Type 0
    Steps = IsListerStep write_step facts_of

    abbrev Soundly : Searched → Lister S W X → Type 0
    Soundly = IsSearchedSoundly Steps failed IsSound IsCut

    same-sound : (old new : Lister S W X) (searched : Searched) → new ≡ old → IsSound old → Soundly searched new
    same-sound old new searched same sound = record {
      sound = λ unfailed. unfailed;
      cut = λ is. absurd (true≢false (sym is ∙ (ap failed same ∙ sound)));
    }

    put-sound : (old new : Lister S W X) (text : List ℕ) (searched : Searched)
        (result : Result (Unit {0}) (SearchError Global)) → searched.result ≡ result
        → MatchResult result (λ _. PutsText write_step old.writer old.printer text new.writer new.printer)
        (λ e. FailsToPutText write_step old.writer old.printer text e new.writer new.printer)
        → IsSound old → Soundly searched new
    put-sound old new text searched (Ok u) ended put sound = record {
      sound = λ unfailed. unfailed;
      cut = λ is. absurd (true≢false (sym is ∙ (put.has_failed ∙ sound)));
    }
    put-sound old new text searched (Err e) ended fails sound = elim fails.cause [
      | inl failing ↦ record {
        sound = λ unfailed. unfailed;
        cut = λ is. (
          failing.error,
          ended ∙ ap Err failing.is_io,
          write-failed write_step old.writer new.writer _ failing.error failing.failed,
        );
      }
      | inr lacks ↦ record {
        sound = λ unfailed. unfailed;
        cut = λ is. absurd (true≢false (sym is ∙ (lacks.has_failed ∙ sound)));
      }
    ]

    listed-sound : (old new : Lister S W X) (path : Bor (List ℕ)) (searched : Searched)
        → Steps old (lists path searched) new → IsSound old → Soundly searched new
    listed-sound old new path searched (inr (has, unsearched, same)) sound = same-sound old new searched same sound
    listed-sound old new path searched (inl (shown, shows, is)) sound = by old.is_quiet is.written
      where
        by : (quiet : Bool) → MatchBool quiet
            ((searched.result ≡ Ok tt) × (new.printer ≡ old.printer) × (new.writer ≡ old.writer))
            (MatchResult searched.result
            (λ _. PutsText write_step old.writer old.printer (path_text old.printer.format shown) new.writer new.printer)
            (λ e. FailsToPutText write_step old.writer old.printer (path_text old.printer.format shown) e new.writer
            new.printer)) → Soundly searched new
        by true (ok, printer, writer) = record {
          sound = λ unfailed. unfailed;
          cut = λ is. absurd (true≢false (sym is ∙ (ap (λ p. p.has_failed) printer ∙ sound)));
        }
        by false put = put-sound old new (path_text old.printer.format shown) searched searched.result refl put sound

    flush-sound : (old new : Lister S W X) (said : Result (Unit {0}) Error) → Steps old (says said) new → IsSound old
        → MatchResult said (λ _. IsSound new) (λ error. IsCut error new)
    flush-sound old new (Ok u) is sound = is.flushed.has_failed ∙ sound
    flush-sound old new (Err error) is sound = flush-failed write_step old.writer new.writer
        (pending_bytes old.printer.pending) error is.flushed.flushed

    -- what is sound stays so, unless the writer fails
    pub calls-keep : CallsKeep Steps failed IsSound IsCut
    calls-keep = record {
      file = λ old new path file searched (none, same) sound. same-sound old new searched same sound;
      input = λ old new path searched (none, same) sound. same-sound old new searched same sound;
      list = listed-sound;
      text = flush-sound;
      quits = λ old new quits same sound. ap failed same ∙ sound;
      quits-cut = λ old new quits error same cut.
          subst (HasFailedWith write_step error) (sym (ap (λ (l : Lister S W X). l.writer) same)) cut;
    }

    pub finishing : (old new : Lister S W X) (error : Error) → IsSound old → Steps old (finishes (Err error)) new
        → IsSound new ⊎ IsCut error new
    finishing old new error sound is = inr (flush-failed write_step old.writer new.writer
        (pending_bytes old.printer.pending) error is.flushed.flushed)

  -- at the end all is written
  pub finishes-listed : (F : Type 0) (paths : List (List ℕ)) (match : Bool) (old new : Lister S W X)
      → Has false paths match old → IsListerStep write_step facts_of old (end-of F) new
      → (text : List ℕ) × ArePathTexts (facts_of system) separator hyperlinks format paths text
      × (match ≡ nat_lt 0 (length paths)) × (contents new.writer ≡ Some (before ++ text))
  finishes-listed F paths match old new has is = (
    has.text,
    has.texts,
    has.matched,
    all-flushed contents write_step grows old.writer new.writer has.held (pending_bytes old.printer.pending) has.holds
        is.flushed.flushed ∙ ap Some (sym has.whole),
  )
