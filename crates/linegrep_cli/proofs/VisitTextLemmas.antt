-- What a run has searched after what it visited, if nothing failed.
use Rattle.std.proofs.Common.{◌<◌, length, zero-lt-suc}
use Rattle.std.proofs.Common.{◌≡◌, ◌∙◌, ℕ, Bool, true, false, List, [], ◌∷◌, ◌++◌, ap, append_assoc, refl, subst}
use Rattle.std.proofs.Common.{sym}
use Rattle.std.proofs.Common.{◌⊎◌, inl, inr, true≢false}
use Rattle.std.specs.Prelude.{◌||◌, ◌&&◌, MatchBool, None, Option, Some, Result, Ok, Err, if◌then◌else◌, is_ok}
use Rattle.std.specs.Prelude.{is_none, is_some, not}
use Rattle.std.specs.Borrow.{Bor}
use Rattle.std.specs.Global.{Global}
use Rattle.std.specs.declared.io.Error.{Error}
use Rattle.std.proofs.lemmas.List.{append-nil}
use Rattle.grep_printer.specs.declared.printed_search.Searched.{Searched}
use Rattle.grep_searcher.specs.declared.SearchError.{SearchError}
use Rattle.linegrep_cli.specs.EngineCalls.{EngineCall, says, searches_file, searches_input, sets_quits}
use Rattle.linegrep_cli.specs.OperandRuns.{AreAllVisited, AreEntriesVisited, AreVisited, AreWritten}
use Rattle.linegrep_cli.specs.OperandRuns.{IsEnded, IsEntryVisited, IsFileVisited, IsFolderVisited, IsHereVisited}
use Rattle.linegrep_cli.specs.OperandRuns.{IsInputVisited, IsNamedVisited, IsOperandVisited}
use Rattle.linegrep_cli.specs.OperandRuns.{IsPathVisited}
use Rattle.linegrep_cli.specs.OperandRuns.{IsReported, IsWalkedTo, ends_with_match}
use Rattle.linegrep_cli.specs.OperandRuns.{has_found, is_escaped, is_input, is_over, no_entry, no_text}
use Rattle.linegrep_cli.specs.OperandRuns.{next_entry}
use Rattle.linegrep_cli.specs.OperandRuns.{next_operand as NextVisited, last_text, next_text, no_operand as NoVisited}
use Rattle.linegrep_cli.specs.OperandRuns.{of_file as OfFile}
use Rattle.linegrep_cli.specs.OperandRuns.{of_file_at, of_folder as OfFolder, of_listed, of_listing, of_missing}
use Rattle.linegrep_cli.specs.OperandRuns.{of_output}
use Rattle.linegrep_cli.specs.OperandRuns.{AreWaitingVisited, IsWaitingVisited, next_waiting, none_waiting}
use Rattle.linegrep_cli.specs.OperandRuns.{of_searched, of_standard_input, of_unsearched}
use Rattle.linegrep_cli.specs.OperandRuns.{of_path, of_unfound, of_unopened, of_unread, of_entered, path_of}
use Rattle.linegrep_cli.specs.OperandRuns.{seeks_unmatched, visited_then}
use Rattle.linegrep_cli.specs.RunInputs.{AreFiles, AreOfFolder, AreOfOperand, AreOfOperands, AreOfWaiting}
use Rattle.linegrep_cli.specs.RunInputs.{AreSearchedInTurn, file_waits, input_waits, none_waits}
use Rattle.linegrep_cli.specs.RunInputs.{IsAtPath}
use Rattle.linegrep_cli.specs.RunInputs.{IsStandardInput, next_file, next_folder, next_operand, no_entry as NoEntry}
use Rattle.linegrep_cli.specs.RunInputs.{no_operand}
use Rattle.linegrep_cli.specs.RunInputs.{of_file, of_folder, of_here, of_input, of_standard_input as OfStandardInput}
use Rattle.linegrep_cli.specs.SearchTexts.{Input}
use Rattle.linegrep_cli.specs.declared.late.Waiting.{Waiting}
use Rattle.linegrep_cli.specs.declared.scope.Scope.{Scope}
use Rattle.linegrep_cli.specs.declared.visit.Visit.{Visit}
use Rattle.linegrep_files.specs.FolderFacts.{FolderFacts}
use Rattle.linegrep_files.specs.Trees.{AreAllOf}
use Rattle.linegrep_files.specs.declared.choices.Choices.{Choices}
use Rattle.linegrep_files.specs.declared.entry.Entry.{Entry}
use Rattle.linegrep_files.specs.declared.file_id.FileId.{FileId}

-- nothing went wrong in what was visited, and no match ended the run
pub record IsGood (scope : Scope) (visit : Visit) : Type 0 where
  pub no_error : visit.has_error ≡ false
  pub no_failure : visit.failure ≡ None
  pub goes_on : (ends_with_match scope.quiet && visit.has_match) ≡ false

pub or-none : (found : Bool) → (found || false) ≡ found
or-none true = refl
or-none false = refl

pub or-assoc : (a b c : Bool) → ((a || b) || c) ≡ (a || (b || c))
or-assoc true b c = refl
or-assoc false b c = refl

pub first-false : (a b : Bool) → (a || b) ≡ false → a ≡ false
first-false true b is = is
first-false false b is = refl

pub second-false : (a b : Bool) → (a || b) ≡ false → b ≡ false
second-false true b is = absurd (true≢false is)
second-false false b is = is

pub none-of : {T : Type 0} (found : Option T) → is_some found ≡ false → found ≡ None
none-of None is = refl
none-of (Some value) is = absurd (true≢false is)

pub some-none : {T : Type 0} (found : Option T) (value : T) → found ≡ Some value → found ≡ None → ⊥
some-none found value is none = true≢false (ap is_some (sym is ∙ none))

-- if nothing is said of a folder without a searched file, one was searched
pub has-searched : (failure : Option Error) (searched lists : Bool)
    → (is_none failure && not searched && not lists) ≡ false → failure ≡ None → lists ≡ false → searched ≡ true
has-searched None true lists unsaid none unlisted = refl
has-searched None false true unsaid none unlisted = absurd (true≢false unlisted)
has-searched None false false unsaid none unlisted = absurd (true≢false unsaid)
has-searched (Some error) searched lists unsaid none unlisted = absurd (some-none (Some error) error refl none)

pub some-more : (inputs : List Input) (input : Input) → 0 < length (inputs ++ input ∷ [])
some-more [] input = zero-lt-suc 0
some-more (first ∷ later) input = zero-lt-suc (length (later ++ input ∷ []))

pub unless : (is : Bool) (P Q : Type 0) → is ≡ false → MatchBool is P Q → Q
unless true P Q isnt holds = absurd (true≢false isnt)
unless false P Q isnt holds = holds

pub either : (is : Bool) {P Q R : Type 0} → (is ≡ true → P → R) → (is ≡ false → Q → R) → MatchBool is P Q → R
either true one other holds = one refl holds
either false one other holds = other refl holds

-- if nothing went wrong in what was visited, and in what was visited next, nothing did in each
pub both-good : (scope : Scope) (total next : Visit) → is_over scope total ≡ false
    → IsGood scope (visited_then total next) → IsGood scope total × IsGood scope next
both-good scope total next on good = (
  record {
    no_error = first-false total.has_error next.has_error good.no_error;
    no_failure = none-of total.failure (first-false (is_some total.failure)
        (ends_with_match scope.quiet && total.has_match) on);
    goes_on = second-false (is_some total.failure) (ends_with_match scope.quiet && total.has_match) on;
  },
  record {
    no_error = second-false total.has_error next.has_error good.no_error;
    no_failure = good.no_failure;
    goes_on = later (ends_with_match scope.quiet) total.has_match next.has_match good.goes_on;
  },
)
  where
    later : (ends first next : Bool) → (ends && (first || next)) ≡ false → (ends && next) ≡ false
    later true first next none = second-false first next none
    later false first next none = refl

-- a run isn't over after what was visited well
pub goes-on : (scope : Scope) (visit : Visit) → IsGood scope visit → is_over scope visit ≡ false
goes-on scope visit good =
    ap (λ failure. is_some failure || (ends_with_match scope.quiet && visit.has_match)) good.no_failure
    ∙ good.goes_on

-- a search that ended well left all as it was
pub search-ended : {E F : Type 0} (step : E → EngineCall F → E → Type 0) (has_failed : E → Bool) (scope : Scope)
    (mid new : E) (result : Result (Unit {0}) (SearchError Global)) (visit : Visit)
    → IsEnded step has_failed scope mid result visit new → IsGood scope visit → (result ≡ Ok tt) × (new ≡ mid)
search-ended step has_failed scope mid new (Ok u) visit (unfailed, none, same) good = (refl, same)
search-ended step has_failed scope mid new (Err e) visit failed good = absurd (either (has_failed mid)
    (λ is (unread, same, (error, is_error, written)). some-none visit.failure error is_error good.no_failure)
    (λ is (unread, said). true≢false (sym unread ∙ good.no_error)) failed)

-- something went wrong if something can't be read
pub reported-bad : {E F : Type 0} (step : E → EngineCall F → E → Type 0) (scope : Scope) (old new : E)
    (visit : Visit) → IsReported step scope old visit new → IsGood scope visit → ⊥
reported-bad step scope old new visit (failure, said, is) good =
    true≢false (sym (ap (λ (v : Visit). v.has_error) is) ∙ good.no_error)

module _ {E F R : Type 0} (folders : FolderFacts) (finds : List ℕ → Result Bool Error → Type 0)
    (opens : List ℕ → Result F Error → Type 0) (identifies : F → Option FileId → Type 0)
    (step : E → EngineCall F → E → Type 0) (has_failed : E → Bool) (scope : Scope)
    (IsFile : Option (Bor (List ℕ)) → F → Bool → Input → Type 0)
    (IsReader : Option (Bor (List ℕ)) → R → Input → R → Type 0)
    (At : Bool → List Input → Bool → R → E → Type 0) where
  -- What an engine's calls come to. `At` says of an engine how binary files are searched, what was
  -- searched so far, whether something was found, and which reader is standard input.
  pub record StepsKeep : Type 0 where
    pub file : (quits : Bool) (inputs : List Input) (found : Bool) (reader : R) (old new : E)
        (path : Option (Bor (List ℕ))) (file : F) (searched : Searched) → At quits inputs found reader old
        → step old (searches_file path file searched) new → searched.result ≡ Ok tt
        → (input : Input) × IsFile path file quits input
        × At quits (inputs ++ input ∷ []) (found || searched.has_match) reader new
    pub input : (inputs : List Input) (found : Bool) (reader : R) (old new : E) (path : Option (Bor (List ℕ)))
        (searched : Searched) → At false inputs found reader old
        → step old (searches_input path searched) new → searched.result ≡ Ok tt
        → (input : Input) × (reader' : R) × IsReader path reader input reader'
        × At false (inputs ++ input ∷ []) (found || searched.has_match) reader' new
    pub text : (quits : Bool) (inputs : List Input) (found : Bool) (reader : R) (old new : E)
        → At quits inputs found reader old → step old (says (Ok tt)) new → At quits inputs found reader new
    pub quits : (quits next : Bool) (inputs : List Input) (found : Bool) (reader : R) (old new : E)
        → At quits inputs found reader old → step old (sets_quits next) new → At next inputs found reader new

  module _ (kept : StepsKeep) (sought : seeks_unmatched scope.quiet ≡ false)
      (searches : scope.lists_files ≡ false) (reads : scope.lists_input ≡ false) where
    abbrev ended : (mid new : E) (result : Result (Unit {0}) (SearchError Global)) (visit : Visit)
        → IsEnded step has_failed scope mid result visit new → IsGood scope visit → (result ≡ Ok tt) × (new ≡ mid)
    ended = search-ended step has_failed scope

    found-is : (searched : Searched) → has_found scope searched ≡ searched.has_match
    found-is searched = ap (λ seeks. if seeks then is_ok searched.result && not searched.has_match
        else searched.has_match) sought

    abbrev WithInput : (Input → Type 0) → Bool → List Input → Bool → R → E → Type 0
    WithInput IsOne quits inputs found reader new =
        (input : Input) × IsOne input × At quits (inputs ++ input ∷ []) found reader new

    file-visited : (quits : Bool) (inputs : List Input) (found : Bool) (reader : R) (path : Bor (List ℕ)) (file : F)
        (old : E) (visit : Visit) (new : E) → IsFileVisited step has_failed scope path file old visit new
        → IsGood scope visit → At quits inputs found reader old
        → WithInput (IsFile (path_of scope path) file quits) quits inputs (found || visit.has_match) reader new
    file-visited quits inputs found reader path file old visit new (searched, mid, searching, after) good at =
        let (ok, same) = ended mid new searched.result visit after.ended good in
        let (input, is, now) = kept.file quits inputs found reader old mid (path_of scope path) file searched at
        searching ok in (
          input,
          is,
          subst (At quits (inputs ++ input ∷ []) (found || visit.has_match) reader) (sym same)
              (subst (λ match. At quits (inputs ++ input ∷ []) (found || match) reader mid)
              (sym (after.matched ∙ found-is searched)) now),
        )

    abbrev reported : (old new : E) (visit : Visit) → IsReported step scope old visit new → IsGood scope visit → ⊥
    reported = reported-bad step scope

    listed : {T : Type 0} → scope.lists_files ≡ true → T
    listed is = absurd (true≢false (sym is ∙ searches))

    path-visited : (quits : Bool) (inputs : List Input) (found : Bool) (reader : R) (path : Bor (List ℕ))
        (old : E) (visit : Visit) (new : E) → IsPathVisited opens identifies step has_failed scope path old visit new
        → IsGood scope visit → At quits inputs found reader old
        → WithInput (IsAtPath folders finds opens identifies scope IsFile IsReader path quits) quits inputs
        (found || visit.has_match) reader new
    path-visited quits inputs found reader path old visit new (of_unopened error opened is) good at =
        absurd (reported old new visit is good)
    path-visited quits inputs found reader path old visit new (of_output file opened left is) good at =
        absurd (reported old new visit is good)
    path-visited quits inputs found reader path old visit new (OfFile file opened left is) good at =
        let (input, is_file, now) = file-visited quits inputs found reader path file old visit new is good at in
        (input, record { file = file; opened = opened; kept = left; is_file = is_file }, now)

    input-visited : (inputs : List Input) (found : Bool) (reader : R) (old : E) (visit : Visit) (new : E)
        → IsInputVisited step has_failed scope old visit new → IsGood scope visit → At false inputs found reader old
        → (input : Input) × (reader' : R)
        × IsStandardInput folders finds opens identifies scope IsFile IsReader reader input reader'
        × At false (inputs ++ input ∷ []) (found || visit.has_match) reader' new
    input-visited inputs found reader old visit new visited good at =
        either scope.leaves_out_input (λ out is. absurd (reported old new visit is good))
        (λ out (name, is_name, searched, mid, searching, after).
        let (ok, same) = ended mid new searched.result visit after.ended good in
        let (input, reader', is, now) = kept.input inputs found reader old mid (path_of scope name) searched at
        searching ok in (
          input,
          reader',
          (out, name, is_name, is),
          subst (At false (inputs ++ input ∷ []) (found || visit.has_match) reader') (sym same)
              (subst (λ match. At false (inputs ++ input ∷ []) (found || match) reader' mid)
              (sym (after.matched ∙ found-is searched)) now),
        ))
        (unless scope.lists_input _ _ reads visited)

    -- texts on standard error
    pub said-all : (quits : Bool) (inputs : List Input) (found : Bool) (reader : R) (old : E) (count : ℕ)
        (failure : Option Error) (new : E) → AreWritten step old count failure new → failure ≡ None
        → At quits inputs found reader old → At quits inputs found reader new
    said-all quits inputs found reader old _ _ _ no_text none at = at
    said-all quits inputs found reader old _ _ new (next_text count {mid} before moved) none at =
        kept.text quits inputs found reader mid new
        (said-all quits inputs found reader old count None mid before refl at) moved
    said-all quits inputs found reader old _ _ new (last_text count total error within before moved) none at =
        absurd (some-none (Some error) error refl none)

    abbrev quitting : Bool
    quitting = not scope.searches_binary

    -- the files of entries, of which there is one if something was searched
    abbrev WithFiles : List Entry → List Input → Bool → Bool → R → E → Type 0
    WithFiles entries inputs found searched reader new = (next : List Input)
        × AreFiles folders finds opens identifies scope IsFile IsReader entries next
        × (searched ≡ true → 0 < length next)
        × At quitting (inputs ++ next) found reader new

    same-at : (quits : Bool) (inputs other : List Input) (found match : Bool) (reader : R) (new : E)
        → inputs ≡ other → found ≡ match → At quits inputs found reader new → At quits other match reader new
    same-at quits inputs other found match reader new same is at =
        subst (λ f. At quits other f reader new) is (subst (λ xs. At quits xs found reader new) same at)

    entry-visited : (entries : List Entry) (inputs : List Input) (found before searched : Bool) (reader : R) (mid : E)
        (entry : Entry) (visit : Visit) (new : E)
        → IsEntryVisited opens identifies step has_failed scope mid entry visit new → IsGood scope visit
        → WithFiles entries inputs (found || before) searched reader mid
        → WithFiles (entries ++ entry ∷ []) inputs (found || (before || visit.has_match))
        (searched || visit.has_searched) reader new
    entry-visited entries inputs found before searched reader mid _ visit new
        (of_path {text = text} path is searching visited)
        good (next, files, some, at) =
        let (input, is_at, now) = path-visited quitting (inputs ++ next) (found || before) reader path mid visit new
        visited good at in (
          next ++ input ∷ [],
          next_file path text input files is is_at,
          λ has. some-more next input,
          same-at quitting ((inputs ++ next) ++ input ∷ []) (inputs ++ (next ++ input ∷ []))
              ((found || before) || visit.has_match) (found || (before || visit.has_match)) reader new
              (append_assoc inputs next (input ∷ [])) (or-assoc found before visit.has_match) now,
        )
    entry-visited entries inputs found before searched reader mid _ visit new
        (of_listed path is lists visited) good at =
        listed lists
    entry-visited entries inputs found before searched reader mid _ visit new (of_unread is) good at =
        absurd (reported mid new visit is good)
    entry-visited entries inputs found before searched reader mid _ visit new
        (of_entered {text = text} inside (failure, said, is))
        good (next, files, some, at) =
        let none = sym (ap (λ (v : Visit). v.failure) is) ∙ good.no_failure in
        let now = said-all quitting (inputs ++ next) (found || before) reader mid _ failure new said none at in (
          next,
          next_folder text files,
          λ has. some (sym (or-none searched)
              ∙ (ap (λ more. searched || more) (sym (ap (λ (v : Visit). v.has_searched) is)) ∙ has)),
          subst (λ f. At quitting (inputs ++ next) f reader new)
              (ap (λ b. found || b) (sym (ap (λ match. before || match) (ap (λ (v : Visit). v.has_match) is)
              ∙ or-none before))) now,
        )

    entries-visited : (inputs : List Input) (found : Bool) (reader : R) (old : E) (entries : List Entry)
        (total : Visit) (new : E)
        → AreEntriesVisited opens identifies step has_failed scope old entries total new → IsGood scope total
        → At quitting inputs found reader old → WithFiles entries inputs (found || total.has_match)
        total.has_searched reader new
    entries-visited inputs found reader old _ _ _ no_entry good at = (
      [],
      NoEntry,
      λ has. absurd (true≢false (sym has)),
      same-at quitting inputs (inputs ++ []) found (found || false) reader old
          (sym (append-nil inputs)) (sym (or-none found)) at,
    )
    entries-visited inputs found reader old _ _ new (next_entry entries total next {mid} entry before on visited) good
        at =
        let (good_before, good_next) = both-good scope total next on good in
        entry-visited entries inputs found total.has_match total.has_searched reader mid entry next new visited
        good_next
        (entries-visited inputs found reader old entries total mid before good_before at)

    -- a folder
    folder-visited : (inputs : List Input) (found : Bool) (reader : R) (choices : Choices) (folder : List ℕ)
        (old : E) (visit : Visit) (new : E)
        → IsFolderVisited folders opens identifies step has_failed scope choices folder old visit new
        → IsGood scope visit → At false inputs found reader old
        → (next : List Input) × AreOfFolder folders finds opens identifies scope IsFile IsReader choices folder next
        × (visit.has_searched ≡ true → 0 < length next)
        × At false (inputs ++ next) (found || visit.has_match) reader new
    folder-visited inputs found reader choices folder old visit new is good at = elim is.tree.visit_is [
      | inl same ↦
          let good_total = subst (IsGood scope) same good in
          let (next, files, some, now) = entries-visited inputs found reader is.first is.tree.visited is.tree.total
          is.last
          is.tree.entries good_total
          (kept.quits false quitting inputs found reader old is.first at is.begins) in (
            next,
            record { entries = is.tree.visited; all = all is.tree.walked; files = files },
            λ has. some (sym (ap (λ (v : Visit). v.has_searched) same) ∙ has),
            subst (λ (v : Visit). At false (inputs ++ next) (found || v.has_match) reader new) (sym same)
                (kept.quits quitting false (inputs ++ next)
                (found || is.tree.total.has_match) reader is.last new now is.ends),
          )
      | inr (error, memory, failed) ↦ absurd (some-none visit.failure error
          (ap (λ (v : Visit). v.failure) failed) good.no_failure)
    ]
      where
        all : IsWalkedTo folders scope choices folder is.tree.visited visit
            → AreAllOf folders scope.route choices folder is.tree.visited
        all (inl whole) = whole
        all (inr (over, first)) = absurd (true≢false (sym over ∙ goes-on scope visit good))

    here-visited : (inputs : List Input) (found : Bool) (reader : R) (choices : Choices) (old : E) (visit : Visit)
        (new : E) → IsHereVisited folders opens identifies step has_failed scope choices old visit new → IsGood scope visit
        → At false inputs found reader old
        → (next : List Input) × AreOfFolder folders finds opens identifies scope IsFile IsReader choices [] next
        × (0 < length next) × At false (inputs ++ next) (found || visit.has_match) reader new
    here-visited inputs found reader choices old visit new is good at =
        either (is_none is.folder.failure && not is.folder.has_searched && not scope.lists_files)
        (λ none (failure, said, missed). absurd (true≢false (sym (ap (λ (v : Visit). v.has_error) missed)
        ∙ good.no_error)))
        (λ none (same, moved).
        let (next, of, some, now) = folder-visited inputs found reader choices [] old is.folder is.mid is.visited
        (subst (IsGood scope) same good) at in (
          next,
          of,
          some (has-searched is.folder.failure is.folder.has_searched scope.lists_files none
              (sym (ap (λ (v : Visit). v.failure) same) ∙ good.no_failure) searches),
          subst (λ (v : Visit). At false (inputs ++ next) (found || v.has_match) reader new) (sym same)
              (subst (At false (inputs ++ next) (found || is.folder.has_match) reader) (sym moved) now),
        ))
        is.said

    -- what is searched of what waits
    abbrev WithWaiting : R → List Waiting → Bool → Bool → E → Type 0
    WithWaiting first done found searched new = (inputs : List Input) × (reader : R)
        × AreOfWaiting folders finds opens identifies scope IsFile IsReader first done inputs reader
        × (searched ≡ true → 0 < length inputs) × At false inputs found reader new

    waiting-visited : (first : R) (done : List Waiting) (found searched : Bool) (mid : E) (waiting : Waiting)
        (visit : Visit) (new : E) → IsWaitingVisited opens identifies step has_failed scope waiting mid visit new
        → IsGood scope visit → WithWaiting first done found searched mid
        → WithWaiting first (done ++ waiting ∷ []) (found || visit.has_match) (searched || visit.has_searched) new
    waiting-visited first done found searched mid waiting visit new (of_standard_input target visited) good
        (inputs, reader, are, some, at) =
        let (input, reader', is, now) = input-visited inputs found reader mid visit new visited good at in (
          inputs ++ input ∷ [],
          reader',
          input_waits waiting input are target is,
          λ has. some-more inputs input,
          now,
        )
    waiting-visited first done found searched mid waiting visit new
        (of_searched {first = begun} {last = last} quits path target is searching begins visited ends) good
        (inputs, reader, are, some, at) =
        let (input, is_at, now) = path-visited quits inputs found reader path begun visit last visited good
        (kept.quits false quits inputs found reader mid begun at begins) in (
          inputs ++ input ∷ [],
          reader,
          file_waits waiting quits path input are target is is_at,
          λ has. some-more inputs input,
          kept.quits quits false (inputs ++ input ∷ []) (found || visit.has_match) reader last new now ends,
        )
    waiting-visited first done found searched mid waiting visit new
        (of_unsearched quits path target is lists visited) good with_it =
        listed lists

    pub all-waiting-visited : (first : R) (old : E) (done : List Waiting) (total : Visit) (new : E)
        → AreWaitingVisited opens identifies step has_failed scope old done total new → IsGood scope total
        → At false [] false first old → WithWaiting first done total.has_match total.has_searched new
    all-waiting-visited first old _ _ _ none_waiting good at =
        ([], first, none_waits, λ has. absurd (true≢false (sym has)), at)
    all-waiting-visited first old _ _ new (next_waiting done total next {mid} waiting before on visited) good at =
        let (good_before, good_next) = both-good scope total next on good in
        waiting-visited first done total.has_match total.has_searched mid waiting next new visited good_next
        (all-waiting-visited first old done total mid before good_before at)

    -- what is searched for an operand, and for operands in a row
    -- what is searched for an operand, and for operands in a row
    abbrev WithOperand : Choices → Bor (List ℕ) → List Input → Bool → R → E → Type 0
    WithOperand choices path inputs found reader new = (next : List Input) × (reader' : R)
        × AreOfOperand folders finds opens identifies scope IsFile IsReader choices path reader next reader'
        × At false (inputs ++ next) found reader' new

    named-visited : (inputs : List Input) (found : Bool) (reader : R) (choices : Choices) (path : Bor (List ℕ))
        (old : E) (visit : Visit) (new : E) → is_input path.now ≡ false → is_escaped path.now ≡ false
        → IsNamedVisited folders finds opens identifies step has_failed scope choices path old visit new
        → IsGood scope visit → At false inputs found reader old
        → WithOperand choices path inputs (found || visit.has_match) reader new
    named-visited inputs found reader choices path old visit new named text (OfFolder is_folder visited) good at =
        let (next, of, some, now) = folder-visited inputs found reader choices path.now old visit new visited good at in
        (next, reader, of_folder named text is_folder of, now)
    named-visited inputs found reader choices path old visit new named text (of_file_at is_file searching visited) good
        at =
        let (input, is, now) = path-visited false inputs found reader path old visit new visited good at in
        (input ∷ [], reader, of_file input named text (Ok false, is_file, refl) is, now)
    named-visited inputs found reader choices path old visit new named text (of_unfound error unfound searching visited)
        good at =
        let (input, is, now) = path-visited false inputs found reader path old visit new visited good at in
        (input ∷ [], reader, of_file input named text (Err error, unfound, tt) is, now)
    named-visited inputs found reader choices path old visit new named text (of_listing is_file lists visited) good at =
        listed lists
    named-visited inputs found reader choices path old visit new named text
        (of_missing error unfound lists is) good at =
        listed lists

    operand-visited : (inputs : List Input) (found : Bool) (reader : R) (choices : Choices) (path : Bor (List ℕ))
        (old : E) (visit : Visit) (new : E)
        → IsOperandVisited folders finds opens identifies step has_failed scope choices path old visit new
        → IsGood scope visit → At false inputs found reader old
        → WithOperand choices path inputs (found || visit.has_match) reader new
    operand-visited inputs found reader choices path old visit new visited good at =
        either (is_input path.now)
        (λ named standard.
        let (input, reader', is, now) = input-visited inputs found reader old visit new standard good at in
        (input ∷ [], reader', of_input input named is, now))
        (λ named other. either (is_escaped path.now) (λ text is. absurd (reported old new visit is good))
        (λ text is. named-visited inputs found reader choices path old visit new named text is good at) other)
        visited

    operands-visited : (reader : R) (choices : Choices) (old : E) (paths : List (Bor (List ℕ))) (total : Visit)
        (new : E)
        → AreVisited folders finds opens identifies step has_failed scope choices old paths total new → IsGood scope total
        → At false [] false reader old
        → (inputs : List Input) × (reader' : R)
        × AreOfOperands folders finds opens identifies scope IsFile IsReader choices reader paths inputs reader'
        × At false inputs total.has_match reader' new
    operands-visited reader choices old _ _ _ NoVisited good at = ([], reader, no_operand, at)
    operands-visited reader choices old _ _ new (NextVisited paths total next {mid} path before on visited) good at =
        let (good_before, good_next) = both-good scope total next on good in
        let (inputs, between, of, now) = operands-visited reader choices old paths total mid before good_before at in
        let (more, reader', is, after_it) = operand-visited inputs total.has_match between choices path mid next
        new visited
        good_next now in
        (inputs ++ more, reader', next_operand path of is, after_it)

    -- all that is visited: what a run searches, if nothing failed
    pub all-visited : (reader : R) (choices : Choices) (paths : List (Bor (List ℕ))) (old : E) (total : Visit) (new : E)
        → AreAllVisited folders finds opens identifies step has_failed scope choices paths old total new → IsGood scope total
        → At false [] false reader old
        → (inputs : List Input) × (reader' : R)
        × AreSearchedInTurn folders finds opens identifies scope IsFile IsReader choices paths reader inputs reader'
        × At false inputs total.has_match reader' new
    all-visited reader choices [] old total new visited good at =
        either scope.searches_input
        (λ searched standard.
        let (input, reader', is, now) = input-visited [] false reader old total new standard good at in
        (input ∷ [], reader', OfStandardInput input searched is, now))
        (λ searched here.
        let (inputs, of, some, now) = here-visited [] false reader choices old total new here good at in
        (inputs, reader, of_here searched of some, now))
        visited
    all-visited reader choices (path ∷ later) old total new (done, rest, split, visited, ends) good at =
        let (inputs, reader', of, now) = operands-visited reader choices old done total new visited good at in (
          inputs,
          reader',
          subst (λ paths. AreOfOperands folders finds opens identifies scope IsFile IsReader choices reader
              paths inputs reader') (sym (split ∙ (ap (λ left. done ++ left) (none ends) ∙ append-nil done))) of,
          now,
        )
      where
        none : ((rest ≡ []) ⊎ (is_over scope total ≡ true)) → rest ≡ []
        none (inl empty) = empty
        none (inr over) = absurd (true≢false (sym over ∙ goes-on scope total good))
