-- What a run over operands visits, in which order, what comes of that, and the status.
use Rattle.std.specs.Prelude.{◌≡◌, ◌≢◌, ◌⊎◌, ℕ, Bool, true, false, not, ◌&&◌, ◌||◌, ◌==◌}
use Rattle.std.specs.Prelude.{if◌then◌else◌}
use Rattle.std.specs.Prelude.{◌+◌, ◌<◌, codes, length, List, [], ◌∷◌, ◌++◌, Option, None, Some}
use Rattle.std.specs.Prelude.{is_none, is_ok, is_some}
use Rattle.std.specs.Prelude.{MatchBool, MatchOption, Result, Ok, Err, String, string_bytes}
use Rattle.std.specs.List.{list_any}
use Rattle.std.specs.Borrow.{Bor}
use Rattle.std.specs.Global.{Global}
use Rattle.std.specs.IoError.{error_kind}
use Rattle.std.specs.Str.{bytes_eq}
use Rattle.std.specs.declared.io.Error.{Error}
use Rattle.std.specs.declared.io.ErrorKind.TheVariants.{BrokenPipe, OutOfMemory}
use Rattle.grep_searcher.specs.declared.SearchError.{SearchError}
use Rattle.linegrep_cli.specs.EngineCalls.{EngineCall, finishes, lists, says, searches_file}
use Rattle.linegrep_cli.specs.EngineCalls.{searches_input, sets_quits}
use Rattle.linegrep_cli.specs.EngineSteps.{IsWrittenError}
use Rattle.linegrep_cli.specs.declared.scope.Messages.{Messages}
use Rattle.linegrep_cli.specs.declared.scope.Messages.TheVariants.{Full, Silent, WithoutWarnings}
use Rattle.linegrep_cli.specs.declared.scope.Quiet.{Quiet}
use Rattle.linegrep_cli.specs.declared.scope.Scope.{Scope}
use Rattle.linegrep_cli.specs.declared.visit.Visit.{Visit}
use Rattle.linegrep_cli.specs.WaitingFiles.{AreInOrder, AreRanked, IsEmpty, IsCollecting}
use Rattle.linegrep_cli.specs.declared.late.Collector.{Collector}
use Rattle.linegrep_cli.specs.declared.late.Target.TheVariants.{File as FileTarget, StandardInput}
use Rattle.linegrep_cli.specs.declared.late.Waiting.{Waiting}
use Rattle.grep_printer.specs.declared.printed_search.Searched.{Searched}
use Rattle.linegrep_files.specs.Choices.{SaysTheSame, notes_of, warnings_of}
use Rattle.linegrep_files.specs.FileIds.{is_same_file}
use Rattle.linegrep_files.specs.FolderFacts.{FolderFacts}
use Rattle.linegrep_files.specs.Orders.{is_late}
use Rattle.linegrep_files.specs.Trees.{AreAllOf, AreFirstOf}
use Rattle.linegrep_files.specs.Walks.{IsNoted}
use Rattle.linegrep_files.specs.declared.choices.Choices.{Choices}
use Rattle.linegrep_files.specs.declared.entry.Entry.{Entry}
use Rattle.linegrep_files.specs.declared.entry.Entry.TheVariants.{File, Folder, Unread}
use Rattle.linegrep_files.specs.declared.file_id.FileId.{FileId}
use Rattle.linegrep_files.specs.declared.notes.Note.{Note}
use Rattle.linegrep_files.specs.declared.walk.Walk.{Walk}

-- nothing was visited
abbrev pub no_visit : Visit
no_visit = record { has_searched = false; has_match = false; has_error = false; failure = None }

-- what came of all that was visited, with what was visited next
abbrev pub visited_then : Visit → Visit → Visit
visited_then total next = record {
  has_searched = total.has_searched || next.has_searched;
  has_match = total.has_match || next.has_match;
  has_error = total.has_error || next.has_error;
  failure = next.failure;
}

-- both are the same file
abbrev pub is_same : Option FileId → Option FileId → Bool
is_same (Some one) (Some other) = is_same_file one other
is_same _ _ = false

-- a file that was opened isn't searched: it is the one that is left out, if one is
abbrev pub IsLeftOut : {F : Type 0} → (F → Option FileId → Type 0) → Scope → F → Bool → Type 0
IsLeftOut identifies scope file is_left_out =
    MatchBool (is_some scope.left_out)
    ((id : Option FileId) × identifies file id × (is_left_out ≡ is_same scope.left_out id))
    (is_left_out ≡ false)

-- a run that writes nothing of what it finds looks for a file without a match
abbrev pub seeks_unmatched : Option Quiet → Bool
seeks_unmatched None = false
seeks_unmatched (Some quiet) = quiet.seeks_unmatched

-- the first match ends a run that writes nothing of what it finds, unless all matches are counted
abbrev pub ends_with_match : Option Quiet → Bool
ends_with_match None = false
ends_with_match (Some quiet) = not quiet.counts_all

-- a search found what is looked for: a match, or no match, if files without one are looked for
abbrev pub has_found : Scope → Searched → Bool
has_found scope searched =
    if seeks_unmatched scope.quiet then is_ok searched.result && not searched.has_match
    else searched.has_match

-- the path that is written, by the name of what is searched
abbrev pub path_of : Scope → Bor (List ℕ) → Option (Bor (List ℕ))
path_of scope name = if scope.shows_paths then Some name else None

-- what is visited after this makes no difference: the run failed; or there is a match, and nothing
-- is written or counted
abbrev pub is_over : Scope → Visit → Bool
is_over scope total =
    is_some total.failure || (ends_with_match scope.quiet && total.has_match)

-- to find what a run searches, before it searches anything: each file is listed, and standard input
-- isn't left out yet
abbrev pub finding_scope : Scope → Scope
finding_scope scope = record scope {
  lists_files = true;
  lists_input = false;
  leaves_out_input = false;
  quiet = None;
}

-- there is no operand
abbrev pub is_bare : List (Bor (List ℕ)) → Bool
is_bare [] = true
is_bare (path ∷ later) = false

-- what was visited of a folder is all that is visited of it, by choices; or the beginning of that,
-- if it ended the run
abbrev pub IsWalkedTo : FolderFacts → Scope → Choices → List ℕ → List Entry → Visit → Type 0
IsWalkedTo folders scope choices folder visited visit =
    AreAllOf folders scope.route choices folder visited
    ⊎ ((is_over scope visit ≡ true) × AreFirstOf folders scope.route choices folder visited)

-- the status if all was written
abbrev pub status_of : Scope → Visit → ℕ
status_of scope total = if total.has_error && not (is_some scope.quiet && total.has_match) then 2
    else if total.has_match then 0 else 1

-- a word stands for bytes that aren't UTF-8: it has a NUL
abbrev pub is_escaped : List ℕ → Bool
is_escaped word = list_any (λ letter. letter == 0) word

-- standard error says what can't be read
abbrev pub says_errors : Messages → Bool
says_errors Full = true
says_errors WithoutWarnings = true
says_errors Silent = false

-- standard error says what is wrong with ignore files
abbrev pub says_warnings : Messages → Bool
says_warnings Full = true
says_warnings WithoutWarnings = false
says_warnings Silent = false

-- an operand names standard input
abbrev pub is_input : List ℕ → Bool
is_input path = bytes_eq path (codes "-")

-- the error, if it is one
abbrev pub error_of : Result (Unit {0}) Error → Option Error
error_of (Ok u) = None
error_of (Err error) = Some error

-- how many notes there are of what isn't visited, that aren't said yet
abbrev pub note_count : Choices → ℕ
note_count choices = count (notes_of choices)
  where
    count : Option (List Note) → ℕ
    count None = 0
    count (Some notes) = length notes

-- a visit ends as it did, or memory is out
abbrev pub EndsAs : Visit → Visit → Type 0
EndsAs total visit = (visit ≡ total) ⊎ ((error : Error) × (error_kind error ≡ OutOfMemory)
    × (visit ≡ record total { failure = Some error }))

module _ {E F : Type 0} (step : E → EngineCall F → E → Type 0) where
  -- so many texts are written to standard error, or some of them up to one before which what was
  -- found can't be written. The result is that error of the writer
  pub data AreWritten (old : E) : ℕ → Option Error → E → Type 0 where
    no_text : AreWritten old 0 None old
    next_text : (count : ℕ) {mid new : E} → AreWritten old count None mid
        → step mid (says (Ok tt)) new → AreWritten old (count + 1) None new
    last_text : (count total : ℕ) (error : Error) {mid new : E} → count < total
        → AreWritten old count None mid → step mid (says (Err error)) new
        → AreWritten old total (Some error) new

module _ {E F : Type 0} (step : E → EngineCall F → E → Type 0) (scope : Scope) where
  -- a text is written to standard error, unless nothing is to be said. Writing what was found
  -- before may fail then
  abbrev pub IsSaid : E → Option Error → E → Type 0
  IsSaid old failure new =
      MatchBool (says_errors scope.messages)
      ((said : Result (Unit {0}) Error) × step old (says said) new × (failure ≡ error_of said))
      ((failure ≡ None) × (new ≡ old))

  -- something can't be read, and standard error says so
  abbrev pub IsReported : E → Visit → E → Type 0
  IsReported old visit new = (failure : Option Error) × IsSaid old failure new
      × (visit ≡ record no_visit { has_error = true; failure = failure })

  -- so many texts about ignore files are written to standard error, or none if they aren't asked
  -- for
  abbrev pub AreSaid : E → ℕ → Option Error → E → Type 0
  AreSaid old count failure new =
      AreWritten step old (if says_warnings scope.messages then count else 0) failure new

  -- so many texts about the ignore files of a folder are written to standard error, and then so
  -- many about what in it isn't visited, or none of either kind if they aren't asked for
  abbrev pub AreTold : E → ℕ → ℕ → Option Error → E → Type 0
  AreTold old warned noted failure new = AreWritten step old
      ((if says_warnings scope.messages then warned else 0) + (if scope.explains then noted else 0))
      failure new

  -- all that choices have to say of a folder is said: what is wrong with its ignore files, and what
  -- in it isn't visited
  abbrev pub IsTold : E → Choices → Visit → E → Type 0
  IsTold old choices visit new = (failure : Option Error)
      × AreTold old (length (warnings_of choices)) (note_count choices) failure new
      × (visit ≡ record no_visit { failure = failure })

  -- a walk entered the folder at a path, and all that was noted then is said
  pub record IsExplained {S : Type 0} (facts : S → FolderFacts) (walk : Walk S) (choices : Choices)
      (folder : List ℕ) (old : E) (visit : Visit) (new : E) : Type 0 where
    pub inside : Choices
    pub noted : IsNoted facts walk choices folder inside
    pub told : IsTold old inside visit new

module _ {E F : Type 0} (step : E → EngineCall F → E → Type 0) (has_failed : E → Bool)
    (scope : Scope) where
  -- what comes after a search. It ended in `Ok`; or the writer failed, which ends the run; or
  -- reading failed, which standard error says
  abbrev pub IsEnded : E → Result (Unit {0}) (SearchError Global) → Visit → E → Type 0
  IsEnded old (Ok u) visit new = (visit.has_error ≡ false) × (visit.failure ≡ None) × (new ≡ old)
  IsEnded old (Err e) visit new = MatchBool (has_failed old)
      ((visit.has_error ≡ false) × (new ≡ old)
      × ((error : Error) × (visit.failure ≡ Some error) × IsWrittenError e error))
      ((visit.has_error ≡ true) × IsSaid step scope old visit.failure new)

  -- what comes of a search
  pub record IsKept (old : E) (searched : Searched) (visit : Visit) (new : E) : Type 0 where
    pub is_searched : visit.has_searched ≡ true
    pub matched : visit.has_match ≡ has_found scope searched
    pub ended : IsEnded old searched.result visit new

  -- the path of a file is written, and the file isn't searched
  abbrev pub IsListed : Bor (List ℕ) → E → Visit → E → Type 0
  IsListed path old visit new = (searched : Searched) × (mid : E)
      × step old (lists path searched) mid × IsKept mid searched visit new

  -- standard input is searched, unless it is the output. If files are listed, its name is written
  abbrev pub IsInputVisited : E → Visit → E → Type 0
  IsInputVisited old visit new = MatchBool scope.lists_input
      ((name : Bor (List ℕ)) × (name.now ≡ codes "<stdin>") × IsListed name old visit new)
      (MatchBool scope.leaves_out_input (IsReported step scope old visit new)
      ((name : Bor (List ℕ)) × (name.now ≡ codes "<stdin>") × (searched : Searched) × (mid : E)
      × step old (searches_input (path_of scope name) searched) mid
      × IsKept mid searched visit new))

  -- a file is searched
  abbrev pub IsFileVisited : Bor (List ℕ) → F → E → Visit → E → Type 0
  IsFileVisited path file old visit new = (searched : Searched) × (mid : E)
      × step old (searches_file (path_of scope path) file searched) mid
      × IsKept mid searched visit new

  -- after a visit of the current folder: if no file was searched in it, and nothing failed,
  -- standard error says so
  abbrev pub IsNoneSaid : Visit → E → Visit → E → Type 0
  IsNoneSaid before mid visit new = MatchBool
      (is_none before.failure && not before.has_searched && not scope.lists_files)
      ((failure : Option Error) × IsSaid step scope mid failure new
      × (visit ≡ record before { has_error = true; failure = failure }))
      ((visit ≡ before) × (new ≡ mid))

  -- the run fails. It says why, unless nobody reads what is written
  pub data IsFailing (error : Error) (old : E) : ℕ → E → Type 0 where
    of_closed : has_failed old ≡ true → error_kind error ≡ BrokenPipe → IsFailing error old 0 old
    of_other : {new : E} (said : Result (Unit {0}) Error) → step old (says said) new
        → (has_failed old ≡ true → error_kind error ≢ BrokenPipe) → IsFailing error old 2 new

  -- how a run ends after what was visited, by its status
  pub data IsRunEnd (total : Visit) (old : E) : ℕ → E → Type 0 where
    of_failure : {status : ℕ} {new : E} (error : Error) → total.failure ≡ Some error
        → IsFailing error old status new → IsRunEnd total old status new
    of_end : {new : E} → total.failure ≡ None → step old (finishes (Ok tt)) new
        → IsRunEnd total old (status_of scope total) new
    of_unwritten : {status : ℕ} {mid new : E} (error : Error) → total.failure ≡ None
        → step old (finishes (Err error)) mid → IsFailing error mid status new
        → IsRunEnd total old status new

module _ {E F : Type 0} (opens : List ℕ → Result F Error → Type 0)
    (identifies : F → Option FileId → Type 0) (step : E → EngineCall F → E → Type 0)
    (has_failed : E → Bool) (scope : Scope) where
  -- the file at a path is opened and searched, unless it is the output. If it can't be opened,
  -- standard error says why
  pub data IsPathVisited (path : Bor (List ℕ)) (old : E) (visit : Visit) (new : E) : Type 0 where
    of_unopened : (error : Error) → opens path.now (Err error)
        → IsReported step scope old visit new → IsPathVisited path old visit new
    of_output : (file : F) → opens path.now (Ok file) → IsLeftOut identifies scope file true
        → IsReported step scope old visit new → IsPathVisited path old visit new
    of_file : (file : F) → opens path.now (Ok file) → IsLeftOut identifies scope file false
        → IsFileVisited step has_failed scope path file old visit new
        → IsPathVisited path old visit new

  -- what waits is searched, or its path is written
  pub data IsWaitingVisited (waiting : Waiting) (old : E) (visit : Visit) (new : E) : Type 0 where
    of_standard_input : waiting.target ≡ StandardInput
        → IsInputVisited step has_failed scope old visit new
        → IsWaitingVisited waiting old visit new
    of_searched : {first last : E} (quits : Bool) (path : Bor (List ℕ))
        → waiting.target ≡ FileTarget quits → path.now ≡ string_bytes waiting.file.path
        → scope.lists_files ≡ false → step old (sets_quits quits) first
        → IsPathVisited path first visit last → step last (sets_quits false) new
        → IsWaitingVisited waiting old visit new
    of_unsearched : (quits : Bool) (path : Bor (List ℕ)) → waiting.target ≡ FileTarget quits
        → path.now ≡ string_bytes waiting.file.path → scope.lists_files ≡ true
        → IsListed step has_failed scope path old visit new
        → IsWaitingVisited waiting old visit new

  -- what waits is visited in order. Only the last may have ended the run
  pub data AreWaitingVisited (old : E) : List Waiting → Visit → E → Type 0 where
    none_waiting : AreWaitingVisited old [] no_visit old
    next_waiting : (done : List Waiting) (total next : Visit) {mid new : E} (waiting : Waiting)
        → AreWaitingVisited old done total mid → is_over scope total ≡ false
        → IsWaitingVisited waiting mid next new
        → AreWaitingVisited old (done ++ waiting ∷ []) (visited_then total next) new

  -- what waits is visited, up to what ended the run
  pub record AreFirstVisited (old : E) (sorted : List Waiting) (visit : Visit) (new : E) : Type 0
    where
      pub done : List Waiting
      pub rest : List Waiting
      pub split : sorted ≡ done ++ rest
      pub visited : AreWaitingVisited old done visit new
      pub ends : (rest ≡ []) ⊎ (is_over scope visit ≡ true)

  -- an entry of a folder is visited. A file is searched or listed; of a folder, what is wrong with
  -- its ignore files is said, and what in it isn't visited; of what can't be read, that is said
  pub data IsEntryVisited (old : E) : Entry → Visit → E → Type 0 where
    of_path : {visit : Visit} {new : E} {text : String Global} (path : Bor (List ℕ))
        → path.now ≡ string_bytes text → scope.lists_files ≡ false
        → IsPathVisited path old visit new → IsEntryVisited old (File text) visit new
    of_listed : {visit : Visit} {new : E} {text : String Global} (path : Bor (List ℕ))
        → path.now ≡ string_bytes text → scope.lists_files ≡ true
        → IsListed step has_failed scope path old visit new
        → IsEntryVisited old (File text) visit new
    of_unread : {visit : Visit} {new : E} {text : String Global} {error : Error}
        → IsReported step scope old visit new → IsEntryVisited old (Unread text error) visit new
    of_entered : {visit : Visit} {new : E} {text : String Global} (inside : Choices)
        → IsTold step scope old inside visit new → IsEntryVisited old (Folder text) visit new

  -- entries are visited in order. Only the last may have ended the run
  pub data AreEntriesVisited (old : E) : List Entry → Visit → E → Type 0 where
    no_entry : AreEntriesVisited old [] no_visit old
    next_entry : (entries : List Entry) (total next : Visit) {mid new : E} (entry : Entry)
        → AreEntriesVisited old entries total mid → is_over scope total ≡ false
        → IsEntryVisited mid entry next new
        → AreEntriesVisited old (entries ++ entry ∷ []) (visited_then total next) new

module _ {E F : Type 0} (folders : FolderFacts) (opens : List ℕ → Result F Error → Type 0)
    (identifies : F → Option FileId → Type 0) (step : E → EngineCall F → E → Type 0)
    (has_failed : E → Bool) (scope : Scope) (choices : Choices) where
  -- what a walk through a folder finds is visited. If memory is out, that ends the run
  pub record IsTreeVisited (folder : List ℕ) (old : E) (visit : Visit) (new : E) : Type 0 where
    pub visited : List Entry
    pub total : Visit
    pub entries : AreEntriesVisited opens identifies step has_failed scope old visited total new
    pub walked : IsWalkedTo folders scope choices folder visited visit
    pub visit_is : EndsAs total visit

  -- a folder is visited. In it the search of a binary file may end once it is found to be binary
  pub record IsFolderVisited (folder : List ℕ) (old : E) (visit : Visit) (new : E) : Type 0 where
    pub first : E
    pub last : E
    pub begins : step old (sets_quits (not scope.searches_binary)) first
    pub tree : IsTreeVisited folder first visit last
    pub ends : step last (sets_quits false) new

  -- without an operand the current folder is visited. If no file is searched in it, and nothing
  -- failed, standard error says so
  pub record IsHereVisited (old : E) (visit : Visit) (new : E) : Type 0 where
    pub mid : E
    pub folder : Visit
    pub visited : IsFolderVisited [] old folder mid
    pub said : IsNoneSaid step has_failed scope folder mid visit new

module _ {E F : Type 0} (folders : FolderFacts) (finds : List ℕ → Result Bool Error → Type 0)
    (opens : List ℕ → Result F Error → Type 0) (identifies : F → Option FileId → Type 0)
    (step : E → EngineCall F → E → Type 0) (has_failed : E → Bool) (scope : Scope)
    (choices : Choices) where
  -- the folder or the file that an operand names is visited. The operand is neither `-` nor a word
  -- for bytes that aren't UTF-8
  pub data IsNamedVisited (path : Bor (List ℕ)) (old : E) (visit : Visit) (new : E) : Type 0 where
    of_folder : finds path.now (Ok true)
        → IsFolderVisited folders opens identifies step has_failed scope choices path.now old visit
        new
        → IsNamedVisited path old visit new
    of_file_at : finds path.now (Ok false) → scope.lists_files ≡ false
        → IsPathVisited opens identifies step has_failed scope path old visit new
        → IsNamedVisited path old visit new
    of_unfound : (error : Error) → finds path.now (Err error) → scope.lists_files ≡ false
        → IsPathVisited opens identifies step has_failed scope path old visit new
        → IsNamedVisited path old visit new
    of_listing : finds path.now (Ok false) → scope.lists_files ≡ true
        → IsListed step has_failed scope path old visit new → IsNamedVisited path old visit new
    of_missing : (error : Error) → finds path.now (Err error) → scope.lists_files ≡ true
        → IsReported step scope old visit new → IsNamedVisited path old visit new

  -- what an operand names is visited
  abbrev pub IsOperandVisited : Bor (List ℕ) → E → Visit → E → Type 0
  IsOperandVisited path old visit new =
      MatchBool (is_input path.now) (IsInputVisited step has_failed scope old visit new)
      (MatchBool (is_escaped path.now) (IsReported step scope old visit new)
      (IsNamedVisited path old visit new))

  -- operands are visited in order, each once. Only the last may have ended the run
  pub data AreVisited (old : E) : List (Bor (List ℕ)) → Visit → E → Type 0 where
    no_operand : AreVisited old [] no_visit old
    next_operand : (paths : List (Bor (List ℕ))) (total next : Visit) {mid new : E}
        (path : Bor (List ℕ)) → AreVisited old paths total mid → is_over scope total ≡ false
        → IsOperandVisited path mid next new
        → AreVisited old (paths ++ path ∷ []) (visited_then total next) new

  -- all that is visited: the operands, up to one that ended the run
  abbrev pub AreAllVisited : List (Bor (List ℕ)) → E → Visit → E → Type 0
  AreAllVisited [] old total new =
      MatchBool scope.searches_input (IsInputVisited step has_failed scope old total new)
      (IsHereVisited folders opens identifies step has_failed scope choices old total new)
  AreAllVisited (path ∷ later) old total new =
      (done : List (Bor (List ℕ))) × (rest : List (Bor (List ℕ)))
      × (path ∷ later ≡ done ++ rest) × AreVisited old done total new
      × ((rest ≡ []) ⊎ (is_over scope total ≡ true))

module _ {E F : Type 0} (folders : FolderFacts) (opens : List ℕ → Result F Error → Type 0)
    (identifies : F → Option FileId → Type 0) (step : E → EngineCall F → E → Type 0)
    (has_failed : E → Bool) (scope : Scope) where
  -- what was found is sorted and visited in that order, up to what ended the run, unless memory is
  -- out
  pub data AreSortedVisited (found : List Waiting) (old : E) : Visit → E → Type 0 where
    of_sorted : {visit : Visit} {new : E} (ranked sorted : List Waiting)
        → AreRanked folders.times scope.order found ranked
        → AreInOrder scope.order ranked sorted
        → AreFirstVisited opens identifies step has_failed scope old sorted visit new
        → AreSortedVisited found old visit new
    of_memory : (error : Error) → error_kind error ≡ OutOfMemory
        → AreSortedVisited found old (record no_visit { failure = Some error }) old

  -- how a run goes on after what came of finding what is searched: that is visited in order, unless
  -- finding it failed. Without an operand standard error says if there is nothing to search
  pub data IsFoundVisited (paths : List (Bor (List ℕ))) (found : List Waiting) (finding : Visit)
      (old : E) : Visit → E → Type 0 where
    of_unfound_all : is_some finding.failure ≡ true
        → IsFoundVisited paths found finding old
        (record no_visit { failure = finding.failure }) old
    of_found_all : (next visit : Visit) {mid new : E} → is_some finding.failure ≡ false
        → AreSortedVisited found old next mid
        → MatchBool (is_bare paths && not scope.searches_input)
        (IsNoneSaid step has_failed scope
        (record next { has_error = next.has_error || finding.has_error }) mid visit new)
        ((visit ≡ record next { has_error = next.has_error || finding.has_error }) × (new ≡ mid))
        → IsFoundVisited paths found finding old visit new

module _ {E F : Type 0} (folders : FolderFacts) (finds : List ℕ → Result Bool Error → Type 0)
    (opens : List ℕ → Result F Error → Type 0) (identifies : F → Option FileId → Type 0)
    (step : E → EngineCall F → E → Type 0) (has_failed : E → Bool) (scope : Scope)
    (choices : Choices) where
  -- all that is visited is found first. Then standard error says what can't be, and what was found
  -- is visited
  pub record AreVisitedLate (paths : List (Bor (List ℕ))) (old : E) (visit : Visit) (new : E)
      : Type 0 where
    pub begun : Collector
    pub collector : Collector
    pub begins : IsEmpty begun
    pub finding : Visit
    pub finds_all : AreAllVisited folders finds opens identifies IsCollecting
        (λ collector. collector.is_full) (finding_scope scope) choices paths begun finding collector
    pub failure : Option Error
    pub mid : E
    pub said : AreWritten step old (length collector.texts.items) failure mid
    pub visited : MatchOption failure
        (IsFoundVisited folders opens identifies step has_failed scope paths collector.found.items
        finding mid visit new)
        (λ error. (visit ≡ record no_visit { failure = Some error }) × (new ≡ mid))

  -- all that is visited, in the order that is asked for: if all has to be found first, the files of
  -- all operands together, and otherwise what each operand names, in turn
  abbrev pub AreVisitedInOrder : List (Bor (List ℕ)) → E → Visit → E → Type 0
  AreVisitedInOrder paths old total new = MatchBool (is_late scope.order)
      (AreVisitedLate paths old total new)
      (AreAllVisited folders finds opens identifies step has_failed scope choices paths old total
      new)

  -- operands are visited, and the status follows from what came of that
  pub record AreOperandsSearched (paths : List (Bor (List ℕ))) (old : E) (status : ℕ) (new : E)
      : Type 0 where
    pub total : Visit
    pub mid : E
    pub visited : AreVisitedInOrder paths old total mid
    pub ended : IsRunEnd step has_failed scope total mid status new

module _ {E F : Type 0} (folders : FolderFacts) (finds : List ℕ → Result Bool Error → Type 0)
    (opens : List ℕ → Result F Error → Type 0) (identifies : F → Option FileId → Type 0)
    (step : E → EngineCall F → E → Type 0) (has_failed : E → Bool) (scope : Scope)
    (choices : Choices) where
  -- a run over operands: first it says what is wrong with the ignore files that are named
  pub record IsRunOver (paths : List (Bor (List ℕ))) (old : E) (status : ℕ) (new : E) : Type 0
    where
      pub failure : Option Error
      pub begun : E
      pub said : AreSaid step scope old (length (warnings_of choices)) failure begun
      pub left : Choices
      pub same : SaysTheSame choices left
      pub none : warnings_of left ≡ []
      pub run : MatchOption failure (AreOperandsSearched folders finds opens identifies step
          has_failed scope left paths begun status new)
          (λ error. IsFailing step has_failed scope error begun status new)
