-- What is known of an engine after all that a run visits: its writer hasn't failed, or the run ends with the error of
-- the writer's last call.
use Rattle.std.proofs.Common.{◌≡◌, ◌∙◌, ◌⊎◌, ℕ, Bool, true, false, List, [], ◌∷◌, ap, inl, inr, refl, subst}
use Rattle.std.proofs.Common.{sym, true≢false}
use Rattle.std.specs.Prelude.{◌&&◌, ◌||◌, MatchBool, MatchOption, MatchResult, None, Option, Some, Result, Ok, Err}
use Rattle.std.specs.Prelude.{◌≢◌, is_none, is_some, not}
use Rattle.std.specs.IoError.{error_kind}
use Rattle.std.specs.declared.io.ErrorKind.{ErrorKind}
use Rattle.std.specs.declared.io.ErrorKind.TheVariants.{BrokenPipe, OutOfMemory}
use Rattle.std.specs.Borrow.{Bor}
use Rattle.std.specs.Global.{Global}
use Rattle.std.specs.declared.io.Error.{Error}
use Rattle.grep_printer.specs.declared.printed_search.Searched.{Searched}
use Rattle.grep_searcher.specs.declared.SearchError.{SearchError}
use Rattle.grep_searcher.specs.declared.SearchError.TheVariants.{Io}
use Rattle.linegrep_cli.proofs.SearchTextLemmas.{not-both, one-error}
use Rattle.linegrep_cli.specs.EngineCalls.{EngineCall, lists, says, searches_file, searches_input, sets_quits}
use Rattle.linegrep_cli.specs.EngineSteps.{IsWrittenError}
use Rattle.linegrep_cli.specs.OperandRuns.{AreAllVisited, AreEntriesVisited, AreVisited, AreWritten, EndsAs, IsEnded}
use Rattle.linegrep_cli.specs.OperandRuns.{IsEntryVisited, IsFolderVisited, IsHereVisited}
use Rattle.linegrep_cli.specs.OperandRuns.{AreSortedVisited, AreVisitedInOrder, AreVisitedLate, AreWaitingVisited}
use Rattle.linegrep_cli.specs.OperandRuns.{IsFoundVisited, IsNoneSaid, IsWaitingVisited, is_bare, next_waiting}
use Rattle.linegrep_cli.specs.OperandRuns.{no_visit, none_waiting, of_found_all, of_memory, of_searched, of_sorted}
use Rattle.linegrep_cli.specs.OperandRuns.{of_standard_input, of_unfound_all, of_unsearched}
use Rattle.linegrep_cli.specs.declared.late.Waiting.{Waiting}
use Rattle.linegrep_files.specs.Orders.{is_late}
use Rattle.linegrep_cli.specs.OperandRuns.{IsInputVisited, IsListed}
use Rattle.linegrep_cli.specs.OperandRuns.{IsNamedVisited, IsOperandVisited, IsPathVisited, IsReported, IsSaid}
use Rattle.linegrep_cli.specs.OperandRuns.{ends_with_match, error_of, is_escaped, is_input, is_over, last_text}
use Rattle.linegrep_cli.specs.OperandRuns.{next_entry, next_operand, next_text, no_entry, no_operand, no_text, of_file}
use Rattle.linegrep_cli.specs.OperandRuns.{of_file_at, of_folder, of_listed, of_listing, of_missing, of_output, of_path}
use Rattle.linegrep_cli.specs.OperandRuns.{of_unfound, of_unopened, of_unread, of_entered, says_errors}
use Rattle.linegrep_cli.specs.declared.scope.Scope.{Scope}
use Rattle.linegrep_cli.specs.declared.visit.Visit.{Visit}
use Rattle.linegrep_files.specs.FolderFacts.{FolderFacts}
use Rattle.linegrep_files.specs.declared.choices.Choices.{Choices}
use Rattle.linegrep_files.specs.declared.entry.Entry.{Entry}
use Rattle.linegrep_files.specs.declared.file_id.FileId.{FileId}

either : (is : Bool) {P Q R : Type 0} → (is ≡ true → P → R) → (is ≡ false → Q → R) → MatchBool is P Q → R
either true one other holds = one refl holds
either false one other holds = other refl holds

-- being out of memory is no broken pipe
open-memory : OutOfMemory ≡ BrokenPipe → ⊥
open-memory same = true≢false (sym (ap is-broken same))
  where
    is-broken : ErrorKind → Bool
    is-broken BrokenPipe = true
    is-broken kind = false

is-none : {T : Type 0} (found : Option T) (one other : Bool) → (is_none found && one && other) ≡ true → found ≡ None
is-none None one other is = refl
is-none (Some value) one other is = absurd (true≢false (sym is))

-- a run that isn't over hasn't failed
on-unfailed : (scope : Scope) (total : Visit) → is_over scope total ≡ false → total.failure ≡ None
on-unfailed scope total on = by total.failure (ends_with_match scope.quiet && total.has_match) on
  where
    by : (failure : Option Error) (ends : Bool) → (is_some failure || ends) ≡ false → failure ≡ None
    by None ends on = refl
    by (Some error) ends on = absurd (true≢false on)

module _ {E F : Type 0} (step : E → EngineCall F → E → Type 0) (has_failed : E → Bool) (Sound : E → Type 0)
    (Cut : Error → E → Type 0) where
  -- an engine is sound after a search whose printer hasn't failed; or the search ended with the writer's error
  pub record IsSearchedSoundly (searched : Searched) (new : E) : Type 0 where
    pub sound : has_failed new ≡ false → Sound new
    pub cut : has_failed new ≡ true → (error : Error) × (searched.result ≡ Err (Io error)) × Cut error new

  -- what the calls of an engine keep that is sound
  pub record CallsKeep : Type 0 where
    pub file : (old new : E) (path : Option (Bor (List ℕ))) (file : F) (searched : Searched)
        → step old (searches_file path file searched) new → Sound old → IsSearchedSoundly searched new
    pub input : (old new : E) (path : Option (Bor (List ℕ))) (searched : Searched)
        → step old (searches_input path searched) new → Sound old → IsSearchedSoundly searched new
    pub list : (old new : E) (path : Bor (List ℕ)) (searched : Searched)
        → step old (lists path searched) new → Sound old → IsSearchedSoundly searched new
    pub text : (old new : E) (said : Result (Unit {0}) Error) → step old (says said) new → Sound old
        → MatchResult said (λ _. Sound new) (λ error. Cut error new)
    pub quits : (old new : E) (quits : Bool) → step old (sets_quits quits) new → Sound old → Sound new
    pub quits-cut : (old new : E) (quits : Bool) (error : Error) → step old (sets_quits quits) new → Cut error old
        → Cut error new

  -- how something ended, by its failure
  abbrev pub Ends : Option Error → E → Type 0
  Ends failure new = MatchOption failure (Sound new)
      (λ error. Sound new ⊎ (Cut error new ⊎ (error_kind error ≢ BrokenPipe)))

module _ {E F : Type 0} (folders : FolderFacts) (finds : List ℕ → Result Bool Error → Type 0)
    (opens : List ℕ → Result F Error → Type 0) (identifies : F → Option FileId → Type 0)
    (step : E → EngineCall F → E → Type 0) (has_failed : E → Bool) (scope : Scope)
    (Sound : E → Type 0) (Cut : Error → E → Type 0)
    (keep : CallsKeep step has_failed Sound Cut) where
  abbrev HasEnded : Option Error → E → Type 0
  HasEnded = Ends step has_failed Sound Cut

  by-failure : (failure other : Option Error) (new : E) → failure ≡ other → HasEnded other new → HasEnded failure new
  by-failure failure other new is ended = subst (λ f. HasEnded f new) (sym is) ended

  -- a visit that hasn't failed leaves a sound engine
  still-sound : (failure : Option Error) (new : E) → failure ≡ None → HasEnded failure new → Sound new
  still-sound failure new none ended = subst (λ f. HasEnded f new) none ended

  said : (old : E) (failure : Option Error) (new : E) → IsSaid step scope old failure new → Sound old
      → HasEnded failure new
  said old failure new is sound = either (says_errors scope.messages)
      (λ is_full (result, moved, same). by-failure failure (error_of result) new same
      (by result (keep.text old new result moved sound)))
      (λ is_full (none, same). by-failure failure None new none (subst Sound (sym same) sound)) is
    where
      by : (result : Result (Unit {0}) Error) → MatchResult result (λ _. Sound new) (λ error. Cut error new)
          → HasEnded (error_of result) new
      by (Ok u) kept = kept
      by (Err error) cut = inr (inl cut)

  pub all-said : (old : E) (count : ℕ) (failure : Option Error) (new : E) → AreWritten step old count failure new
      → Sound old → HasEnded failure new
  all-said old _ _ _ no_text sound = sound
  all-said old _ _ new (next_text count {mid} before moved) sound =
      keep.text mid new (Ok tt) moved (all-said old count None mid before sound)
  all-said old _ _ new (last_text count total error {mid} within before moved) sound =
      inr (inl (keep.text mid new (Err error) moved (all-said old count None mid before sound)))

  reported : (old : E) (visit : Visit) (new : E) → IsReported step scope old visit new → Sound old
      → HasEnded visit.failure new
  reported old visit new (failure, is, same) sound =
      by-failure visit.failure failure new (ap (λ (v : Visit). v.failure) same) (said old failure new is sound)

  ended : (mid : E) (searched : Searched) (visit : Visit) (new : E)
      → IsEnded step has_failed scope mid searched.result visit new
      → IsSearchedSoundly step has_failed Sound Cut searched mid
      → HasEnded visit.failure new
  ended mid searched visit new is after = by searched.result refl is
    where
      -- the error of a run is that of the writer
      own-error : (e : SearchError Global) (error cause : Error) → searched.result ≡ Err e
          → searched.result ≡ Err (Io cause) → IsWrittenError e error → error ≡ cause
      own-error e error cause is was own =
          subst (λ x. IsWrittenError x error) (one-error e (Io cause) (sym is ∙ was)) own

      by : (result : Result (Unit {0}) (SearchError Global)) → searched.result ≡ result
          → IsEnded step has_failed scope mid result visit new → HasEnded visit.failure new
      by (Ok u) is (unfailed, none, same) = by-failure visit.failure None new none (subst Sound (sym same)
          (whole (has_failed mid) refl))
        where
          whole : (failed : Bool) → has_failed mid ≡ failed → Sound mid
          whole false unfailed = after.sound unfailed
          whole true failed = let (error, was, cut) = after.cut failed in
              absurd (not-both searched.result tt (Io error) is was)
      by (Err e) is kept = either (has_failed mid)
          (λ failed (unread, same, (error, is_error, own)).
          let (cause, was, cut) = after.cut failed in
          by-failure visit.failure (Some error) new is_error
          (inr (inl (subst (λ x. Cut x new) (sym (own-error e error cause is was own))
          (subst (Cut cause) (sym same) cut)))))
          (λ unfailed (unread, is_said). said mid visit.failure new is_said (after.sound unfailed)) kept

  listed : (path : Bor (List ℕ)) (old : E) (visit : Visit) (new : E)
      → IsListed step has_failed scope path old visit new → Sound old → HasEnded visit.failure new
  listed path old visit new (searched, mid, listing, after) sound =
      ended mid searched visit new after.ended (keep.list old mid path searched listing sound)

  input-visited : (old : E) (visit : Visit) (new : E) → IsInputVisited step has_failed scope old visit new
      → Sound old → HasEnded visit.failure new
  input-visited old visit new visited sound = either scope.lists_input
      (λ is_listing (name, is_name, is). listed name old visit new is sound)
      (λ is_listing is. either scope.leaves_out_input (λ out is_reported. reported old visit new is_reported sound)
      (λ out (name, is_name, searched, mid, searching, after).
      ended mid searched visit new after.ended (keep.input old mid _ searched searching sound))
      is) visited

  path-visited : (path : Bor (List ℕ)) (old : E) (visit : Visit) (new : E)
      → IsPathVisited opens identifies step has_failed scope path old visit new → Sound old
      → HasEnded visit.failure new
  path-visited path old visit new (of_unopened error opened is) sound = reported old visit new is sound
  path-visited path old visit new (of_output file opened left is) sound = reported old visit new is sound
  path-visited path old visit new (of_file file opened left (searched, mid, searching, after)) sound =
      ended mid searched visit new after.ended (keep.file old mid _ file searched searching sound)

  entry-visited : (old : E) (entry : Entry) (visit : Visit) (new : E)
      → IsEntryVisited opens identifies step has_failed scope old entry visit new → Sound old
      → HasEnded visit.failure new
  entry-visited old _ visit new (of_path path is searching visited) sound =
      path-visited path old visit new visited sound
  entry-visited old _ visit new (of_listed path is is_listing visited) sound =
      listed path old visit new visited sound
  entry-visited old _ visit new (of_unread is) sound = reported old visit new is sound
  entry-visited old _ visit new (of_entered inside (failure, are_said, is)) sound =
      by-failure visit.failure failure new (ap (λ (v : Visit). v.failure) is)
      (all-said old _ failure new are_said sound)

  entries-visited : (old : E) (entries : List Entry) (total : Visit) (new : E)
      → AreEntriesVisited opens identifies step has_failed scope old entries total new → Sound old
      → HasEnded total.failure new
  entries-visited old _ _ _ no_entry sound = sound
  entries-visited old _ _ new (next_entry entries total next {mid} entry before on visited) sound =
      entry-visited mid entry next new visited (still-sound total.failure mid (on-unfailed scope total on)
      (entries-visited old entries total mid before sound))

  -- what is done about binary files makes no difference
  quits-set : (failure : Option Error) (last new : E) → step last (sets_quits false) new → HasEnded failure last
      → HasEnded failure new
  quits-set None last new ends kept = keep.quits last new false ends kept
  quits-set (Some error) last new ends (inl kept) = inl (keep.quits last new false ends kept)
  quits-set (Some error) last new ends (inr (inl cut)) = inr (inl (keep.quits-cut last new false error ends cut))
  quits-set (Some error) last new ends (inr (inr other)) = inr (inr other)

  folder-visited : (choices : Choices) (folder : List ℕ) (old : E) (visit : Visit) (new : E)
      → IsFolderVisited folders opens identifies step has_failed scope choices folder old visit new
      → Sound old → HasEnded visit.failure new
  folder-visited choices folder old visit new is sound = by is.tree.visit_is
    where
      inside : HasEnded is.tree.total.failure is.last
      inside = entries-visited is.first is.tree.visited is.tree.total is.last is.tree.entries
          (keep.quits old is.first _ is.begins sound)

      by : EndsAs is.tree.total visit → HasEnded visit.failure new
      by (inl same) = by-failure visit.failure is.tree.total.failure new (ap (λ (v : Visit). v.failure) same)
          (quits-set is.tree.total.failure is.last new is.ends inside)
      by (inr (error, memory, failed)) =
          by-failure visit.failure (Some error) new (ap (λ (v : Visit). v.failure) failed)
          (inr (inr (λ broken. open-memory (sym memory ∙ broken))))

  none-said : (before : Visit) (mid : E) (visit : Visit) (new : E)
      → IsNoneSaid step has_failed scope before mid visit new → HasEnded before.failure mid
      → HasEnded visit.failure new
  none-said before mid visit new is inside =
      either (is_none before.failure && not before.has_searched && not scope.lists_files)
      (λ none (failure, is_said, missed). by-failure visit.failure failure new
      (ap (λ (v : Visit). v.failure) missed)
      (said mid failure new is_said (still-sound before.failure mid (is-none before.failure _ _ none) inside)))
      (λ some (same, moved). by-failure visit.failure before.failure new
      (ap (λ (v : Visit). v.failure) same) (subst (HasEnded before.failure) (sym moved) inside)) is

  here-visited : (choices : Choices) (old : E) (visit : Visit) (new : E)
      → IsHereVisited folders opens identifies step has_failed scope choices old visit new → Sound old
      → HasEnded visit.failure new
  here-visited choices old visit new is sound = none-said is.folder is.mid visit new is.said
      (folder-visited choices [] old is.folder is.mid is.visited sound)

  named-visited : (choices : Choices) (path : Bor (List ℕ)) (old : E) (visit : Visit) (new : E)
      → IsNamedVisited folders finds opens identifies step has_failed scope choices path old visit new
      → Sound old → HasEnded visit.failure new
  named-visited choices path old visit new (of_folder found visited) sound =
      folder-visited choices path.now old visit new visited sound
  named-visited choices path old visit new (of_file_at found searching visited) sound =
      path-visited path old visit new visited sound
  named-visited choices path old visit new (of_unfound error found searching visited) sound =
      path-visited path old visit new visited sound
  named-visited choices path old visit new (of_listing found is_listing visited) sound =
      listed path old visit new visited sound
  named-visited choices path old visit new (of_missing error found is_listing is) sound =
      reported old visit new is sound

  operand-visited : (choices : Choices) (path : Bor (List ℕ)) (old : E) (visit : Visit) (new : E)
      → IsOperandVisited folders finds opens identifies step has_failed scope choices path old visit new
      → Sound old → HasEnded visit.failure new
  operand-visited choices path old visit new visited sound =
      either (is_input path.now) (λ named standard. input-visited old visit new standard sound)
      (λ named other. either (is_escaped path.now) (λ text is. reported old visit new is sound)
      (λ text is. named-visited choices path old visit new is sound) other) visited

  operands-visited : (choices : Choices) (old : E) (paths : List (Bor (List ℕ))) (total : Visit) (new : E)
      → AreVisited folders finds opens identifies step has_failed scope choices old paths total new
      → Sound old → HasEnded total.failure new
  operands-visited choices old _ _ _ no_operand sound = sound
  operands-visited choices old _ _ new (next_operand paths total next {mid} path before on visited) sound =
      operand-visited choices path mid next new visited (still-sound total.failure mid (on-unfailed scope total on)
      (operands-visited choices old paths total mid before sound))

  all-ended : (choices : Choices) (paths : List (Bor (List ℕ))) (old : E) (total : Visit) (new : E)
      → AreAllVisited folders finds opens identifies step has_failed scope choices paths old total new
      → Sound old → HasEnded total.failure new
  all-ended choices [] old total new visited sound = either scope.searches_input
      (λ searched standard. input-visited old total new standard sound)
      (λ searched here. here-visited choices old total new here sound) visited
  all-ended choices (path ∷ later) old total new (done, rest, split, visited, ends) sound =
      operands-visited choices old done total new visited sound

  waiting-visited : (waiting : Waiting) (old : E) (visit : Visit) (new : E)
      → IsWaitingVisited opens identifies step has_failed scope waiting old visit new → Sound old
      → HasEnded visit.failure new
  waiting-visited waiting old visit new (of_standard_input target visited) sound =
      input-visited old visit new visited sound
  waiting-visited waiting old visit new
      (of_searched {first = first} {last = last} quits path target is searching begins visited ends) sound =
      quits-set visit.failure last new ends
      (path-visited path first visit last visited (keep.quits old first quits begins sound))
  waiting-visited waiting old visit new (of_unsearched quits path target is is_listing visited) sound =
      listed path old visit new visited sound

  all-waiting-visited : (old : E) (done : List Waiting) (total : Visit) (new : E)
      → AreWaitingVisited opens identifies step has_failed scope old done total new → Sound old
      → HasEnded total.failure new
  all-waiting-visited old _ _ _ none_waiting sound = sound
  all-waiting-visited old _ _ new (next_waiting done total next {mid} waiting before on visited) sound =
      waiting-visited waiting mid next new visited (still-sound total.failure mid (on-unfailed scope total on)
      (all-waiting-visited old done total mid before sound))

  sorted-visited : (found : List Waiting) (old : E) (visit : Visit) (new : E)
      → AreSortedVisited folders opens identifies step has_failed scope found old visit new → Sound old
      → HasEnded visit.failure new
  sorted-visited found old visit new (of_sorted ranked sorted are_ranked in_order part) sound =
      all-waiting-visited old part.done visit new part.visited sound
  sorted-visited found old _ _ (of_memory error memory) sound =
      inr (inr (λ broken. open-memory (sym memory ∙ broken)))

  found-visited : (paths : List (Bor (List ℕ))) (found : List Waiting) (finding : Visit) (old : E) (visit : Visit)
      (new : E)
      → IsFoundVisited folders opens identifies step has_failed scope paths found finding old visit new → Sound old
      → HasEnded visit.failure new
  found-visited paths found finding old _ _ (of_unfound_all failed) sound = by finding.failure
    where
      by : (failure : Option Error) → HasEnded failure old
      by None = sound
      by (Some error) = inl sound
  found-visited paths found finding old visit new (of_found_all next _ {mid} unfailed visited after) sound =
      let inside = sorted-visited found old next mid visited sound in
      either (is_bare paths && not scope.searches_input)
      (λ bare none. none-said (record next { has_error = next.has_error || finding.has_error }) mid visit new none
      inside)
      (λ bare (same, moved). by-failure visit.failure next.failure new (ap (λ (v : Visit). v.failure) same)
      (subst (HasEnded next.failure) (sym moved) inside)) after

  late-ended : (choices : Choices) (paths : List (Bor (List ℕ))) (old : E) (total : Visit) (new : E)
      → AreVisitedLate folders finds opens identifies step has_failed scope choices paths old total new
      → Sound old → HasEnded total.failure new
  late-ended choices paths old total new is sound = by is.failure
      (all-said old _ is.failure is.mid is.said sound) is.visited
    where
      by : (failure : Option Error) → HasEnded failure is.mid
          → MatchOption failure (IsFoundVisited folders opens identifies step has_failed scope paths
          is.collector.found.items is.finding is.mid total new)
          (λ error. (total ≡ record no_visit { failure = Some error }) × (new ≡ is.mid))
          → HasEnded total.failure new
      by None after visited = found-visited paths is.collector.found.items is.finding is.mid total new visited after
      by (Some error) after (same, moved) = by-failure total.failure (Some error) new
          (ap (λ (v : Visit). v.failure) same) (subst (HasEnded (Some error)) (sym moved) after)

  pub ordered-ended : (choices : Choices) (paths : List (Bor (List ℕ))) (old : E) (total : Visit) (new : E)
      → AreVisitedInOrder folders finds opens identifies step has_failed scope choices paths old total new
      → Sound old → HasEnded total.failure new
  ordered-ended choices paths old total new visited sound = either (is_late scope.order)
      (λ late visited. late-ended choices paths old total new visited sound)
      (λ late visited. all-ended choices paths old total new visited sound) visited
