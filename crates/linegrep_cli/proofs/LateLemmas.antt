-- What a run has visited that finds all of it first, if nothing failed.
use Rattle.std.proofs.Common.{◌≡◌, ◌∙◌, ◌⊎◌, ℕ, Bool, true, false, List, [], ◌++◌, ap, inl, inr, refl, subst, sym}
use Rattle.std.proofs.Common.{true≢false}
use Rattle.std.specs.Prelude.{◌&&◌, ◌||◌, length, MatchOption, None, Option, Some, Result, is_none, is_some, not}
use Rattle.std.specs.Borrow.{Bor}
use Rattle.std.specs.declared.io.Error.{Error}
use Rattle.std.proofs.lemmas.List.{append-nil}
use Rattle.linegrep_cli.proofs.CollectorLemmas.{all-found}
use Rattle.linegrep_cli.proofs.VisitTextLemmas.{IsGood, either, first-false}
use Rattle.linegrep_cli.proofs.VisitTextLemmas.{goes-on, has-searched, none-of, second-false, some-none}
use Rattle.linegrep_cli.specs.EngineCalls.{EngineCall}
use Rattle.linegrep_cli.specs.FoundFiles.{AreFoundSorted}
use Rattle.linegrep_cli.specs.OperandRuns.{AreSortedVisited, AreVisitedLate, AreWaitingVisited, AreWritten}
use Rattle.linegrep_cli.specs.OperandRuns.{IsFoundVisited, ends_with_match, finding_scope, no_visit}
use Rattle.linegrep_cli.specs.OperandRuns.{is_bare, is_over, of_found_all, of_memory, of_sorted}
use Rattle.linegrep_cli.specs.OperandRuns.{of_unfound_all}
use Rattle.linegrep_cli.specs.WaitingFiles.{AreInOrder, AreRanked}
use Rattle.linegrep_cli.specs.declared.late.Waiting.{Waiting}
use Rattle.linegrep_cli.specs.declared.scope.Scope.{Scope}
use Rattle.linegrep_cli.specs.declared.visit.Visit.{Visit}
use Rattle.linegrep_files.specs.FolderFacts.{FolderFacts}
use Rattle.linegrep_files.specs.declared.choices.Choices.{Choices}
use Rattle.linegrep_files.specs.declared.file_id.FileId.{FileId}

-- `First` says of an engine that nothing was visited, and `Gives` of what waited, which was visited in order, whether
-- there was a match and whether something was searched, and of the engine after it.
module _ {E F : Type 0} (folders : FolderFacts) (finds : List ℕ → Result Bool Error → Type 0)
    (opens : List ℕ → Result F Error → Type 0) (identifies : F → Option FileId → Type 0)
    (step : E → EngineCall F → E → Type 0) (has_failed : E → Bool) (scope : Scope)
    (First : E → Type 0) (Gives : List Waiting → Bool → Bool → E → Type 0)
    (said : (count : ℕ) (old new : E) → AreWritten step old count None new → First old → First new)
    (visits : (old : E) (done : List Waiting) (total : Visit) (new : E)
    → AreWaitingVisited opens identifies step has_failed scope old done total new → IsGood scope total → First old
    → Gives done total.has_match total.has_searched new) where
  -- what was visited of what was found, in order
  pub record IsSorted (found : List Waiting) (match searched : Bool) (new : E) : Type 0 where
    pub ranked : List Waiting
    pub are_ranked : AreRanked folders.times scope.order found ranked
    pub sorted : List Waiting
    pub in_order : AreInOrder scope.order ranked sorted
    pub gives : Gives sorted match searched new

  sorted-visited : (found : List Waiting) (old : E) (visit : Visit) (new : E)
      → AreSortedVisited folders opens identifies step has_failed scope found old visit new → IsGood scope visit
      → First old → IsSorted found visit.has_match visit.has_searched new
  sorted-visited found old _ _ (of_memory error memory) good at =
      absurd (some-none (Some error) error refl good.no_failure)
  sorted-visited found old visit new (of_sorted ranked sorted are_ranked in_order part) good at = record {
    ranked = ranked;
    are_ranked = are_ranked;
    sorted = sorted;
    in_order = in_order;
    gives = subst (λ waiting. Gives waiting visit.has_match visit.has_searched new)
        (sym (part.split ∙ (ap (λ left. part.done ++ left) (none-left part.ends) ∙ append-nil part.done)))
        (visits old part.done visit new part.visited good at);
  }
    where
      none-left : ((part.rest ≡ []) ⊎ (is_over scope visit ≡ true)) → part.rest ≡ []
      none-left (inl nothing) = nothing
      none-left (inr over) = absurd (true≢false (sym over ∙ goes-on scope visit good))

  -- what was visited of what was found, by what came of finding it
  pub record IsVisitedOf (paths : List (Bor (List ℕ))) (found : List Waiting) (finding : Visit) (match : Bool) (new : E)
      : Type 0 where
    pub good : IsGood (finding_scope scope) finding
    pub searched : Bool
    pub sorted : IsSorted found match searched new
    pub some : scope.lists_files ≡ false → is_bare paths ≡ true → scope.searches_input ≡ false → searched ≡ true

  found-visited : (paths : List (Bor (List ℕ))) (found : List Waiting) (finding : Visit) (old : E) (visit : Visit)
      (new : E)
      → IsFoundVisited folders opens identifies step has_failed scope paths found finding old visit new
      → IsGood scope visit → First old → IsVisitedOf paths found finding visit.has_match new
  found-visited paths found finding old _ _ (of_unfound_all failed) good at =
      absurd (true≢false (sym failed ∙ ap is_some good.no_failure))
  found-visited paths found finding old visit new (of_found_all next _ {mid} unfailed visited after) good at =
      either (is_bare paths && not scope.searches_input)
      (λ bare none_said. either (is_none next.failure && not next.has_searched && not scope.lists_files)
      (λ none (failure, said, missed). absurd (true≢false (sym (ap (λ (v : Visit). v.has_error) missed)
      ∙ good.no_error)))
      (λ some (same, moved). by same moved (λ searches is_bare reads.
      has-searched next.failure next.has_searched scope.lists_files some
      (sym (ap (λ (v : Visit). v.failure) same) ∙ good.no_failure) searches)) none_said)
      (λ other (same, moved). by same moved (λ searches bare unread. absurd (true≢false
      (sym (both bare unread) ∙ other)))) after
    where
      both : is_bare paths ≡ true → scope.searches_input ≡ false → (is_bare paths && not scope.searches_input) ≡ true
      both bare unread = rw (bare, unread) refl

      by : visit ≡ record next { has_error = next.has_error || finding.has_error } → new ≡ mid
          → (scope.lists_files ≡ false → is_bare paths ≡ true → scope.searches_input ≡ false → next.has_searched ≡ true)
          → IsVisitedOf paths found finding visit.has_match new
      by same moved some =
          let unread = sym (ap (λ (v : Visit). v.has_error) same) ∙ good.no_error in
          let good_next : IsGood scope next = record {
            no_error = first-false next.has_error finding.has_error unread;
            no_failure = sym (ap (λ (v : Visit). v.failure) same) ∙ good.no_failure;
            goes_on = sym (ap (λ (v : Visit). ends_with_match scope.quiet && v.has_match) same)
                ∙ good.goes_on;
          } in
          record {
            good = record {
              no_error = second-false next.has_error finding.has_error unread;
              no_failure = none-of finding.failure unfailed;
              goes_on = refl;
            };
            searched = next.has_searched;
            sorted = subst (λ m. IsSorted found m next.has_searched new)
                (sym (ap (λ (v : Visit). v.has_match) same))
                (subst (IsSorted found next.has_match next.has_searched) (sym moved)
                (sorted-visited found old next mid visited good_next at));
            some = some;
          }

  -- what was found and visited then
  pub record IsLate (choices : Choices) (paths : List (Bor (List ℕ))) (match : Bool) (new : E) : Type 0 where
    pub sorted : List Waiting
    pub are_sorted : AreFoundSorted folders finds scope choices paths sorted
    pub searched : Bool
    pub gives : Gives sorted match searched new
    pub some : scope.lists_files ≡ false → is_bare paths ≡ true → scope.searches_input ≡ false → searched ≡ true

  pub late-visited : (choices : Choices) (paths : List (Bor (List ℕ))) (old : E) (total : Visit) (new : E)
      → AreVisitedLate folders finds opens identifies step has_failed scope choices paths old total new
      → IsGood scope total → First old → IsLate choices paths total.has_match new
  late-visited choices paths old total new is good at = by is.failure is.said is.visited
    where
      by : (failure : Option Error) → AreWritten step old (length is.collector.texts.items) failure is.mid
          → MatchOption failure (IsFoundVisited folders opens identifies step has_failed scope paths
          is.collector.found.items is.finding is.mid total new)
          (λ error. (total ≡ record no_visit { failure = Some error }) × (new ≡ is.mid))
          → IsLate choices paths total.has_match new
      by (Some error) failed (same, moved) = absurd (some-none total.failure error
          (ap (λ (v : Visit). v.failure) same) good.no_failure)
      by None none visited =
          let of = found-visited paths is.collector.found.items is.finding is.mid total new visited good
          (said _ old is.mid none at) in
          record {
            sorted = of.sorted.sorted;
            are_sorted = record {
              found = is.collector.found.items;
              all = all-found folders finds opens identifies scope choices paths is.begun is.finding is.collector
                  is.finds_all of.good is.begins;
              ranked = of.sorted.ranked;
              are_ranked = of.sorted.are_ranked;
              in_order = of.sorted.in_order;
            };
            searched = of.searched;
            gives = of.sorted.gives;
            some = of.some;
          }
