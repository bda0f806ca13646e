-- What a run has searched that finds all of it first, if nothing failed.
use Rattle.std.proofs.Common.{◌<◌, length}
use Rattle.std.proofs.Common.{◌≡◌, ℕ, Bool, true, false, List, [], refl}
use Rattle.std.specs.Prelude.{MatchBool, None, Option, Result}
use Rattle.std.specs.Borrow.{Bor}
use Rattle.std.specs.declared.io.Error.{Error}
use Rattle.linegrep_cli.proofs.LateLemmas.{late-visited as LateVisited}
use Rattle.linegrep_cli.proofs.VisitTextLemmas.{IsGood, StepsKeep, all-visited, all-waiting-visited, said-all}
use Rattle.linegrep_cli.specs.EngineCalls.{EngineCall}
use Rattle.linegrep_cli.specs.OperandRuns.{AreAllVisited, AreVisitedInOrder, AreVisitedLate}
use Rattle.linegrep_cli.specs.OperandRuns.{seeks_unmatched}
use Rattle.linegrep_cli.specs.RunInputs.{AreOfWaiting, AreSearched, AreSearchedInTurn, AreSearchedLate}
use Rattle.linegrep_cli.specs.SearchTexts.{Input}
use Rattle.linegrep_cli.specs.declared.late.Waiting.{Waiting}
use Rattle.linegrep_cli.specs.declared.scope.Scope.{Scope}
use Rattle.linegrep_cli.specs.declared.visit.Visit.{Visit}
use Rattle.linegrep_files.specs.FolderFacts.{FolderFacts}
use Rattle.linegrep_files.specs.Orders.{is_late}
use Rattle.linegrep_files.specs.declared.choices.Choices.{Choices}
use Rattle.linegrep_files.specs.declared.file_id.FileId.{FileId}

module _ {E F R : Type 0} (folders : FolderFacts) (finds : List ℕ → Result Bool Error → Type 0)
    (opens : List ℕ → Result F Error → Type 0) (identifies : F → Option FileId → Type 0)
    (step : E → EngineCall F → E → Type 0) (has_failed : E → Bool) (scope : Scope)
    (IsFile : Option (Bor (List ℕ)) → F → Bool → Input → Type 0)
    (IsReader : Option (Bor (List ℕ)) → R → Input → R → Type 0)
    (At : Bool → List Input → Bool → R → E → Type 0)
    (kept : StepsKeep folders finds opens identifies step has_failed scope IsFile IsReader At)
    (sought : seeks_unmatched scope.quiet ≡ false) (searches : scope.lists_files ≡ false)
    (reads : scope.lists_input ≡ false) where
  -- what was searched of what waited
  abbrev Gives : R → List Waiting → Bool → Bool → E → Type 0
  Gives first sorted match searched new = (inputs : List Input) × (last : R)
      × AreOfWaiting folders finds opens identifies scope IsFile IsReader first sorted inputs last
      × (searched ≡ true → 0 < length inputs) × At false inputs match last new

  late-visited : (first : R) (choices : Choices) (paths : List (Bor (List ℕ))) (old : E) (total : Visit) (new : E)
      → AreVisitedLate folders finds opens identifies step has_failed scope choices paths old total new
      → IsGood scope total → At false [] false first old
      → (inputs : List Input) × (last : R)
      × AreSearchedLate folders finds opens identifies scope IsFile IsReader choices paths first inputs last
      × At false inputs total.has_match last new
  late-visited first choices paths old total new is good at =
      let late = LateVisited folders finds opens identifies step has_failed scope (At false [] false first)
      (Gives first) (λ count old new said at. said-all folders finds opens identifies step has_failed scope IsFile
      IsReader At kept sought searches reads false [] false first old count None new said refl at)
      (λ old done total new visited good at. all-waiting-visited folders finds opens identifies step has_failed scope
      IsFile IsReader At kept sought searches reads first old done total new visited good at)
      choices paths old total new is good at in
      let (inputs, last, are, some, now) = late.gives in (
        inputs,
        last,
        record {
          sorted = late.sorted;
          are_sorted = late.are_sorted;
          searched = are;
          some = λ bare unread. some (late.some searches bare unread);
        },
        now,
      )

  -- all that is visited, in the order that is asked for: what a run searches, if nothing failed
  pub ordered-visited : (first : R) (choices : Choices) (paths : List (Bor (List ℕ))) (old : E) (total : Visit)
      (new : E)
      → AreVisitedInOrder folders finds opens identifies step has_failed scope choices paths old total new
      → IsGood scope total → At false [] false first old
      → (inputs : List Input) × (last : R)
      × AreSearched folders finds opens identifies scope IsFile IsReader choices paths first inputs last
      × At false inputs total.has_match last new
  ordered-visited first choices paths old total new visited good at = by (is_late scope.order) visited
    where
      by : (late : Bool)
          → MatchBool late (AreVisitedLate folders finds opens identifies step has_failed scope choices paths old total
          new)
          (AreAllVisited folders finds opens identifies step has_failed scope choices paths old total new)
          → (inputs : List Input) × (last : R)
          × MatchBool late (AreSearchedLate folders finds opens identifies scope IsFile IsReader choices paths first
          inputs last)
          (AreSearchedInTurn folders finds opens identifies scope IsFile IsReader choices paths first inputs last)
          × At false inputs total.has_match last new
      by true visited = late-visited first choices paths old total new visited good at
      by false visited = all-visited folders finds opens identifies step has_failed scope IsFile IsReader At kept
          sought searches reads first choices paths old total new visited good at
