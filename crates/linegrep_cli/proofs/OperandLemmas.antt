-- The operands that a run has visited, and what it visits of a folder.
use Rattle.std.proofs.Common.{◌≡◌, ℕ, ◌+◌, ◌<◌, Bool, true, false, List, [], ◌∷◌, ◌++◌, Option, Result, take, drop}
use Rattle.std.proofs.Common.{ap, get_or, refl, subst, sym, ◌∙◌, ◌⊎◌, inl, inr, length}
use Rattle.std.specs.Prelude.{◌&&◌, ◌||◌, ◌≢◌, MatchBool, is_some}
use Rattle.std.specs.Borrow.{Bor}
use Rattle.std.specs.declared.io.Error.{Error}
use Rattle.std.proofs.lemmas.Bool.{true≢false}
use Rattle.std.proofs.lemmas.List.{take-append-drop, take_more}
use Rattle.linegrep_cli.specs.EngineCalls.{EngineCall}
use Rattle.linegrep_cli.specs.OperandRuns.{AreAllVisited, AreVisited, IsFolderVisited, IsNamedVisited}
use Rattle.linegrep_cli.specs.OperandRuns.{IsOperandVisited, IsWalkedTo, ends_with_match, is_escaped}
use Rattle.linegrep_cli.specs.OperandRuns.{is_input, is_over, next_operand, no_visit, of_file_at, of_folder}
use Rattle.linegrep_cli.specs.OperandRuns.{of_listing, of_missing, of_unfound, visited_then}
use Rattle.linegrep_cli.specs.OperandRuns.{AreWaitingVisited, IsWaitingVisited, next_waiting}
use Rattle.linegrep_cli.specs.declared.late.Waiting.{Waiting}
use Rattle.linegrep_cli.specs.declared.scope.Scope.{Scope}
use Rattle.linegrep_cli.specs.declared.visit.Visit.{Visit}
use Rattle.linegrep_files.specs.Choices.{AreAlike}
use Rattle.linegrep_files.specs.FolderFacts.{FolderFacts}
use Rattle.linegrep_files.specs.Folders.{name_of}
use Rattle.linegrep_files.specs.Trees.{AreAllOf, AreFirstOf, are_first, are_none}
use Rattle.linegrep_files.specs.declared.choices.Choices.{Choices}
use Rattle.linegrep_files.specs.declared.entry.Entry.{Entry}
use Rattle.linegrep_files.specs.declared.file_id.FileId.{FileId}
use Rattle.linegrep_files.specs.declared.walk.Route.{Route}
use Rattle.linegrep_files.proofs.AlikeLemmas.{taken-by}

-- a run that has visited nothing isn't over
pub not-over : (scope : Scope) → is_over scope no_visit ≡ false
not-over scope = elim (ends_with_match scope.quiet) as (λ ends. (ends && false) ≡ false) [ true ↦ refl | false ↦ refl ]

-- if a run isn't over after what was visited next, that alone doesn't end it
pub next-over : (scope : Scope) (total next after : Visit) → after ≡ visited_then total next
    → is_over scope after ≡ false → is_over scope next ≡ false
next-over scope total next after is on =
    alone (is_some next.failure) (ends_with_match scope.quiet) total.has_match next.has_match
    (sym (ap (is_over scope) is) ∙ on)
  where
    alone : (failed ends before now : Bool) → (failed || (ends && (before || now))) ≡ false
        → (failed || (ends && now)) ≡ false
    alone true ends before now on = on
    alone false false before now on = on
    alone false true before false on = refl
    alone false true false true on = on
    alone false true true true on = on

-- what is visited of a folder by choices is visited by those that differ in ignore files of folders
first-of : (folders : FolderFacts) (route : Route) (old choices : Choices) (folder : List ℕ)
    (visited : List Entry) → AreAlike old choices → AreFirstOf folders route choices folder visited
    → AreFirstOf folders route old folder visited
first-of folders route old choices folder _ alike are_none = are_none
first-of folders route old choices folder visited alike (are_first begun path root are is root_is first) =
    are_first begun path root (taken-by folders (name_of folder) old choices begun alike are) is root_is first

all-of : (folders : FolderFacts) (route : Route) (old choices : Choices) (folder : List ℕ)
    (visited : List Entry) → AreAlike old choices → AreAllOf folders route choices folder visited
    → AreAllOf folders route old folder visited
all-of folders route old choices folder visited alike are = record {
  begun = are.begun;
  are_begun = taken-by folders (name_of folder) old choices are.begun alike are.are_begun;
  path = are.path;
  is_path = are.is_path;
  root = are.root;
  is_root = are.is_root;
  after = are.after;
  are_visited = are.are_visited;
}

module _ {E F : Type 0} (folders : FolderFacts) (finds : List ℕ → Result Bool Error → Type 0)
    (opens : List ℕ → Result F Error → Type 0) (identifies : F → Option FileId → Type 0)
    (step : E → EngineCall F → E → Type 0) (has_failed : E → Bool) (scope : Scope)
    (first choices : Choices) (alike : AreAlike first choices) where
  walked-to : (folder : List ℕ) (visited : List Entry) (visit : Visit)
      → IsWalkedTo folders scope choices folder visited visit
      → IsWalkedTo folders scope first folder visited visit
  walked-to folder visited visit walked = elim walked [
    | inl all ↦ inl (all-of folders scope.route first choices folder visited alike all)
    | inr part ↦ inr (part.0, first-of folders scope.route first choices folder visited alike part.1)
  ]

  folder-by : (folder : List ℕ) (old : E) (visit : Visit) (new : E)
      → IsFolderVisited folders opens identifies step has_failed scope choices folder old visit new
      → IsFolderVisited folders opens identifies step has_failed scope first folder old visit new
  folder-by folder old visit new is = record {
    first = is.first;
    last = is.last;
    begins = is.begins;
    tree = record {
      visited = is.tree.visited;
      total = is.tree.total;
      entries = is.tree.entries;
      walked = walked-to folder is.tree.visited visit is.tree.walked;
      visit_is = is.tree.visit_is;
    };
    ends = is.ends;
  }

  named-by : (path : Bor (List ℕ)) (old : E) (visit : Visit) (new : E)
      → IsNamedVisited folders finds opens identifies step has_failed scope choices path old visit new
      → IsNamedVisited folders finds opens identifies step has_failed scope first path old visit new
  named-by path old visit new (of_folder found visited) =
      of_folder found (folder-by path.now old visit new visited)
  named-by path old visit new (of_file_at found listed visited) = of_file_at found listed visited
  named-by path old visit new (of_unfound error found listed visited) = of_unfound error found listed visited
  named-by path old visit new (of_listing found listed visited) = of_listing found listed visited
  named-by path old visit new (of_missing error found listed visited) = of_missing error found listed visited

  pub operand-by : (path : Bor (List ℕ)) (old : E) (visit : Visit) (new : E)
      → IsOperandVisited folders finds opens identifies step has_failed scope choices path old visit new
      → IsOperandVisited folders finds opens identifies step has_failed scope first path old visit new
  operand-by path old visit new visited = either (is_input path.now) _ _ _
      (either (is_escaped path.now) _ _ _ (named-by path old visit new)) visited
    where
      either : (is : Bool) (P Q R : Type 0) → (Q → R) → MatchBool is P Q → MatchBool is P R
      either true P Q R by here = here
      either false P Q R by here = by here

module _ {E F : Type 0} (folders : FolderFacts) (finds : List ℕ → Result Bool Error → Type 0)
    (opens : List ℕ → Result F Error → Type 0) (identifies : F → Option FileId → Type 0)
    (step : E → EngineCall F → E → Type 0) (has_failed : E → Bool) (scope : Scope) (first : Choices) where
  -- an operand that names a folder or a file is visited as that
  pub named-visited : (path : Bor (List ℕ)) (old : E) (visit : Visit) (new : E)
      → is_input path.now ≡ false → is_escaped path.now ≡ false
      → IsNamedVisited folders finds opens identifies step has_failed scope first path old visit new
      → IsOperandVisited folders finds opens identifies step has_failed scope first path old visit new
  named-visited path old visit new named text visited = other (is_input path.now) named _ _
      (other (is_escaped path.now) text _ _ visited)
    where
      other : (is : Bool) → is ≡ false → (P Q : Type 0) → Q → MatchBool is P Q
      other false isnt P Q here = here
      other true isnt P Q here = absurd (true≢false isnt)

  -- some first operands are all that are visited, if they are all, or the run is over
  pub first-visited : (paths : List (Bor (List ℕ))) → paths ≢ [] → (n : ℕ) (old : E) (total : Visit) (new : E)
      → AreVisited folders finds opens identifies step has_failed scope first old (take n paths) total new
      → (drop n paths ≡ []) ⊎ (is_over scope total ≡ true)
      → AreAllVisited folders finds opens identifies step has_failed scope first paths old total new
  first-visited [] some n old total new visited ended = absurd (some refl)
  first-visited (path ∷ later) some n old total new visited ended =
      (take n (path ∷ later), drop n (path ∷ later), sym (take-append-drop n (path ∷ later)), visited, ended)

  -- the next operand is visited
  pub next-visited : (choices : Choices) → AreAlike first choices
      → (paths : List (Bor (List ℕ))) (i : ℕ) (unknown : Bor (List ℕ)) (old mid new : E)
      (total next after : Visit) → i < length paths
      → AreVisited folders finds opens identifies step has_failed scope first old (take i paths) total mid
      → is_over scope total ≡ false
      → IsOperandVisited folders finds opens identifies step has_failed scope choices (get_or paths i unknown)
      mid next new
      → after ≡ visited_then total next
      → AreVisited folders finds opens identifies step has_failed scope first old (take (i + 1) paths) after new
  next-visited choices alike paths i unknown old mid new total next after within visited goes_on here is =
      subst (λ done. AreVisited folders finds opens identifies step has_failed scope first old done after new)
      (sym (take_more paths i unknown within))
      (subst (λ (sum : Visit). AreVisited folders finds opens identifies step has_failed scope first old
      (take i paths ++ get_or paths i unknown ∷ []) sum new) (sym is)
      (next_operand (take i paths) total next (get_or paths i unknown) visited goes_on
      (operand-by folders finds opens identifies step has_failed scope first choices alike
      (get_or paths i unknown) mid next new here)))

module _ {E F : Type 0} (opens : List ℕ → Result F Error → Type 0) (identifies : F → Option FileId → Type 0)
    (step : E → EngineCall F → E → Type 0) (has_failed : E → Bool) (scope : Scope) where
  -- the next that waits is visited
  pub next-waits : (sorted : List Waiting) (i : ℕ) (unknown one : Waiting) (old mid new : E)
      (total next after : Visit) → i < length sorted → get_or sorted i unknown ≡ one
      → AreWaitingVisited opens identifies step has_failed scope old (take i sorted) total mid
      → is_over scope total ≡ false
      → IsWaitingVisited opens identifies step has_failed scope one mid next new
      → after ≡ visited_then total next
      → AreWaitingVisited opens identifies step has_failed scope old (take (i + 1) sorted) after new
  next-waits sorted i unknown one old mid new total next after within is_one visited goes_on here is =
      subst (λ done. AreWaitingVisited opens identifies step has_failed scope old done after new)
      (sym (take_more sorted i unknown within ∙ ap (λ w. take i sorted ++ w ∷ []) is_one))
      (subst (λ (sum : Visit). AreWaitingVisited opens identifies step has_failed scope old
      (take i sorted ++ one ∷ []) sum new) (sym is)
      (next_waiting (take i sorted) total next one visited goes_on here))
