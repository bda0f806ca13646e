-- What a run has found before it searches, if nothing failed.
use Rattle.std.proofs.Common.{◌≡◌, ◌∙◌, ℕ, Bool, false, List, [], ◌∷◌, ◌++◌, ap, refl, subst, sym}
use Rattle.std.specs.Prelude.{◌||◌, Option, Result, codes, not}
use Rattle.std.specs.Borrow.{Bor}
use Rattle.std.specs.declared.io.Error.{Error}
use Rattle.grep_printer.specs.declared.printed_search.Searched.{Searched}
use Rattle.linegrep_cli.proofs.FoundLemmas.{ListsKeep, WithOne, all-found as AllFound}
use Rattle.linegrep_cli.proofs.VisitTextLemmas.{IsGood, search-ended}
use Rattle.linegrep_cli.specs.EngineCalls.{EngineCall}
use Rattle.linegrep_cli.specs.FoundFiles.{AreAllFound}
use Rattle.linegrep_cli.specs.OperandRuns.{AreAllVisited, IsKept, IsListed, finding_scope}
use Rattle.linegrep_cli.specs.WaitingFiles.{IsAt, IsEmpty, IsCollecting, IsFound}
use Rattle.linegrep_cli.specs.declared.late.Collector.{Collector}
use Rattle.linegrep_cli.specs.declared.late.Target.{Target}
use Rattle.linegrep_cli.specs.declared.late.Target.TheVariants.{File as FileTarget, StandardInput}
use Rattle.linegrep_cli.specs.declared.late.Waiting.{Waiting}
use Rattle.linegrep_cli.specs.declared.scope.Scope.{Scope}
use Rattle.linegrep_cli.specs.declared.visit.Visit.{Visit}
use Rattle.linegrep_files.specs.FolderFacts.{FolderFacts}
use Rattle.linegrep_files.specs.declared.choices.Choices.{Choices}
use Rattle.linegrep_files.specs.declared.file_id.FileId.{FileId}

-- a collector, by whether searches end at binary bytes, and by what was found. That counts as no match
pub record Has (quits : Bool) (found : List Waiting) (match : Bool) (collector : Collector) : Type 0 where
  pub quits_is : collector.quits ≡ quits
  pub found_is : collector.found.items ≡ found

abbrev full : Collector → Bool
full collector = collector.is_full

module _ (F : Type 0) (scope : Scope) where
  abbrev Collecting : Collector → EngineCall F → Collector → Type 0
  Collecting = IsCollecting

  abbrev One : Target → List ℕ → Bool → List Waiting → Bool → Collector → Type 0
  One = WithOne IsAt Collecting full (finding_scope scope) Has

  one-found : (target : Target) (path : List ℕ) (quits : Bool) (found : List Waiting) (match other : Bool)
      (old mid new : Collector)
      (searched : Searched) (visit : Visit) → IsFound target path old searched mid
      → IsKept Collecting full (finding_scope scope) mid searched visit new → IsGood (finding_scope scope) visit
      → Has quits found match old → One target path quits found other new
  one-found target path quits found match other old mid new searched visit is after good has =
      let (ok, same) = search-ended Collecting full (finding_scope scope) mid new searched.result visit after.ended good in
      let (waiting, is_at, more, room) = is.kept ok in (
        waiting,
        is_at,
        record {
          quits_is = ap (λ (f : Collector). f.quits) same ∙ is.quits ∙ has.quits_is;
          found_is = ap (λ (f : Collector). f.found.items) same ∙ more ∙ ap (λ l. l ++ waiting ∷ []) has.found_is;
        },
      )

  pub keep : ListsKeep IsAt Collecting full (finding_scope scope) Has
  keep = record {
    file = listed;
    input = λ found match old visit new (name, is_name, searched, mid, searching, after) good has.
        one-found StandardInput (codes "<stdin>") false found match (match || visit.has_match) old mid new searched visit
        searching after good has;
    text = λ quits found match old new moved has. record {
      quits_is = moved.quits ∙ has.quits_is;
      found_is = ap (λ found. found.items) moved.found ∙ has.found_is;
    };
    quits = λ quits next found match old new is has. record {
      quits_is = ap (λ (f : Collector). f.quits) is;
      found_is = ap (λ (f : Collector). f.found.items) is ∙ has.found_is;
    };
  }
    where
      -- a file is found
      listed : (path : Bor (List ℕ)) (quits : Bool) (found : List Waiting) (match : Bool) (old : Collector)
          (visit : Visit) (new : Collector)
          → IsListed Collecting full (finding_scope scope) path old visit new → IsGood (finding_scope scope) visit
          → Has quits found match old → One (FileTarget quits) path.now quits found (match || visit.has_match) new
      listed path quits found match old visit new (searched, mid, listing, after) good has =
          subst (λ q. One (FileTarget q) path.now quits found (match || visit.has_match) new) has.quits_is
          (one-found (FileTarget old.quits) path.now quits found match (match || visit.has_match) old mid new searched
          visit listing after good has)

module _ {F : Type 0} (folders : FolderFacts) (finds : List ℕ → Result Bool Error → Type 0)
    (opens : List ℕ → Result F Error → Type 0) (identifies : F → Option FileId → Type 0) (scope : Scope) where
  -- all that is found, if nothing failed
  pub all-found : (choices : Choices) (paths : List (Bor (List ℕ))) (old : Collector) (total : Visit) (new : Collector)
      → AreAllVisited folders finds opens identifies IsCollecting full (finding_scope scope) choices paths old total new
      → IsGood (finding_scope scope) total → IsEmpty old
      → AreAllFound IsAt folders finds scope.route (not scope.searches_binary) scope.searches_input choices paths
      new.found.items
  all-found choices paths old total new visited good empty =
      let (found, are, has) = AllFound IsAt folders finds opens identifies IsCollecting full (finding_scope scope) Has
      (keep F scope) refl choices paths old total new visited good
      (record { quits_is = empty.quits; found_is = empty.found }) in
      subst (AreAllFound IsAt folders finds scope.route (not scope.searches_binary) scope.searches_input choices paths)
      (sym has.found_is) are
