-- How a run ends whose status isn't 2: nobody reads its output any more, or all was visited and written.
use Rattle.std.proofs.Common.{◌≡◌, ◌∙◌, ◌⊎◌, ℕ, Bool, true, false, List, ap, inl, inr, refl, subst, sym, true≢false}
use Rattle.std.proofs.Math.Bool.{and-false}
use Rattle.std.proofs.lemmas.Bool.{eqb-true}
use Rattle.std.specs.Prelude.{◌≢◌, ◌&&◌, ◌==◌, if◌then◌else◌, is_some, length, MatchOption, None, not, Option, Some, Result}
use Rattle.std.specs.Prelude.{Ok, Err}
use Rattle.std.specs.Borrow.{Bor}
use Rattle.std.specs.IoError.{error_kind}
use Rattle.std.specs.declared.io.Error.{Error}
use Rattle.std.specs.declared.io.ErrorKind.TheVariants.{BrokenPipe}
use Rattle.linegrep_cli.proofs.VisitSoundLemmas.{CallsKeep, Ends, all-said, ordered-ended}
use Rattle.linegrep_cli.proofs.VisitTextLemmas.{IsGood}
use Rattle.linegrep_cli.specs.EngineCalls.{EngineCall, finishes}
use Rattle.linegrep_cli.specs.OperandRuns.{AreOperandsSearched, AreSaid, AreVisitedInOrder, AreWritten, IsFailing, IsRunEnd}
use Rattle.linegrep_cli.specs.OperandRuns.{IsRunOver, ends_with_match, of_closed, of_end, of_failure, of_other, of_unwritten, status_of}
use Rattle.linegrep_cli.specs.OptionUses.{has}
use Rattle.linegrep_cli.specs.RunScopes.{quiet_of}
use Rattle.linegrep_cli.specs.WrittenRuns.{VisitsAll}
use Rattle.linegrep_cli.specs.declared.options.Options.{Options}
use Rattle.linegrep_cli.specs.declared.scope.Scope.{Scope}
use Rattle.linegrep_cli.specs.declared.visit.Visit.{Visit}
use Rattle.linegrep_files.specs.Choices.{SaysTheSame, warnings_of}
use Rattle.linegrep_files.specs.FolderFacts.{FolderFacts}
use Rattle.linegrep_files.specs.declared.choices.Choices.{Choices}
use Rattle.linegrep_files.specs.declared.file_id.FileId.{FileId}
use Rattle.linegrep_options.specs.declared.option_id.OptionId.TheVariants.{FilesWithoutMatch}
use Rattle.linegrep_options.specs.declared.option_id.OptionId.TheVariants.{Quiet}

none-if : {T : Type 0} (is : Bool) (value : T) → is ≡ false → (if is then Some value else None) ≡ None
none-if true value isnt = absurd (true≢false isnt)
none-if false value isnt = refl

-- nothing went wrong in a run, and its status says whether something was found
abbrev pub IsGoodEnd : Scope → Visit → Type 0
IsGoodEnd scope total =
    IsGood scope total × (status_of scope total ≡ (if total.has_match then 0 else 1))

-- so it is if the status isn't 2, and the first match doesn't end the run
good-status : (scope : Scope) (total : Visit) → total.failure ≡ None → scope.quiet ≡ None
    → status_of scope total ≢ 2 → IsGoodEnd scope total
good-status scope total whole unquiet other =
    let is = ap (λ quiet. if total.has_error && not (is_some quiet && total.has_match) then 2
    else if total.has_match then 0 else 1) unquiet in
    let (none, same) = by total.has_error total.has_match (λ wrong. other (is ∙ wrong)) in (
      record {
        no_error = none;
        no_failure = whole;
        goes_on = ap (λ quiet. ends_with_match quiet && total.has_match) unquiet;
      },
      is ∙ same,
    )
  where
    ending : Bool → Bool → ℕ
    ending error match = if error && not (false && match) then 2 else if match then 0 else 1

    by : (error match : Bool) → ending error match ≢ 2
        → (error ≡ false) × (ending error match ≡ (if match then 0 else 1))
    by true match other = absurd (other refl)
    by false match other = (refl, refl)

-- so it is if nothing was found
none-status : (scope : Scope) (total : Visit) → total.failure ≡ None → status_of scope total ≡ 1
    → IsGoodEnd scope total
none-status scope total whole one =
    let (right, none) = by (is_some scope.quiet) total.has_error total.has_match one in (
      record {
        no_error = right;
        no_failure = whole;
        goes_on = ap (λ match. ends_with_match scope.quiet && match) none
            ∙ and-false (ends_with_match scope.quiet);
      },
      one ∙ ap (λ match. if match then 0 else 1) (sym none),
    )
  where
    ending : Bool → Bool → Bool → ℕ
    ending quiet error match = if error && not (quiet && match) then 2 else if match then 0 else 1

    by : (quiet error match : Bool) → ending quiet error match ≡ 1
        → (error ≡ false) × (match ≡ false)
    by true true true is = absurd cc
    by true true false is = absurd cc
    by true false true is = absurd cc
    by true false false is = (refl, refl)
    by false true match is = absurd cc
    by false false true is = absurd cc
    by false false false is = (refl, refl)

-- a run has visited all that its options ask for, or it hasn't
pub visits-or-not : (options : Options) (status : ℕ)
    → VisitsAll options status ⊎ (VisitsAll options status → ⊥)
visits-or-not options status =
    by (has options Quiet) (has options FilesWithoutMatch) (status == 1) refl refl refl
  where
    by : (quiet unmatched one : Bool) → has options Quiet ≡ quiet
        → has options FilesWithoutMatch ≡ unmatched → (status == 1) ≡ one
        → VisitsAll options status ⊎ (VisitsAll options status → ⊥)
    by false unmatched one loud seeks is = inl (inl loud)
    by true true one quiet seeks is = inr (λ visits. elim visits [
      | inl loud ↦ true≢false (sym quiet ∙ loud)
      | inr (sought, ends) ↦ true≢false (sym seeks ∙ sought)
    ])
    by true false true quiet seeks is = inl (inr (seeks, eqb-true status 1 is))
    by true false false quiet seeks is = inr (λ visits. elim visits [
      | inl loud ↦ true≢false (sym quiet ∙ loud)
      | inr (sought, ends) ↦ true≢false (sym (ap (λ n. n == 1) ends) ∙ is)
    ])

-- so it is if a run has visited all that its options ask for
pub good-end : (options : Options) (scope : Scope) (total : Visit) (status : ℕ) → scope.quiet ≡ quiet_of options
    → total.failure ≡ None → status ≡ status_of scope total → status ≢ 2 → VisitsAll options status
    → IsGoodEnd scope total
good-end options scope total status scoped whole is other (inl loud) =
    good-status scope total whole (scoped ∙ none-if (has options Quiet) _ loud) (subst (λ s. s ≢ 2) is other)
good-end options scope total status scoped whole is other (inr (seeks, one)) =
    none-status scope total whole (sym is ∙ one)

module _ {E F : Type 0} (folders : FolderFacts) (finds : List ℕ → Result Bool Error → Type 0)
    (opens : List ℕ → Result F Error → Type 0) (identifies : F → Option FileId → Type 0)
    (step : E → EngineCall F → E → Type 0) (has_failed : E → Bool) (scope : Scope) (Sound : E → Type 0)
    (Cut : Error → E → Type 0) (keep : CallsKeep step has_failed Sound Cut)
    (unfailed : (engine : E) → Sound engine → has_failed engine ≡ false)
    (finishing : (old new : E) (error : Error) → Sound old → step old (finishes (Err error)) new
    → Sound new ⊎ Cut error new)
    (choices : Choices) (paths : List (Bor (List ℕ))) (first : E) (status : ℕ) (last : E) (other : status ≢ 2) where
  -- nobody reads the output any more
  abbrev pub IsCutShort : Type 0
  IsCutShort = (error : Error) × (error_kind error ≡ BrokenPipe) × Cut error last

  -- all was visited, and then written
  pub record IsWhole : Type 0 where
    pub left : Choices
    pub same : SaysTheSame choices left
    pub warned : ℕ
    pub begun : E
    pub said : AreWritten step first warned None begun
    pub total : Visit
    pub mid : E
    pub visited : AreVisitedInOrder folders finds opens identifies step has_failed scope left paths begun total mid
    pub no_failure : total.failure ≡ None
    pub finished : step mid (finishes (Ok tt)) last
    pub status_is : status ≡ status_of scope total

  -- a run that fails has status 2, unless nobody reads its output any more
  abbrev Failed : Error → E → Type 0
  Failed error mid = Sound mid ⊎ (Cut error mid ⊎ (error_kind error ≢ BrokenPipe))

  closed : (error : Error) (mid : E) → Failed error mid → IsFailing step has_failed scope error mid status last
      → IsCutShort
  closed error mid ended failing = by status last failing other refl
    where
      by : (status-then : ℕ) (end : E) → IsFailing step has_failed scope error mid status-then end → status-then ≢ 2
          → end ≡ last → IsCutShort
      by _ _ (of_closed failed broken) other same = elim ended [
        | inl sound ↦ absurd (true≢false (sym failed ∙ unfailed mid sound))
        | inr (inl cut) ↦ (error, broken, subst (Cut error) same cut)
        | inr (inr unbroken) ↦ absurd (unbroken broken)
      ]
      by _ _ (of_other said moved kind) other same = absurd (other refl)

  abbrev EndsWith : Option Error → E → Type 0
  EndsWith = Ends step has_failed Sound Cut

  ran : (left : Choices) → SaysTheSame choices left → (warned : ℕ) (begun : E)
      → AreWritten step first warned None begun → Sound begun
      → AreOperandsSearched folders finds opens identifies step has_failed scope left paths begun status last
      → IsCutShort ⊎ IsWhole
  ran left same warned begun said sound searched = by status searched.ended refl
    where
      ended : EndsWith searched.total.failure searched.mid
      ended = ordered-ended folders finds opens identifies step has_failed scope Sound Cut keep left paths begun
          searched.total searched.mid searched.visited sound

      by : (status-then : ℕ) → IsRunEnd step has_failed scope searched.total searched.mid status-then last
          → status ≡ status-then → IsCutShort ⊎ IsWhole
      by _ (of_failure error is_error failing) is = inl (closed error searched.mid
          (subst (λ f. EndsWith f searched.mid) is_error ended)
          (subst (λ s. IsFailing step has_failed scope error searched.mid s last) (sym is) failing))
      by _ (of_end none finished) is = inr (record {
        left = left;
        same = same;
        warned = warned;
        begun = begun;
        said = said;
        total = searched.total;
        mid = searched.mid;
        visited = searched.visited;
        no_failure = none;
        finished = finished;
        status_is = is;
      })
      by _ (of_unwritten {mid = mid} error none unwritten failing) is = inl (closed error mid
          (elim (finishing searched.mid mid error (subst (λ f. EndsWith f searched.mid) none ended) unwritten) [
            | inl still ↦ inl still
            | inr cut ↦ inr (inl cut)
          ])
          (subst (λ s. IsFailing step has_failed scope error mid s last) (sym is) failing))

  pub run-ended : IsRunOver folders finds opens identifies step has_failed scope choices paths first status last
      → Sound first → IsCutShort ⊎ IsWhole
  run-ended run sound = begins run.failure run.said (all-said folders finds opens identifies step has_failed scope
      Sound Cut keep first _ run.failure run.begun run.said sound) run.run
    where
      begins : (failure : Option Error) → AreSaid step scope first (length (warnings_of choices)) failure run.begun → EndsWith failure run.begun
          → MatchOption failure (AreOperandsSearched folders finds opens identifies step has_failed scope run.left paths
          run.begun status last) (λ error. IsFailing step has_failed scope error run.begun status last)
          → IsCutShort ⊎ IsWhole
      begins None said sound searched = ran run.left run.same _ run.begun said sound searched
      begins (Some error) said ended failing = inl (closed error run.begun ended failing)
