-- Where matches end, by the sizes of sequences of sets.
use Rattle.std.proofs.Common.{◌≡◌, ℕ, ◌+◌, ◌<◌, ◌≤◌, Bool, true, false, List, [], ◌∷◌, ◌++◌, length}
use Rattle.std.proofs.Common.{Option, None, Some, option_map, slice_get, refl, sym, ap, ◌∙◌, subst, ⊎_elim, arith}
use Rattle.std.proofs.lemmas.Bool.{cases_lt}
use Rattle.std.proofs.lemmas.Option.{none-some, same_Some}
use Rattle.std.specs.Option.{option_or}
use Rattle.regex_hir.specs.Meaning.{alt_all}
use Rattle.regex_hir.specs.Re.{Re, Trace, accept, alt, attempt}
use Rattle.regex_hir.proofs.AttemptLemmas.{attempt_complete, attempt_sound}
use Rattle.regex_hir.proofs.OptionLemmas.{none_of_no_value, value_of_IsSome}
use Rattle.grep_regex.specs.Classes.{decision, first_size, size_by, AreRuns, DecideAny, HasRuns, HasSizes, IsRun}
use Rattle.grep_regex.proofs.ChoiceLemmas.{first-decides, none-decide}
use Rattle.grep_regex.proofs.DecisionLemmas.{decision-later, decision-past}
use Rattle.grep_regex.proofs.RunLemmas.{run-decides, some-apart}

-- where a match ends
abbrev end_of : Option Trace → Option ℕ
end_of = option_map (λ t. t.end)

module _ (re : Re) (sets : List (List Bool)) (run : IsRun re sets) (hay : List ℕ) (i : ℕ) where
  run-end : decision sets hay i ≡ Some true → end_of (attempt hay re accept i) ≡ Some (i + length sets)
  run-end has =
      let found = value_of_IsSome (attempt hay re accept i)
      (attempt_complete hay re accept i (i + length sets) (run.yes hay i has) refl) in
      let goes = attempt_sound hay re accept i found.0 found.1 in
      let last : goes.at ≡ goes.rest.end = ap (λ (t : Trace). t.end) (same_Some _ _ goes.gave) in
      let end : found.0.end ≡ i + length sets = goes.same_end ∙ (sym last ∙ run.only hay i goes.at has goes.leads) in
      ap end_of found.1 ∙ ap Some end

  run-fails : decision sets hay i ≡ Some false → attempt hay re accept i ≡ None
  run-fails lacks = none_of_no_value _ (λ t e.
      let c = attempt_sound hay re accept i t e in run.no hay i c.at lacks c.leads)

alt-end : (a b : Re) (hay : List ℕ) (i : ℕ)
    → attempt hay (alt a b) accept i ≡ option_or (attempt hay a accept i) (attempt hay b accept i)
unfolding attempt
alt-end a b hay i = refl

first-or : (a b : Option Trace) (n : ℕ) → end_of a ≡ Some n → end_of (option_or a b) ≡ Some n
first-or None b n e = absurd (none-some n e)
first-or (Some t) b n e = e

-- the alternatives of runs
runs-end : (res : List Re) (choices : List (List (List Bool))) → AreRuns res choices → (hay : List ℕ) (i n : ℕ)
    → first_size choices hay i ≡ Some n → end_of (attempt hay (alt_all res) accept i) ≡ Some (i + n)
runs-end [] [] runs hay i n e = absurd (none-some n e)
runs-end [] (sets ∷ choices) runs hay i n e = absurd runs
runs-end (re ∷ res) [] runs hay i n e = absurd runs
runs-end (re ∷ res) (sets ∷ choices) runs hay i n e =
    of (decision sets hay i) refl e (runs-end res choices runs.1 hay i n)
  where
    both : attempt hay (alt_all (re ∷ res)) accept i
        ≡ option_or (attempt hay re accept i) (attempt hay (alt_all res) accept i)
    both = alt-end re (alt_all res) hay i

    of : (d : Option Bool) → decision sets hay i ≡ d → size_by (length sets) (first_size choices hay i) d ≡ Some n
        → (first_size choices hay i ≡ Some n → end_of (attempt hay (alt_all res) accept i) ≡ Some (i + n))
        → end_of (attempt hay (alt_all (re ∷ res)) accept i) ≡ Some (i + n)
    of None is size later = absurd (none-some n size)
    of (Some true) is size later = ap end_of both
        ∙ first-or _ _ (i + n) (run-end re sets runs.0 hay i is ∙ ap (λ s. Some (i + s)) (same_Some _ _ size))
    of (Some false) is size later = ap end_of both
        ∙ (ap (λ o. end_of (option_or o (attempt hay (alt_all res) accept i))) (run-fails re sets runs.0 hay i is)
        ∙ later size)

runs-decide : (res : List Re) (choices : List (List (List Bool))) → AreRuns res choices
    → DecideAny (alt_all res) choices
runs-decide [] [] runs = none-decide
runs-decide [] (sets ∷ choices) runs = absurd runs
runs-decide (re ∷ res) [] runs = absurd runs
runs-decide (re ∷ res) (sets ∷ choices) runs =
    first-decides re (alt_all res) sets choices (run-decides re sets runs.0) (runs-decide res choices runs.1)

pub has-runs-decide : (re : Re) (choices : List (List (List Bool))) → HasRuns re choices → DecideAny re choices
has-runs-decide re choices p = subst (λ x. DecideAny x choices) (sym p.is) (runs-decide p.res choices p.runs)

pub has-runs-sizes : (re : Re) (choices : List (List (List Bool))) → HasRuns re choices → HasSizes re choices
has-runs-sizes re choices p = subst (λ x. HasSizes x choices) (sym p.is)
    (record { end = runs-end p.res choices p.runs })

-- one run
pub run-sizes : (re : Re) (sets : List (List Bool)) → IsRun re sets → HasSizes re (sets ∷ [])
run-sizes re sets run = record { end = λ hay i n e. of hay i n (decision sets hay i) refl e }
  where
    of : (hay : List ℕ) (i n : ℕ) (d : Option Bool) → decision sets hay i ≡ d → size_by (length sets) None d ≡ Some n
        → end_of (attempt hay re accept i) ≡ Some (i + n)
    of hay i n None is size = absurd (none-some n size)
    of hay i n (Some true) is size = run-end re sets run hay i is ∙ ap (λ s. Some (i + s)) (same_Some _ _ size)
    of hay i n (Some false) is size = absurd (none-some n size)

-- one more run
pub runs-more : (res : List Re) (choices : List (List (List Bool))) (re : Re) (sets : List (List Bool))
    → AreRuns res choices → IsRun re sets → AreRuns (res ++ re ∷ []) (choices ++ sets ∷ [])
runs-more [] [] re sets all one = (one, tt)
runs-more [] (x ∷ choices) re sets all one = absurd all
runs-more (y ∷ res) [] re sets all one = absurd all
runs-more (y ∷ res) (x ∷ choices) re sets all one = (all.0, runs-more res choices re sets all.1 one)

-- what follows lies in the bytes
pub decided-fits : (sets : List (List Bool)) (hay : List ℕ) (i : ℕ) → i ≤ length hay
    → decision sets hay i ≡ Some true → i + length sets ≤ length hay
decided-fits [] hay i fits has = omega (arith, fits)
decided-fits (set ∷ sets) hay i fits has = ⊎_elim
    (λ (inside : i < length hay).
    let later = decided-fits sets hay (i + 1) (omega (arith, inside))
    (decision-later set (decision sets hay (i + 1)) (slice_get hay i) has) in
    omega (arith, later))
    (λ (past : length hay ≤ i). absurd (some-apart (sym has ∙ decision-past set sets hay i past)))
    (cases_lt i (length hay))
