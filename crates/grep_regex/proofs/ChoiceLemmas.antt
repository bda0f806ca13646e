-- What several sequences of sets decide, one of which has to follow.
use Rattle.std.proofs.Common.{◌≡◌, ℕ, zero, suc, ◌+◌, ◌<◌, ◌≤◌, Bool, true, false, List, [], ◌∷◌, ◌++◌, length, get_or}
use Rattle.std.proofs.Common.{take}
use Rattle.std.proofs.Common.{Option, None, Some, slice_get, refl, sym, ap, ap₂, ◌∙◌, ⊎_elim, arith, All, inl, inr, ◌⊎◌}
use Rattle.std.proofs.lemmas.Bool.{cases_Bool, cases_lt, false≢true}
use Rattle.std.proofs.lemmas.List.{take_more, map-append}
use Rattle.std.proofs.lemmas.Option.{none-some}
use Rattle.std.specs.Global.{Global}
use Rattle.std.specs.Prelude.{Vec}
use Rattle.regex_class.specs.Ranges.{in_ranges}
use Rattle.regex_hir.specs.Meaning.{alt_all}
use Rattle.regex_hir.specs.Re.{Re, alt}
use Rattle.grep_matcher.specs.ByteSets.{holds}
use Rattle.grep_matcher.specs.declared.byte_set.ByteSet.{ByteSet}
use Rattle.grep_regex.specs.Choices.{items_of}
use Rattle.grep_regex.specs.Classes.{any_decision, decision, decision_by, either_decision, Decides, DecideAny}
use Rattle.grep_regex.specs.Covers.{AreCovered, IsSubset}
use Rattle.grep_regex.specs.Decisions.{IsPassed, IsVerdict}
use Rattle.grep_regex.specs.declared.classes.Verdict.{Verdict}
use Rattle.grep_regex.specs.declared.classes.Verdict.TheVariants.{Matches as Matched, Passes, Unknown}
use Rattle.grep_regex.proofs.DecisionLemmas.{decision-high, decision-member, decision-other}
use Rattle.grep_regex.proofs.RunLemmas.{some-apart}
use Rattle.grep_regex.proofs.UnionLemmas.{alt-last, last-alt}

pub one-choice : (d : Option Bool) → d ≡ either_decision d (Some false)
one-choice None = refl
one-choice (Some true) = refl
one-choice (Some false) = refl

either-one : (d : Option Bool) → either_decision d (Some true) ≡ Some true
either-one None = refl
either-one (Some true) = refl
either-one (Some false) = refl

either-of-three : (a b c : Option Bool)
    → either_decision a (either_decision b c) ≡ either_decision (either_decision a b) c
either-of-three (Some true) b c = refl
either-of-three (Some false) b c = refl
either-of-three None (Some true) c = refl
either-of-three None (Some false) c = refl
either-of-three None None (Some true) = refl
either-of-three None None (Some false) = refl
either-of-three None None None = refl

-- one more choice
any-last : (choices : List (List (List Bool))) (sets : List (List Bool)) (hay : List ℕ) (i : ℕ)
    → any_decision (choices ++ sets ∷ []) hay i ≡ either_decision (any_decision choices hay i) (decision sets hay i)
any-last [] sets hay i = sym (one-choice (decision sets hay i))
any-last (first ∷ choices) sets hay i =
    ap (either_decision (decision first hay i)) (any-last choices sets hay i)
    ∙ either-of-three (decision first hay i) (any_decision choices hay i) (decision sets hay i)

-- what the only one decides
pub one-verdict : (choices : List (Vec ByteSet Global)) (sets d : Vec ByteSet Global) (hay : List ℕ) (i : ℕ)
    (v : Verdict) → length choices ≡ 1 → get_or choices 0 d ≡ sets → IsVerdict (decision sets.items hay) i v
    → IsVerdict (any_decision (items_of choices) hay) i v
one-verdict [] sets d hay i v one is decided = absurd (omega (arith, one))
one-verdict (first ∷ (next ∷ choices)) sets d hay i v one is decided = absurd (omega (arith, one))
one-verdict (first ∷ []) sets d hay i Matched one is decided =
    sym (one-choice (decision first.items hay i))
    ∙ (ap (λ (s : Vec ByteSet Global). decision s.items hay i) is ∙ decided)
one-verdict (first ∷ []) sets d hay i (Passes later) one is decided = (
  decided.0,
  λ k low below. sym (one-choice (decision first.items hay k))
      ∙ (ap (λ (s : Vec ByteSet Global). decision s.items hay k) is ∙ decided.1 k low below),
)
one-verdict (first ∷ []) sets d hay i Unknown one is decided = tt

pub any-true : (choices : List (Vec ByteSet Global)) (k : ℕ) (d : Vec ByteSet Global) (hay : List ℕ) (i : ℕ)
    → k < length choices → decision (get_or choices k d).items hay i ≡ Some true
    → any_decision (items_of choices) hay i ≡ Some true
any-true [] k d hay i inside has = absurd (omega (arith, inside))
any-true (first ∷ choices) zero d hay i inside has =
    ap (λ x. either_decision x (any_decision (items_of choices) hay i)) has
any-true (first ∷ choices) (suc k) d hay i inside has =
    ap (either_decision (decision first.items hay i)) (any-true choices k d hay i (omega (arith, inside)) has)
    ∙ either-one (decision first.items hay i)

pub passed-more : (choices : List (List (List Bool))) (sets : List (List Bool)) (hay : List ℕ) (at next later to : ℕ)
    → IsPassed (any_decision choices hay) at next → IsPassed (decision sets hay) at later → to ≤ next → to ≤ later
    → IsPassed (any_decision (choices ++ sets ∷ []) hay) at to
passed-more choices sets hay at next later to before also low high i from below =
    any-last choices sets hay i
    ∙ ap₂ either_decision (before i from (omega (arith, below, low))) (also i from (omega (arith, below, high)))

-- what a set decides against, one whose members it has does too
subset-decision : (s c : List Bool) → IsSubset s c → (after later : Option Bool)
    → (after ≡ Some false → later ≡ Some false) → (next : Option ℕ)
    → decision_by c after next ≡ Some false → decision_by s later next ≡ Some false
subset-decision s c inside after later follows None e = refl
subset-decision s c inside after later follows (Some b) e = ⊎_elim
    (λ (low : b < 128). ⊎_elim
    (λ also. decision-member s later b low also
    ∙ follows (sym (decision-member c after b low (inside b low also)) ∙ e))
    (λ other. decision-other s later b low other)
    (cases_Bool (holds s b)))
    (λ high. absurd (none-some false (sym (decision-high c after b high) ∙ e)))
    (cases_lt b 128)

-- and so do sets that others cover
cover-decision : (cover sets : List (List Bool)) → AreCovered cover sets → (hay : List ℕ) (i : ℕ)
    → decision cover hay i ≡ Some false → decision sets hay i ≡ Some false
cover-decision [] sets covered hay i lacks = absurd (some-apart lacks)
cover-decision (c ∷ cover) [] covered hay i lacks = absurd (omega (arith, covered.0))
cover-decision (c ∷ cover) (s ∷ sets) covered hay i lacks =
    subset-decision s c (covered.1 0 (omega arith)) (decision cover hay (i + 1)) (decision sets hay (i + 1))
    (cover-decision cover sets
    (omega (arith, covered.0), λ k below. covered.1 (suc k) (omega (arith, below))) hay (i + 1))
    (slice_get hay i) lacks

any-covered : (cover : List (List Bool)) (choices : List (Vec ByteSet Global))
    → All (λ sets. AreCovered cover sets.items) choices → (hay : List ℕ) (i : ℕ) → decision cover hay i ≡ Some false
    → any_decision (items_of choices) hay i ≡ Some false
any-covered cover [] all hay i lacks = refl
any-covered cover (first ∷ choices) all hay i lacks =
    ap₂ either_decision (cover-decision cover first.items (all 0 first (omega arith)) hay i lacks)
    (any-covered cover choices (λ k d below. all (suc k) d (omega (arith, below))) hay i lacks)

pub passed-covered : (cover : List (List Bool)) (choices : List (Vec ByteSet Global))
    → All (λ sets. AreCovered cover sets.items) choices → (hay : List ℕ) (from to : ℕ)
    → IsPassed (decision cover hay) from to → IsPassed (any_decision (items_of choices) hay) from to
passed-covered cover choices all hay from to passed i low below =
    any-covered cover choices all hay i (passed i low below)

-- the first choices of a list, and one more
pub next-choice : (choices : List (Vec ByteSet Global)) (i : ℕ) (sets d : Vec ByteSet Global) → i < length choices
    → get_or choices i d ≡ sets → items_of (take (i + 1) choices) ≡ items_of (take i choices) ++ sets.items ∷ []
next-choice choices i sets d inside is =
    ap items_of (take_more choices i d inside ∙ ap (λ x. take i choices ++ x ∷ []) is)
    ∙ map-append (λ (s : Vec ByteSet Global). s.items) (take i choices) (sets ∷ [])

-- alternatives that are decided
pub none-decide : DecideAny (alt_all []) []
unfolding in_ranges
none-decide = record {
  yes = λ hay i decided. absurd (some-apart (sym decided));
  no = λ hay i j decided m. false≢true m.2;
}

pub one-decides : (re : Re) (sets : List (List Bool)) → Decides re sets → DecideAny re (sets ∷ [])
one-decides re sets p = record {
  yes = λ hay i decided. p.yes hay i (one-choice (decision sets hay i) ∙ decided);
  no = λ hay i j decided m. p.no hay i j (one-choice (decision sets hay i) ∙ decided) m;
}

-- what one of two decides where both together do
either-true : (a b : Option Bool) → either_decision a b ≡ Some true → (a ≡ Some true) ⊎ (b ≡ Some true)
either-true (Some true) b e = inl refl
either-true (Some false) b e = inr e
either-true None (Some true) e = inr refl
either-true None (Some false) e = absurd (grind (arith, e))
either-true None None e = absurd (grind (arith, e))

either-false : (a b : Option Bool) → either_decision a b ≡ Some false → (a ≡ Some false) × (b ≡ Some false)
either-false (Some true) b e = absurd (some-apart e)
either-false (Some false) b e = (refl, e)
either-false None (Some true) e = absurd (some-apart e)
either-false None (Some false) e = absurd (grind (arith, e))
either-false None None e = absurd (grind (arith, e))

pub more-decide : (parts : List Re) (a : Re) (choices : List (List (List Bool))) (sets : List (List Bool))
    → DecideAny (alt_all parts) choices → Decides a sets
    → DecideAny (alt_all (parts ++ a ∷ [])) (choices ++ sets ∷ [])
more-decide parts a choices sets p q = record {
  yes = λ hay i decided. ⊎_elim
      (λ first. let m = p.yes hay i first in (m.0, alt-last parts a hay i m.0 (inl m.1)))
      (λ second. let m = q.yes hay i second in (m.0, alt-last parts a hay i m.0 (inr m.1)))
      (either-true _ _ (sym (any-last choices sets hay i) ∙ decided));
  no = λ hay i j decided m.
      let none = either-false _ _ (sym (any-last choices sets hay i) ∙ decided) in
      ⊎_elim (λ front. p.no hay i j none.0 front) (λ last. q.no hay i j none.1 last) (last-alt parts a hay i j m);
}

-- an alternative before others
pub first-decides : (a b : Re) (sets : List (List Bool)) (choices : List (List (List Bool))) → Decides a sets
    → DecideAny b choices → DecideAny (alt a b) (sets ∷ choices)
first-decides a b sets choices p q = record {
  yes = λ hay i decided. ⊎_elim
      (λ first. let m = p.yes hay i first in (m.0, inl m.1))
      (λ second. let m = q.yes hay i second in (m.0, inr m.1))
      (either-true _ _ decided);
  no = λ hay i j decided m.
      let none = either-false _ _ decided in
      ⊎_elim (λ ma. p.no hay i j none.0 ma) (λ mb. q.no hay i j none.1 mb) m;
}
