-- What vectors find of the positions at which sets may decide for a match.
use Rattle.std.proofs.Common.{◌≡◌, ◌≢◌, ◌⊎◌, inl, inr, ℕ, zero, suc, ◌-◌, ◌+◌, ◌<◌, ◌≤◌, Bool, true, false, List, []}
use Rattle.std.proofs.Common.{length, get_or, drop, Option, Some, None, sym, ap, ◌∙◌, subst, ⊎_elim, arith, drop-cons}
use Rattle.std.proofs.Common.{bit_and, bit_or, eqb, refl, ◌%◌}
use Rattle.std.proofs.lemmas.Bool.{cases_Bool, cases_lt, cond-false}
use Rattle.std.proofs.lemmas.Nat.{and_mask}
use Rattle.std.proofs.lemmas.Option.{none-some}
use Rattle.memchr.proofs.lemmas.BitLemmas.{or_ge_left, or_ge_right}
use Rattle.memchr.specs.Find.{Nowhere}
use Rattle.regex_literal.specs.Lanes.{Covers, HasLanes, all_or_none}
use Rattle.grep_matcher.specs.ByteSets.{holds}
use Rattle.grep_regex.specs.Classes.{decision, decision_by}
use Rattle.grep_regex.specs.Decisions.{IsPassed, MayMatch}
use Rattle.grep_regex.proofs.DecisionLemmas.{AreLow, decision-cons, decision-high, decision-member}
use Rattle.grep_regex.proofs.DecisionLemmas.{decision-other}

-- in lanes that are all set each position has what is looked for
pub all-cover : (P : ℕ → Type 0) (at : ℕ) (v : List ℕ) → HasLanes v (λ k. 255) → Covers P at v
all-cover P at v lanes = record { long = lanes.long; each = λ k l p. omega (arith, lanes.each k l) }

-- a decision that isn't against a match
pub not-false : (d : Option Bool) → ¬ (d ≢ Some false) → d ≡ Some false
not-false None other = absurd (other (λ e. grind (arith, e)))
not-false (Some true) other = absurd (other (λ e. grind (arith, e)))
not-false (Some false) other = refl

-- of a position at which there may be a match: its byte is no ASCII byte, or it is in the set and there may be more
pub next-may : (sets : List (List Bool)) (n : ℕ) (hay : List ℕ) (p : ℕ) → n < length sets → p < length hay
    → MayMatch sets n hay p → (128 ≤ get_or hay p 0)
    ⊎ ((get_or hay p 0 < 128) × (holds (get_or sets n []) (get_or hay p 0) ≡ true) × MayMatch sets (suc n) hay (p + 1))
next-may sets n hay p within inside may = ⊎_elim
    (λ (low : get_or hay p 0 < 128). ⊎_elim
    (λ has. inr (low, has, λ later. may (split ∙ (decision-member set _ b low has ∙ later))))
    (λ has. absurd (may (split ∙ decision-other set _ b low has)))
    (cases_Bool (holds set b)))
    (λ high. inl high)
    (cases_lt (get_or hay p 0) 128)
  where
    b : ℕ
    b = get_or hay p 0

    set : List Bool
    set = get_or sets n []

    split : decision (drop n sets) hay p ≡ decision_by set (decision (drop (suc n) sets) hay (p + 1)) (Some b)
    split = ap (λ xs. decision xs hay p) (drop-cons sets n [] within)
        ∙ decision-cons set (drop (suc n) sets) hay p inside

-- a lane that is set, and all bits
kept : (later bits : ℕ) → later < 256 → 128 ≤ later → 0 < bits → 128 ≤ bit_and later (all_or_none bits)
kept later bits fits set some =
    let filled : eqb bits 0 ≡ false = grind (arith, some) in
    let all : all_or_none bits ≡ 255 = cond-false (eqb bits 0) 0 255 filled in
    let same : bit_and later (all_or_none bits) ≡ later % 256 = ap (bit_and later) all ∙ and_mask later 8 in
    omega (arith, same)

-- a byte that isn't ASCII, and one that is a member
module _ (v bytes later members : List ℕ)
    (lanes : HasLanes v (λ k. bit_or (get_or bytes k 0) (bit_and (get_or later k 0) (get_or members k 0)))) where
  pub high-lane : (k : ℕ) → k < 32 → 128 ≤ get_or bytes k 0 → 128 ≤ get_or v k 0
  high-lane k below high = omega (
    arith,
    lanes.each k below,
    or_ge_left (get_or bytes k 0) (bit_and (get_or later k 0) (get_or members k 0)),
  )

  pub member-lane : (k bits : ℕ) → k < 32 → get_or later k 0 < 256 → get_or members k 0 ≡ all_or_none bits → 0 < bits
      → 128 ≤ get_or later k 0 → 128 ≤ get_or v k 0
  member-lane k bits below fits is some set = omega (
    arith,
    lanes.each k below,
    or_ge_right (get_or bytes k 0) (bit_and (get_or later k 0) (get_or members k 0)),
    ap (bit_and (get_or later k 0)) is,
    kept (get_or later k 0) bits fits set some,
  )

-- the lanes of a set, by those of the sets after it
pub set-covers : (P : ℕ → Type 0) (sets : List (List Bool)) (n m : ℕ) (hay : List ℕ) (at then : ℕ) (later v : List ℕ)
    → m ≡ suc n → then ≡ at + 1 → n < length sets → at + 32 ≤ length hay
    → ((byte : ℕ) → byte < 128 → holds (get_or sets n []) byte ≡ true → P byte)
    → Covers (MayMatch sets m hay) then later → length v ≡ 32
    → ((k : ℕ) → k < 32 → 128 ≤ get_or hay (at + k) 0 → 128 ≤ get_or v k 0)
    → ((k : ℕ) → k < 32 → P (get_or hay (at + k) 0) → 128 ≤ get_or later k 0 → 128 ≤ get_or v k 0)
    → Covers (MayMatch sets n hay) at v
set-covers P sets n m hay at then later v next one_on within room members after long over member = record {
  long = long;
  each = λ k below may. ⊎_elim
      (λ big. over k below big)
      (λ one.
      let far : at + k + 1 ≡ then + k = omega (arith, one_on) in
      let same : suc n ≡ m = sym next in
      member k below (members (get_or hay (at + k) 0) one.0 one.1)
      (after.each k below (subst (λ j. MayMatch sets j hay (then + k)) same
      (subst (MayMatch sets (suc n) hay) far one.2))))
      (next-may sets n hay (at + k) within (omega (arith, room)) may);
}

-- where a byte isn't ASCII, sets may follow
high-may : (sets : List (List Bool)) (n : ℕ) (hay : List ℕ) (p : ℕ) → n < length sets → p < length hay
    → 128 ≤ get_or hay p 0 → MayMatch sets n hay p
high-may sets n hay p within inside high lacks =
    let split = ap (λ xs. decision xs hay p) (drop-cons sets n [] within)
    ∙ (decision-cons (get_or sets n []) (drop (suc n) sets) hay p inside
    ∙ decision-high (get_or sets n []) (decision (drop (suc n) sets) hay (p + 1)) (get_or hay p 0) high) in
    none-some false (sym split ∙ lacks)

-- where ASCII bytes come first, the sets after them may follow
walk-may : (sets : List (List Bool)) (hay : List ℕ) (p m : ℕ) → m ≤ length sets → p + m ≤ length hay
    → AreLow hay p (p + m) → MayMatch sets 0 hay p → MayMatch sets m hay (p + m)
walk-may sets hay p zero within inside low may =
    let none : p ≡ p + 0 = omega arith in subst (MayMatch sets 0 hay) none may
walk-may sets hay p (suc m) within inside low may =
    let before = walk-may sets hay p m (omega arith) (omega arith) (λ q from to. low q from (omega arith)) may in
    let next : p + m + 1 ≡ p + suc m = omega arith in
    ⊎_elim
    (λ (big : 128 ≤ get_or hay (p + m) 0). absurd (omega (arith, big, low (p + m) (omega arith) (omega arith))))
    (λ one. subst (MayMatch sets (suc m) hay) next one.2)
    (next-may sets m hay (p + m) (omega arith) (omega arith) before)

-- where so many ASCII bytes come first, and from there on the sets after as many may follow nowhere, all is passed
pub lead-passed : (sets : List (List Bool)) (lead : ℕ) (hay : List ℕ) (from to : ℕ) → lead < length sets
    → from + lead ≤ to → to ≤ length hay → AreLow hay from (from + lead)
    → Nowhere (MayMatch sets lead hay) (from + lead) to → IsPassed (decision sets hay) from (to - lead)
lead-passed sets lead hay from to within room fits low none i after before =
    not-false (decision sets hay i) (λ may.
    none (i + lead) (omega arith) (omega (arith, before))
    (walk-may sets hay i lead (omega arith) (omega (arith, before))
    (λ q above below. all q (omega arith) (omega (arith, before))) may))
  where
    all : (q : ℕ) → from ≤ q → q < to → get_or hay q 0 < 128
    all q above below = ⊎_elim
        (λ (first : q < from + lead). low q above first)
        (λ (past : from + lead ≤ q). ⊎_elim
        (λ (is_low : get_or hay q 0 < 128). is_low)
        (λ high. absurd (none q past below (high-may sets lead hay q within (omega arith) high)))
        (cases_lt (get_or hay q 0) 128))
        (cases_lt q (from + lead))
