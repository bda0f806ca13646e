-- Patterns that have a byte in a literal, or in a class of such bytes alone, and texts that can name it.
use Rattle.std.proofs.Common.{◌≡◌, ◌⊎◌, ℕ, zero, suc, ◌+◌, ◌-◌, ◌<◌, ◌≤◌, ◌&&◌, Bool, true, false, not, List, [], ◌∷◌}
use Rattle.std.proofs.Common.{◌++◌, length, map, get_or, take, Option, None, Some, Box, Global, Vec, refl, sym, ap, ◌∙◌}
use Rattle.std.proofs.Common.{subst, inl, inr, ⊎_elim, arith, All, Bor}
use Rattle.std.proofs.lemmas.Bool.{true≢false, and_from, eqb-true, true_from_ne_false}
use Rattle.std.proofs.lemmas.Bool.{not_from_false}
use Rattle.std.proofs.lemmas.List.{take_more, map-append}
use Rattle.std.specs.Option.{option_eq, is_some, MatchOption}
use lib.Dec.{eqb}
use native.Mathlib.Numerals.{unary_clauses}
use Rattle.regex_class.specs.Ranges.{in_ranges, IsBounds}
use Rattle.regex_class.proofs.RangesLemmas.{in_ranges-nil}
use Rattle.regex_hir.specs.Meaning.{meaning, cat_all, alt_all, optional, copies, up_to, repeat}
use Rattle.regex_hir.specs.Re.{Re, empty, cat, plus}
use Rattle.regex_hir.specs.declared.hir.Hir.{Hir}
use Rattle.regex_hir.specs.declared.hir.Hir.TheVariants.{Repetition, Capture, Concat, Alternation}
use Rattle.regex_hir.proofs.MeaningLemmas.{meaning-Repetition, meaning-Capture, meaning-Concat}
use Rattle.regex_hir.proofs.MeaningLemmas.{meaning-Alternation}
use Rattle.grep_regex.specs.NamedBytes.{CanName, HasByte, IsLost, IsNameable}
use Rattle.grep_regex.specs.Repetitions.{Repeats}
use Rattle.grep_regex.specs.Stripped.{IsClassOf}
use Rattle.grep_regex.specs.declared.options.Options.{Options}

-- ---- texts

-- no text can name a byte if none of them can
pub not-nameable : (o : Options) (patterns : List (Bor (List ℕ))) (byte : ℕ)
    → All (λ text. CanName o byte text → ⊥) (map (λ p. p.now) patterns)
    → IsNameable o (map (λ p. p.now) patterns) byte → ⊥
not-nameable o patterns byte all it = all it.index [] it.inside it.names

-- ---- classes

module _ (bytes : List ℕ) (byte : ℕ) (members left class : List (ℕ × ℕ)) (full : IsClassOf bytes class)
    (thin : (x : ℕ) → x ≤ 0x10_FFFF → in_ranges left x ≡ (in_ranges members x && not (in_ranges class x))) where
  -- a class that keeps a member isn't lost
  pub class-kept : (b : ℕ × ℕ) → IsBounds left b → IsLost bytes byte members → ⊥
  class-kept b bounds lost =
      let small : b.0 ≤ 0x10_FFFF = omega (arith, (bounds.between b.0 bounds.first).1, bounds.bounded) in
      let both = and_both (in_ranges members b.0) (in_ranges class b.0) (sym (thin b.0 small) ∙ bounds.first) in
      true≢false (sym (lost.only b.0 small both.0) ∙ (sym (full b.0 small) ∙ both.1))
    where
      and_both : (x y : Bool) → (x && not y) ≡ true → (x ≡ true) × (y ≡ false)
      and_both true true h = absurd (true≢false (sym h))
      and_both true false h = (refl, refl)
      and_both false y h = absurd (true≢false (sym h))

  -- one that keeps none is
  pub class-lost : left ≡ [] → in_ranges members byte ≡ true → IsLost bytes byte members
  class-lost gone member = record {
    member = member;
    only = λ x small inside. true_from_ne_false _ (λ other. true≢false (
        sym (thin x small ∙ and_from _ _ inside (not_from_false _ (full x small ∙ other)))
        ∙ (ap (λ ranges. in_ranges ranges x) gone ∙ in_ranges-nil x)));
  }

-- what is so of a class whose bounds are known
module _ (left : List (ℕ × ℕ)) (bounds : Option (ℕ × ℕ)) (known : MatchOption bounds (left ≡ []) (IsBounds left)) where
  pub class-gone : is_some bounds ≡ false → left ≡ []
  class-gone none = gone bounds none known
    where
      gone : (o : Option (ℕ × ℕ)) → is_some o ≡ false → MatchOption o (left ≡ []) (IsBounds left) → left ≡ []
      gone None none known = known
      gone (Some b) none known = absurd (true≢false none)

  pub class-has : {P : Type 0} → is_some bounds ≡ true → ((b : ℕ × ℕ) → IsBounds left b → P) → P
  class-has {P} some f = has bounds some known
    where
      has : (o : Option (ℕ × ℕ)) → is_some o ≡ true → MatchOption o (left ≡ []) (IsBounds left) → P
      has None some known = absurd (true≢false (sym some))
      has (Some b) some known = f b known

-- ---- repetitions

module _ (bytes : List ℕ) (byte : ℕ) where
  abbrev Has : Re → Type 0
  Has = HasByte bytes byte

  from-copies : (n : ℕ) (a b : Re) → Has (copies n a b) → Has a ⊎ Has b
  from-copies zero a b h = inr h
  from-copies (suc n) a b h = ⊎_elim inl (from-copies n a b) h

  from-optional : (greedy : Bool) (a : Re) → Has (optional greedy a) → Has a
  from-optional true a h = ⊎_elim (λ x. x) (λ no. absurd no) h
  from-optional false a h = ⊎_elim (λ no. absurd no) (λ x. x) h

  to-optional : (greedy : Bool) (a : Re) → Has a → Has (optional greedy a)
  to-optional true a h = inl h
  to-optional false a h = inr h

  from-up_to : (greedy : Bool) (n : ℕ) (a : Re) → Has (up_to greedy n a) → Has a
  from-up_to greedy zero a h = absurd h
  from-up_to greedy (suc n) a h =
      ⊎_elim (λ x. x) (from-up_to greedy n a) (from-optional greedy (cat a (up_to greedy n a)) h)

  from-repeat : (least : ℕ) (most : Option ℕ) (greedy : Bool) (a : Re) → Has (repeat least most greedy a) → Has a
  unfolding repeat
  from-repeat zero None greedy a h = from-optional greedy (plus greedy a) h
  from-repeat (suc n) None greedy a h = ⊎_elim (λ x. x) (λ x. x) (from-copies n a (plus greedy a) h)
  from-repeat least (Some most) greedy a h =
      ⊎_elim (λ x. x) (from-up_to greedy (most - least) a) (from-copies least a (up_to greedy (most - least) a) h)

  to-copies : (n : ℕ) (a b : Re) → Has b → Has (copies n a b)
  to-copies zero a b h = h
  to-copies (suc n) a b h = inr (to-copies n a b h)

  to-repeat : (least : ℕ) (most : Option ℕ) (greedy : Bool) (a : Re) → (least ≡ 0 → most ≡ Some 0 → ⊥) → Has a
      → Has (repeat least most greedy a)
  unfolding repeat
  to-repeat zero None greedy a some h = to-optional greedy (plus greedy a) h
  to-repeat (suc n) None greedy a some h = to-copies n a (plus greedy a) h
  to-repeat zero (Some zero) greedy a some h = absurd (some refl refl)
  to-repeat zero (Some (suc n)) greedy a some h =
      simp unary_clauses (to-optional greedy (cat a (up_to greedy n a)) (inl h))
  to-repeat (suc n) (Some most) greedy a some h = inl h

  -- ---- lists of patterns

  from-alt_all : (xs : List Re) → Has (alt_all xs) → Has (cat_all xs)
  from-alt_all [] h = absurd (true≢false (sym h.member ∙ in_ranges-nil byte))
  from-alt_all (x ∷ xs) h = ⊎_elim inl (λ later. inr (from-alt_all xs later)) h

  to-alt_all : (xs : List Re) → Has (cat_all xs) → Has (alt_all xs)
  to-alt_all [] h = absurd h
  to-alt_all (x ∷ xs) h = ⊎_elim inl (λ later. inr (to-alt_all xs later)) h

  from-append : (xs : List Re) (y : Re) → Has (cat_all (xs ++ y ∷ [])) → Has (cat_all xs) ⊎ Has y
  from-append [] y h = ⊎_elim inr (λ no. absurd no) h
  from-append (x ∷ xs) y h = ⊎_elim (λ here. inl (inl here))
      (λ later. ⊎_elim (λ front. inl (inr front)) inr (from-append xs y later)) h

  to-list : (xs : List Hir) (i : ℕ) (d : Hir) → i < length xs → Has (meaning (get_or xs i d))
      → Has (cat_all (map meaning xs))
  to-list [] i d inside h = absurd (omega (arith, inside))
  to-list (x ∷ xs) zero d inside h = inl h
  to-list (x ∷ xs) (suc i) d inside h = inr (to-list xs i d (omega (arith, inside)) h)

-- ---- trees, by their forms

pub zero-only : (most : Option ℕ) → option_eq eqb most (Some 0) ≡ true → most ≡ Some 0
zero-only None same = absurd (true≢false (sym same))
zero-only (Some n) same = ap Some (eqb-true n 0 same)

-- a repetition of nothing matches the empty text alone
pub never-empty : (h : Hir) (least : ℕ) (most : Option ℕ) (greedy : Bool) (a : Box Hir Global)
    → h ≡ Repetition least most greedy a → least ≡ 0 → most ≡ Some 0 → meaning h ≡ empty
unfolding repeat
never-empty h least most greedy a is none end = rw (is, meaning-Repetition least most greedy a, none, end) refl

-- the tree is a repetition or a group of another, or a sequence or an alternation of others
abbrev pub IsOver : Hir → Box Hir Global → Type 0
IsOver h a = ((least : ℕ) × (most : Option ℕ) × (greedy : Bool) × (h ≡ Repetition least most greedy a))
    ⊎ ((index : ℕ) × (h ≡ Capture index a))

abbrev pub IsOf : Hir → Vec Hir Global → Type 0
IsOf h a = (h ≡ Concat a) ⊎ (h ≡ Alternation a)

module _ (bytes : List ℕ) (byte : ℕ) (h : Hir) where
  pub has-over : (a : Box Hir Global) → IsOver h a → Repeats h → HasByte bytes byte (meaning a.value)
      → HasByte bytes byte (meaning h)
  has-over a is repeats has = ⊎_elim
      (λ it. subst (HasByte bytes byte) (sym (ap meaning it.3 ∙ meaning-Repetition it.0 it.1 it.2 a))
      (to-repeat bytes byte it.0 it.1 it.2 (meaning a.value) (repeats it.0 it.1 it.2 a it.3) has))
      (λ it. subst (HasByte bytes byte) (sym (ap meaning it.1 ∙ meaning-Capture it.0 a)) has)
      is

  pub lacks-over : (a : Box Hir Global) → IsOver h a → (HasByte bytes byte (meaning a.value) → ⊥)
      → HasByte bytes byte (meaning h) → ⊥
  lacks-over a is lacks has = ⊎_elim
      (λ it. lacks (from-repeat bytes byte it.0 it.1 it.2 (meaning a.value)
      (subst (HasByte bytes byte) (ap meaning it.3 ∙ meaning-Repetition it.0 it.1 it.2 a) has)))
      (λ it. lacks (subst (HasByte bytes byte) (ap meaning it.1 ∙ meaning-Capture it.0 a) has))
      is

  pub has-of : (a : Vec Hir Global) → IsOf h a → HasByte bytes byte (cat_all (map meaning a.items))
      → HasByte bytes byte (meaning h)
  has-of a is has = ⊎_elim
      (λ it. subst (HasByte bytes byte) (sym (ap meaning it ∙ meaning-Concat a)) has)
      (λ it. subst (HasByte bytes byte) (sym (ap meaning it ∙ meaning-Alternation a))
      (to-alt_all bytes byte (map meaning a.items) has))
      is

  pub lacks-of : (a : Vec Hir Global) → IsOf h a → (HasByte bytes byte (cat_all (map meaning a.items)) → ⊥)
      → HasByte bytes byte (meaning h) → ⊥
  lacks-of a is lacks has = ⊎_elim
      (λ it. lacks (subst (HasByte bytes byte) (ap meaning it ∙ meaning-Concat a) has))
      (λ it. lacks (from-alt_all bytes byte (map meaning a.items)
      (subst (HasByte bytes byte) (ap meaning it ∙ meaning-Alternation a) has)))
      is

-- ---- steps of a loop over trees

module _ (bytes : List ℕ) (byte : ℕ) (subs : List Hir) (i : ℕ) (d : Hir) (inside : i < length subs) where
  pub has-at : HasByte bytes byte (meaning (get_or subs i d)) → HasByte bytes byte (cat_all (map meaning subs))
  has-at = to-list bytes byte subs i d inside

  pub lacks-more : (HasByte bytes byte (cat_all (map meaning (take i subs))) → ⊥)
      → (HasByte bytes byte (meaning (get_or subs i d)) → ⊥)
      → HasByte bytes byte (cat_all (map meaning (take (i + 1) subs))) → ⊥
  lacks-more front here has = ⊎_elim front here (from-append bytes byte (map meaning (take i subs))
      (meaning (get_or subs i d)) (subst (λ xs. HasByte bytes byte (cat_all xs))
      (ap (map meaning) (take_more subs i d inside) ∙ map-append meaning (take i subs) (get_or subs i d ∷ [])) has))
