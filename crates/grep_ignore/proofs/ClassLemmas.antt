-- Sets of a class: byte by byte, and member by member.
use Rattle.std.proofs.Common.{◌≡◌, ℕ, ◌+◌, ◌<◌, ◌≤◌, Bool, true, false, ◌&&◌, ◌||◌, ◌==◌}
use Rattle.std.proofs.Common.{nat_lt, List, [], ◌∷◌, length, drop, refl, sym, ap}
use Rattle.std.proofs.Common.{◌∙◌, arith, nat_le, if◌then◌else◌, inl, inr}
use Rattle.std.proofs.lemmas.Bool.{cases_eq, cases_lt, eq-eqb, ne_eqb, lt-ltb, le-ltb, eqb-true, false≢true, lt-leb}
use Rattle.std.specs.List.{list_any}
use Rattle.grep_matcher.specs.ByteSets.{holds}
use Rattle.grep_ignore.specs.Classes.{AddsRanges, AreMembers, IsClass, IsLetter, IsMember, begins_with}
use Rattle.grep_ignore.specs.Classes.{is_either, is_in_range, is_negated, members_of, other_case}

adds-here : (s t : Bool) → ((true && t) || (s || (false && t))) ≡ (s || (true && t))
adds-here true true = refl
adds-here true false = refl
adds-here false true = refl
adds-here false false = refl

below-same : (k n : ℕ) → (k ≡ n → ⊥) → nat_lt k (n + 1) ≡ nat_lt k n
below-same k n other = elim (cases_lt k n) [
  | inl less ↦ lt-ltb k (n + 1) (omega arith) ∙ sym (lt-ltb k n less)
  | inr more ↦ le-ltb k (n + 1) (omega (arith, other)) ∙ sym (le-ltb k n more)
]

-- a set that has what it had and, below a number, what a test says gets one byte more
pub sets-more : (start old new : List Bool) (test : ℕ → Bool) (n : ℕ) (chosen : Bool)
    → chosen ≡ test n → ((k : ℕ) → holds old k ≡ (holds start k || (nat_lt k n && test k)))
    → ((k : ℕ) → holds new k ≡ (((k == n) && chosen) || holds old k))
    → (k : ℕ) → holds new k ≡ (holds start k || (nat_lt k (n + 1) && test k))
sets-more start old new test n chosen is before adds k = adds k ∙ elim (cases_eq k n) [
  | inl here ↦
      let same : (k == n) ≡ true = eq-eqb k n here in
      let below : nat_lt k n ≡ false = le-ltb k n (omega arith) in
      let within : nat_lt k (n + 1) ≡ true = lt-ltb k (n + 1) (omega arith) in
      let chosen-here : chosen ≡ test k = is ∙ ap test (sym here) in
      rw (same, before k, below, within, chosen-here) (adds-here (holds start k) (test k))
  | inr other ↦
      let apart : (k == n) ≡ false = ne_eqb k n other in
      let as-below : nat_lt k (n + 1) ≡ nat_lt k n = below-same k n other in
      rw (apart, before k, as-below) refl
]

-- the sets of two members, one after the other
either-adds : (o a b c d i : Bool)
    → ((o || (c || (i && d))) || ((a || false) || (i && (b || false)))) ≡ (o || ((a || c) || (i && (b || d))))
either-adds false false false false false false = refl
either-adds false false false false false true = refl
either-adds false false false false true false = refl
either-adds false false false false true true = refl
either-adds false false false true false false = refl
either-adds false false false true false true = refl
either-adds false false false true true false = refl
either-adds false false false true true true = refl
either-adds false false true false false false = refl
either-adds false false true false false true = refl
either-adds false false true false true false = refl
either-adds false false true false true true = refl
either-adds false false true true false false = refl
either-adds false false true true false true = refl
either-adds false false true true true false = refl
either-adds false false true true true true = refl
either-adds false true false false false false = refl
either-adds false true false false false true = refl
either-adds false true false false true false = refl
either-adds false true false false true true = refl
either-adds false true false true false false = refl
either-adds false true false true false true = refl
either-adds false true false true true false = refl
either-adds false true false true true true = refl
either-adds false true true false false false = refl
either-adds false true true false false true = refl
either-adds false true true false true false = refl
either-adds false true true false true true = refl
either-adds false true true true false false = refl
either-adds false true true true false true = refl
either-adds false true true true true false = refl
either-adds false true true true true true = refl
either-adds true false false false false false = refl
either-adds true false false false false true = refl
either-adds true false false false true false = refl
either-adds true false false false true true = refl
either-adds true false false true false false = refl
either-adds true false false true false true = refl
either-adds true false false true true false = refl
either-adds true false false true true true = refl
either-adds true false true false false false = refl
either-adds true false true false false true = refl
either-adds true false true false true false = refl
either-adds true false true false true true = refl
either-adds true false true true false false = refl
either-adds true false true true false true = refl
either-adds true false true true true false = refl
either-adds true false true true true true = refl
either-adds true true false false false false = refl
either-adds true true false false false true = refl
either-adds true true false false true false = refl
either-adds true true false false true true = refl
either-adds true true false true false false = refl
either-adds true true false true false true = refl
either-adds true true false true true false = refl
either-adds true true false true true true = refl
either-adds true true true false false false = refl
either-adds true true true false false true = refl
either-adds true true true false true false = refl
either-adds true true true false true true = refl
either-adds true true true true false false = refl
either-adds true true true true false true = refl
either-adds true true true true true false = refl
either-adds true true true true true true = refl

pub ranges-more : (ignores : Bool) (range : ℕ × ℕ) (ranges : List (ℕ × ℕ)) (start old new : List Bool)
    → AddsRanges ignores ranges start old → AddsRanges ignores (range ∷ []) old new
    → AddsRanges ignores (range ∷ ranges) start new
ranges-more ignores range ranges start old new before adds byte =
    adds byte ∙ ap (λ b. b || is_either ignores (λ k. list_any (λ r. is_in_range r k) (range ∷ [])) byte) (before byte)
    ∙ either-adds (holds start byte) (is_in_range range byte) (is_in_range range (other_case byte))
    (list_any (λ r. is_in_range r byte) ranges) (list_any (λ r. is_in_range r (other_case byte)) ranges) ignores

-- a letter and a member are read from a longer text
letter-shorter : (letter : ℕ) (text rest : List ℕ) → IsLetter letter text rest → length rest < length text
letter-shorter letter text rest (inl plain) = rw plain.1 (omega arith)
letter-shorter letter text rest (inr escaped) = rw escaped (omega arith)

drop-shorter : (text : List ℕ) → length (drop 1 text) ≤ length text
drop-shorter [] = omega arith
drop-shorter (byte ∷ rest) = omega arith

pub member-shorter : (range : ℕ × ℕ) (text rest : List ℕ) → IsMember range text rest
    → length rest < length text
member-shorter range text rest (after, letter, inl alone) =
    let less : length after < length text = letter-shorter range.0 text after letter in
    rw alone.2 less
member-shorter range text rest (after, letter, inr more) =
    let less : length after < length text = letter-shorter range.0 text after letter in
    let end : length rest < length (drop 1 after) = letter-shorter range.1 (drop 1 after) rest more.1 in
    let most : length (drop 1 after) ≤ length after = drop-shorter after in
    omega arith

-- what is left after some members is no longer
pub members-shorter : (ranges : List (ℕ × ℕ)) (text rest : List ℕ) → AreMembers ranges text rest
    → length rest ≤ length text
members-shorter [] text rest are = rw are (omega arith)
members-shorter (range ∷ before) text rest (mid, are, fits, member) =
    let most : length mid ≤ length text = members-shorter before text mid are in
    let less : length rest < length mid = member-shorter range mid rest member in
    omega arith

members-of-shorter : (b : Bool) (text : List ℕ) → length (if b then drop 1 text else text) ≤ length text
members-of-shorter true text = drop-shorter text
members-of-shorter false text = omega arith

pub class-shorter : (ignores : Bool) (set : List Bool) (text rest : List ℕ) → IsClass ignores set text rest
    → length rest < length text
class-shorter ignores set text rest (ranges, some, are, holds-all) =
    let most : length (93 ∷ rest) ≤ length (members_of text) =
    members-shorter ranges (members_of text) (93 ∷ rest) are in
    let all : length (members_of text) ≤ length text = members-of-shorter (is_negated text) text in
    omega arith

-- a text that begins with a byte is that byte and its tail
pub begins-is : (first : ℕ) (text : List ℕ) → begins_with first text ≡ true → text ≡ first ∷ drop 1 text
begins-is first [] begins = absurd (false≢true begins)
begins-is first (byte ∷ rest) begins = ap (λ b. b ∷ rest) (eqb-true byte first begins)

and-false : (b : Bool) → (b && false) ≡ false
and-false true = refl
and-false false = refl

-- a range from a byte to itself has it alone
pub range-same : (byte k : ℕ) → is_in_range (byte, byte) k ≡ (k == byte)
range-same byte k = elim (cases_eq k byte) [
  | inl here ↦ rw (eq-eqb k byte here) refl
  | inr other ↦ elim (cases_lt k byte) [
    | inl less ↦ rw (ne_eqb k byte other, lt-leb byte k less) refl
    | inr more ↦
        rw (ne_eqb k byte other, lt-leb k byte (omega (arith, other))) (and-false (nat_le byte k))
  ]
]
