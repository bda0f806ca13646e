-- The members of a class, and the set of their bytes.
use Rattle.std.proofs.Common.{◌≡◌, ◌≢◌, ℕ, ◌≤◌, ◌<◌, Bool, true, false, not, ◌&&◌, ◌||◌, List, [], ◌∷◌, ◌∙◌}
use Rattle.std.proofs.Common.{ap, arith, drop, inr, nat_lt, refl, subst, sym}
use Rattle.std.specs.Prelude.{◌⊎◌, Err, IfErr, IfOk, Ok, Result}
use Rattle.std.specs.List.{list_any}
use Rattle.grep_matcher.specs.ByteSets.{holds}
use Rattle.grep_ignore.specs.Classes.{AddsRanges, begins_range, begins_with, is_either, is_in_range, is_negated}
use Rattle.grep_ignore.specs.Classes.{other_case}
use Rattle.grep_ignore.proofs.ClassLemmas.{begins-is, ranges-more}
use Rattle.linegrep_files.specs.ClassTexts.{AreCut, AreRanges, HasRanges, IsClassOf, IsMalformedClass, IsRange}
use Rattle.linegrep_files.specs.ClassTexts.{IsReversed, of_byte, of_end}
use Rattle.linegrep_files.specs.declared.class.Class.{Class}
use Rattle.linegrep_files.specs.declared.class.Member.{Member}

-- a set has the bytes of some members, and another member follows them
pub record IsAtMember (ignores_case : Bool) (set : List Bool) (text : List ℕ) (range : ℕ × ℕ) (rest : List ℕ) :
    Type 0 where
  pub ranges : List (ℕ × ℕ)
  pub mid : List ℕ
  pub are : AreRanges ranges text mid
  pub begins : (ranges ≡ []) ⊎ (begins_with 93 mid ≡ false)
  pub is : IsRange range mid rest
  pub set_is : (byte : ℕ) → holds set byte
      ≡ is_either ignores_case (λ b. list_any (λ r. is_in_range r b) ranges) byte

-- a member that is a range, or one byte
pub range-member : {E : Type 0} (result : Result Member E) (text after rest : List ℕ) (first last : ℕ)
    → text ≡ first ∷ after → after ≡ 45 ∷ last ∷ drop 2 after → last ≢ 93 → rest ≡ drop 1 (drop 1 after)
    → IfOk result (λ member. (member.first ≡ first) × (member.last ≡ last) × (first ≤ last) × (member.rest.now ≡ rest))
    → IfOk result (λ member. IsRange (member.first, member.last) text member.rest.now)
range-member (Ok member) text after rest first last is ranges other same (begins, ends, ordered, goes) =
    let left : member.rest.now ≡ drop 2 after = goes ∙ same ∙ ap (λ l. drop 1 (drop 1 l)) ranges in
    rw (begins, ends, left, is) (of_end first first last (drop 2 after)
    (subst (λ l. IsRange (first, first) (first ∷ after) l) ranges (of_byte first after)) other ordered)
range-member (Err e) text after rest first last is ranges other same goes = tt

pub byte-member : {E : Type 0} (result : Result Member E) (text after : List ℕ) (first : ℕ) → text ≡ first ∷ after
    → IfOk result (λ member. (member.first ≡ first) × (member.last ≡ first) × (first ≤ first)
    × (member.rest.now ≡ after))
    → IfOk result (λ member. IsRange (member.first, member.last) text member.rest.now)
byte-member (Ok member) text after first is (begins, ends, ordered, goes) =
    rw (begins, ends, goes, is) (of_byte first after)
byte-member (Err e) text after first is goes = tt

-- a member's range goes on
pub at-end : (ignores : Bool) (set : List Bool) (text : List ℕ) (first middle last : ℕ) (rest new : List ℕ)
    → IsAtMember ignores set text (first, middle) rest → rest ≡ 45 ∷ last ∷ drop 2 rest → last ≢ 93 → first ≤ last
    → new ≡ drop 1 (drop 1 rest) → IsAtMember ignores set text (first, last) new
at-end ignores set text first middle last rest new at ranges other ordered goes = record {
  ranges = at.ranges;
  mid = at.mid;
  are = at.are;
  begins = at.begins;
  is = subst (λ l. IsRange (first, last) at.mid l) (sym (goes ∙ ap (λ l. drop 1 (drop 1 l)) ranges))
      (of_end first middle last (drop 2 rest) (subst (λ l. IsRange (first, middle) at.mid l) ranges at.is) other ordered);
  set_is = at.set_is;
}

-- the bytes of a member are added
added : (ignores : Bool) (old new : List Bool) (text : List ℕ) (range : ℕ × ℕ) (rest : List ℕ)
    (at : IsAtMember ignores old text range rest) → AddsRanges ignores (range ∷ []) old new → (byte : ℕ)
    → holds new byte ≡ is_either ignores (λ b. list_any (λ r. is_in_range r b) (range ∷ at.ranges)) byte
added ignores old new text range rest at adds =
    ranges-more ignores range at.ranges [] old new at.set_is adds

or-false : (b : Bool) → (b || false) ≡ b
or-false true = refl
or-false false = refl

pub adds-one : (ignores : Bool) (range : ℕ × ℕ) (old new : List Bool)
    → ((byte : ℕ) → holds new byte ≡ (holds old byte || is_either ignores (is_in_range range) byte))
    → AddsRanges ignores (range ∷ []) old new
adds-one ignores range old new adds byte =
    adds byte
    ∙ ap (λ b. holds old byte || (b || (ignores && is_in_range range (other_case byte)))) (sym (or-false (is_in_range range byte)))
    ∙ ap (λ b. holds old byte || ((is_in_range range byte || false) || (ignores && b)))
    (sym (or-false (is_in_range range (other_case byte))))

-- another member follows
pub at-next : (ignores : Bool) (old new : List Bool) (text : List ℕ) (range next : ℕ × ℕ) (rest later : List ℕ)
    → IsAtMember ignores old text range rest → begins_with 93 rest ≡ false → begins_range rest ≡ false
    → AddsRanges ignores (range ∷ []) old new → IsRange next rest later → IsAtMember ignores new text next later
at-next ignores old new text range next rest later at opens ends adds is = record {
  ranges = range ∷ at.ranges;
  mid = rest;
  are = (at.mid, at.are, at.begins, at.is, ends);
  begins = inr opens;
  is = is;
  set_is = added ignores old new text range rest at adds;
}

closing : (rest : List ℕ) → begins_range (93 ∷ rest) ≡ false
closing [] = refl
closing (byte ∷ later) = refl

-- the last member was the last one
pub at-close : (ignores : Bool) (old new : List Bool) (text : List ℕ) (range : ℕ × ℕ) (rest after : List ℕ)
    → IsAtMember ignores old text range rest → begins_with 93 rest ≡ true → after ≡ drop 1 rest
    → AddsRanges ignores (range ∷ []) old new → HasRanges ignores new text (93 ∷ after)
at-close ignores old new text range rest after at closes is adds =
    let same : rest ≡ 93 ∷ after = begins-is 93 rest closes ∙ ap (λ l. 93 ∷ l) (sym is) in (
      range ∷ at.ranges,
      omega arith,
      (at.mid, at.are, at.begins, subst (λ l. IsRange range at.mid l) same at.is, closing after),
      added ignores old new text range rest at adds,
    )

-- a class by its members, with a mark before them and without one
pub set-plain : {E : Type 0} (result : Result Class E) (ignores : Bool) (text : List ℕ) → is_negated text ≡ false
    → IfOk result (λ class. HasRanges ignores class.set text (93 ∷ class.rest.now))
    → IfOk result (λ class. IsClassOf ignores class.set text class.rest.now)
set-plain (Ok class) ignores text plain has = rw plain has
set-plain (Err e) ignores text plain has = tt

pub set-marked : (ignores : Bool) (members set : List Bool) (text rest : List ℕ) → is_negated text ≡ true
    → HasRanges ignores members (drop 1 text) (93 ∷ rest)
    → ((byte : ℕ) → holds set byte ≡ (nat_lt byte 256 && not (holds members byte)))
    → IsClassOf ignores set text rest
set-marked ignores members set text rest marked (ranges, some, are, has) others =
    rw marked (ranges, some, are, λ byte. others byte ∙ ap (λ b. nat_lt byte 256 && not b) (has byte))

-- what holds, holds of each error
pub for-errors : {X E : Type 0} (result : Result X E) {P : Type 0} → P → IfErr result (λ _. P)
for-errors (Ok value) holds = tt
for-errors (Err e) holds = holds

-- a member that isn't read: its range ends before it begins
pub range-cut : {X E : Type 0} (result : Result X E) (text after : List ℕ) (first last : ℕ) → text ≡ first ∷ after
    → after ≡ 45 ∷ last ∷ drop 2 after → last ≢ 93 → IfErr result (λ _. last < first)
    → IfErr result (λ _. (text ≡ []) ⊎ IsReversed text)
range-cut (Ok member) text after first last is ranges other less = tt
range-cut (Err e) text after first last is ranges other less = inr (
  first,
  first,
  last,
  drop 2 after,
  rw is (subst (λ l. IsRange (first, first) (first ∷ after) l) ranges (of_byte first after)),
  other,
  less,
)

-- a byte alone is always read
pub byte-uncut : {X E : Type 0} (result : Result X E) (P : Type 0) (first : ℕ) → IfErr result (λ _. first < first)
    → IfErr result (λ _. P)
byte-uncut (Ok member) P first less = tt
byte-uncut (Err e) P first less = absurd (omega (arith, less))

-- no member follows
pub cut-next : (ignores : Bool) (set : List Bool) (text : List ℕ) (range : ℕ × ℕ) (rest : List ℕ)
    → IsAtMember ignores set text range rest → begins_with 93 rest ≡ false → begins_range rest ≡ false
    → (rest ≡ []) ⊎ IsReversed rest → AreCut text
cut-next ignores set text range rest at opens ends cut =
    (range ∷ at.ranges, rest, (at.mid, at.are, at.begins, at.is, ends), inr opens, cut)

-- a class without a mark, by its members that can't be read
pub cut-plain : {X E : Type 0} (result : Result X E) (text : List ℕ) → is_negated text ≡ false
    → IfErr result (λ _. AreCut text) → IfErr result (λ _. IsMalformedClass text)
cut-plain (Ok class) text plain cut = tt
cut-plain (Err e) text plain cut = rw plain cut
