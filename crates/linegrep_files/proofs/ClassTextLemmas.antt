-- Where a class of a glob ends.
use Rattle.std.proofs.Common.{◌≡◌, ◌≢◌, ℕ, Bool, true, false, not, ◌==◌, ◌||◌, List, [], ◌∷◌, ◌++◌, ◌∙◌}
use Rattle.std.proofs.Common.{◌-◌, ◌≤◌, ap, append_assoc, arith, drop, get_or, length, refl, sym, take}
use Rattle.std.proofs.lemmas.List.{take_all}
use Rattle.std.proofs.lemmas.Bool.{false≢true, ne_eqb}
use Rattle.std.specs.List.{list_any}
use Rattle.std.specs.Prelude.{Err, IfOk, Ok, Result}
use Rattle.grep_ignore.specs.Classes.{begins_with, is_negated}
use Rattle.linegrep_files.specs.ClassTexts.{AreMembersBefore, IsClassBefore, are_members}
use Rattle.linegrep_files.specs.declared.class.Class.{Class}
use Rattle.linegrep_files.specs.declared.class.Member.{Member}

none-append : (p : ℕ → Bool) (xs ys : List ℕ) → list_any p xs ≡ false → list_any p ys ≡ false
    → list_any p (xs ++ ys) ≡ false
none-append p [] ys none more = more
none-append p (x ∷ xs) ys none more = by (p x) refl none (λ rest. none-append p xs ys rest more)
  where
    by : (is : Bool) → p x ≡ is → (is || list_any p xs) ≡ false
        → (list_any p xs ≡ false → list_any p (xs ++ ys) ≡ false) → list_any p (x ∷ (xs ++ ys)) ≡ false
    by true is none later = absurd (false≢true (sym none))
    by false is none later = rw is (later none)

not-true : (b : Bool) → not b ≡ true → b ≡ false
not-true true is = sym is
not-true false is = refl

-- members after others, of which the first closes nothing
members-more : (done part : List ℕ) → are_members done ≡ true → are_members part ≡ true
    → begins_with 93 part ≡ false → are_members (done ++ part) ≡ true
members-more [] part are more goes = absurd (false≢true are)
members-more (first ∷ later) [] are more goes = absurd (false≢true more)
members-more (first ∷ later) (byte ∷ rest) are more goes =
    ap not (none-append (λ b. b == 93) later (byte ∷ rest) (not-true _ are) (rw goes (not-true _ more)))

range-part : (first last : ℕ) → last ≢ 93 → are_members (first ∷ 45 ∷ last ∷ []) ≡ true
range-part first last other = rw (ne_eqb last 93 other) refl

-- a member that is a range, or one byte
pub member-range : {E : Type 0} (result : Result Member E) (text after rest : List ℕ) (first last : ℕ)
    → text ≡ first ∷ after → after ≡ 45 ∷ last ∷ drop 2 after → last ≢ 93 → rest ≡ drop 1 (drop 1 after)
    → IfOk result (λ member. (member.first ≡ first) × (member.last ≡ last) × (first ≤ last) × (member.rest.now ≡ rest))
    → IfOk result (λ member. AreMembersBefore text member.rest.now)
member-range (Ok member) text after rest first last is ranges other same (begins, ends, ordered, goes) = (
  first ∷ 45 ∷ last ∷ [],
  is ∙ ap (λ l. first ∷ l) ranges
      ∙ ap (λ l. first ∷ 45 ∷ last ∷ l) (sym (goes ∙ same ∙ ap (λ l. drop 1 (drop 1 l)) ranges)),
  range-part first last other,
)
member-range (Err e) text after rest first last is ranges other same goes = tt

pub member-byte : {E : Type 0} (result : Result Member E) (text after : List ℕ) (first : ℕ)
    → text ≡ first ∷ after
    → IfOk result (λ member. (member.first ≡ first) × (member.last ≡ first) × (first ≤ first)
    × (member.rest.now ≡ after))
    → IfOk result (λ member. AreMembersBefore text member.rest.now)
member-byte (Ok member) text after first is (begins, ends, ordered, goes) =
    (first ∷ [], is ∙ ap (λ l. first ∷ l) (sym goes), refl)
member-byte (Err e) text after first is goes = tt

-- the first byte of a text and what follows it
pub first-rest : (text : List ℕ) → 1 ≤ length text → text ≡ get_or text 0 0 ∷ take (length text - 1) (drop 1 text)
first-rest [] some = absurd (omega arith)
first-rest (first ∷ later) some =
    ap (λ l. first ∷ l) (sym (take_all (length (first ∷ later) - 1) later (omega arith)))

-- a range goes on, or another member comes
pub members-range : (text old new : List ℕ) (last : ℕ) → AreMembersBefore text old
    → old ≡ 45 ∷ last ∷ drop 2 old → last ≢ 93 → new ≡ drop 1 (drop 1 old) → AreMembersBefore text new
members-range text old new last (done, is, are) ranges other goes = (
  done ++ 45 ∷ last ∷ [],
  is ∙ ap (λ l. done ++ l)
      (ranges ∙ ap (λ l. 45 ∷ last ∷ l) (sym (goes ∙ ap (λ l. drop 1 (drop 1 l)) ranges)))
      ∙ sym (append_assoc done (45 ∷ last ∷ []) new),
  members-more done (45 ∷ last ∷ []) are (rw (ne_eqb last 93 other) refl) refl,
)

pub members-next : (text old new : List ℕ) → AreMembersBefore text old → begins_with 93 old ≡ false
    → AreMembersBefore old new → AreMembersBefore text new
members-next text old new (done, is, are) goes (part, ends, more) = (
  done ++ part,
  is ∙ ap (λ l. done ++ l) ends ∙ sym (append_assoc done part new),
  members-more done part are more (begins part ends more),
)
  where
    begins : (part : List ℕ) → old ≡ part ++ new → are_members part ≡ true → begins_with 93 part ≡ false
    begins [] ends more = refl
    begins (byte ∷ rest) ends more = ap (begins_with 93) (sym ends) ∙ goes

-- a class by its members, with a mark before them and without one
class-plain : (text rest : List ℕ) → is_negated text ≡ false → AreMembersBefore text (93 ∷ rest)
    → IsClassBefore text rest
class-plain text rest plain ([], is, are) = absurd (false≢true are)
class-plain text rest plain (first ∷ later, is, are) =
    let same : is_negated (first ∷ later) ≡ false = ap is_negated (sym is) ∙ plain in
    (first ∷ later, is, rw same are)

pub plain-members : {E : Type 0} (result : Result Class E) (text : List ℕ) → is_negated text ≡ false
    → IfOk result (λ class. AreMembersBefore text (93 ∷ class.rest.now))
    → IfOk result (λ class. IsClassBefore text class.rest.now)
plain-members (Ok class) text plain members = class-plain text class.rest.now plain members
plain-members (Err e) text plain members = tt

pub class-marked : (text rest : List ℕ) → is_negated text ≡ true → AreMembersBefore (drop 1 text) (93 ∷ rest)
    → IsClassBefore text rest
class-marked [] rest marked members = absurd (false≢true marked)
class-marked (mark ∷ later) rest marked (members, is, are) =
    (mark ∷ members, ap (λ l. mark ∷ l) is, rw marked are)
