-- The laws of `SameEnds`.
use Rattle.std.proofs.Common.{◌≡◌, ℕ, zero, suc, ◌+◌, ◌-◌, ◌*◌, ◌<◌, Bool, true, false, cond, nat_lt}
use Rattle.std.proofs.Common.{List, [], ◌∷◌, ◌++◌, length, map, take, get_or, slice_get, Option, Some, None, option_map}
use Rattle.std.proofs.Common.{option_and_then, refl, sym, ap, ap₂, ◌∙◌, subst, Vec, Box, Global}
use Rattle.std.proofs.lemmas.List.{take_more, map-append}
use Rattle.std.specs.Option.{option_or}
use Rattle.regex_class.specs.declared.Class.{Class}
use Rattle.regex_class.specs.Ranges.{in_ranges}
use Rattle.regex_hir.specs.Text.{is_some_and, has_bytes_at, char_at}
use Rattle.regex_hir.specs.Looks.{holds}
use Rattle.regex_hir.specs.Re.{Re, empty, literal, byte_in, char_in, look, cat, alt, group, plus}
use Rattle.regex_hir.specs.Re.{Trace, Rest, accept, write, prefer, rounds, attempt}
use Rattle.regex_hir.specs.Meaning.{meaning, cat_all, alt_all, optional, copies, up_to, repeat}
use Rattle.regex_hir.specs.declared.look.Look as look_type
use Rattle.regex_hir.specs.declared.hir.Hir.{Hir}
use Rattle.regex_hir.specs.declared.hir.Hir.TheVariants.{Empty, Literal, Bytes, Chars, Look}
use Rattle.regex_hir.specs.declared.hir.Hir.TheVariants.{Repetition, Capture, Concat, Alternation}
use Rattle.regex_hir.proofs.MeaningLemmas.{meaning-Empty, meaning-Literal, meaning-Bytes, meaning-Chars, meaning-Look}
use Rattle.regex_hir.proofs.MeaningLemmas.{meaning-Repetition, meaning-Capture, meaning-Concat, meaning-Alternation}
use Rattle.regex_hir.specs.Find.{Match, find, first_from}
use Rattle.regex_vm.specs.Found.{span}
use Rattle.grep_regex.specs.SameEnds.{HasSameSpans, SameEnds, AreSameEnds, end_of}

-- ---- tests, and the first of two ways

ends-if : (b : Bool) (x y : Option Trace) → end_of x ≡ end_of y → end_of (cond b x None) ≡ end_of (cond b y None)
ends-if true x y same = same
ends-if false x y same = refl

ends-choice : (b : Bool) (x y u v : Option Trace) → end_of x ≡ end_of y → end_of u ≡ end_of v
    → end_of (cond b x u) ≡ end_of (cond b y v)
ends-choice true x y u v same other = same
ends-choice false x y u v same other = other

end-or : (x u : Option Trace) → end_of (option_or x u) ≡ option_or (end_of x) (end_of u)
end-or None u = refl
end-or (Some t) u = refl

ends-or : (x y u v : Option Trace) → end_of x ≡ end_of y → end_of u ≡ end_of v
    → end_of (option_or x u) ≡ end_of (option_or y v)
ends-or x y u v same other = end-or x u ∙ (ap₂ option_or same other ∙ sym (end-or y v))

ends-prefer : (greedy : Bool) (x y u v : Option Trace) → end_of x ≡ end_of y → end_of u ≡ end_of v
    → end_of (prefer greedy x u) ≡ end_of (prefer greedy y v)
ends-prefer true x y u v same other = ends-or x y u v same other
ends-prefer false x y u v same other = ends-or u v x y other same

end-write : (slot i : ℕ) (x : Option Trace) → end_of (write slot i x) ≡ end_of x
end-write slot i None = refl
end-write slot i (Some t) = refl

-- ---- patterns without patterns in them

pub ends-empty : SameEnds empty empty
unfolding attempt
ends-empty = record { at = λ hay rest others same i. same i }

pub ends-literal : (bs : List ℕ) → SameEnds (literal bs) (literal bs)
unfolding attempt
ends-literal bs = record {
  at = λ hay rest others same i. ends-if (has_bytes_at hay i bs) _ _ (same (i + length bs));
}

pub ends-byte_in : (rs : List (ℕ × ℕ)) → SameEnds (byte_in rs) (byte_in rs)
unfolding attempt
ends-byte_in rs = record {
  at = λ hay rest others same i. ends-if (is_some_and (slice_get hay i) (in_ranges rs)) _ _ (same (i + 1));
}

ends-then : (o : Option ℕ) (f g : ℕ → Option Trace) → ((c : ℕ) → end_of (f c) ≡ end_of (g c))
    → end_of (option_and_then f o) ≡ end_of (option_and_then g o)
ends-then None f g same = refl
ends-then (Some c) f g same = same c

pub ends-char_in : (rs : List (ℕ × ℕ)) → SameEnds (char_in rs) (char_in rs)
unfolding attempt
ends-char_in rs = record {
  at = λ hay rest others same i. ends-then (char_at hay i) _ _ (λ c. ends-if (in_ranges rs c) _ _ (same _));
}

pub ends-look : (l : look_type.Look) → SameEnds (look l) (look l)
unfolding attempt
ends-look l = record { at = λ hay rest others same i. ends-if (holds l hay i) _ _ (same i) }

-- ---- patterns of patterns

pub ends-cat : {a b c d : Re} → SameEnds a b → SameEnds c d → SameEnds (cat a c) (cat b d)
unfolding attempt
ends-cat {a} {b} {c} {d} p q = record {
  at = λ hay rest others same i. p.at hay (attempt hay c rest) (attempt hay d others) (q.at hay rest others same) i;
}

pub ends-alt : {a b c d : Re} → SameEnds a b → SameEnds c d → SameEnds (alt a c) (alt b d)
unfolding attempt
ends-alt p q = record {
  at = λ hay rest others same i. ends-or _ _ _ _ (p.at hay rest others same i) (q.at hay rest others same i);
}

-- a group ends where what is in it does
pub ends-group : (n : ℕ) {a b : Re} → SameEnds a b → SameEnds (group n a) b
unfolding attempt
ends-group n {a} {b} p = record {
  at = λ hay rest others same i. end-write (2 * n) i _
      ∙ p.at hay (λ j. write (2 * n + 1) j (rest j)) others (λ j. end-write (2 * n + 1) j (rest j) ∙ same j) i;
}

module _ (hay : List ℕ) (rest others : Rest) (same : (j : ℕ) → end_of (rest j) ≡ end_of (others j))
    {a b : Re} (p : SameEnds a b) where
  rounds-end : (greedy : Bool) (n j : ℕ) → end_of (rounds greedy (attempt hay a) rest n j)
      ≡ end_of (rounds greedy (attempt hay b) others n j)
  unfolding rounds
  rounds-end greedy zero j = same j
  rounds-end greedy (suc n) j = ends-prefer greedy _ _ _ _
      (p.at hay (λ l. cond (nat_lt j l) (rounds greedy (attempt hay a) rest n l) None)
      (λ l. cond (nat_lt j l) (rounds greedy (attempt hay b) others n l) None)
      (λ l. ends-if (nat_lt j l) _ _ (rounds-end greedy n l)) j)
      (same j)

pub ends-plus : (greedy : Bool) {a b : Re} → SameEnds a b → SameEnds (plus greedy a) (plus greedy b)
unfolding attempt
ends-plus greedy {a} {b} p = record {
  at = λ hay rest others same i. p.at hay
      (λ j. cond (nat_lt i j) (rounds greedy (attempt hay a) rest (length hay - j) j) (rest j))
      (λ j. cond (nat_lt i j) (rounds greedy (attempt hay b) others (length hay - j) j) (others j))
      (λ j. ends-choice (nat_lt i j) _ _ _ _ (rounds-end hay rest others same p greedy (length hay - j) j) (same j)) i;
}

ends-optional : (greedy : Bool) {a b : Re} → SameEnds a b → SameEnds (optional greedy a) (optional greedy b)
ends-optional true p = ends-alt p ends-empty
ends-optional false p = ends-alt ends-empty p

ends-copies : (n : ℕ) {a b c d : Re} → SameEnds a b → SameEnds c d → SameEnds (copies n a c) (copies n b d)
ends-copies zero p q = q
ends-copies (suc n) p q = ends-cat p (ends-copies n p q)

ends-up_to : (greedy : Bool) (n : ℕ) {a b : Re} → SameEnds a b → SameEnds (up_to greedy n a) (up_to greedy n b)
ends-up_to greedy zero p = ends-empty
ends-up_to greedy (suc n) p = ends-optional greedy (ends-cat p (ends-up_to greedy n p))

pub ends-repeat : (least : ℕ) (most : Option ℕ) (greedy : Bool) (a b : Re) → SameEnds a b
    → SameEnds (repeat least most greedy a) (repeat least most greedy b)
unfolding repeat
ends-repeat zero None greedy a b p = ends-optional greedy (ends-plus greedy p)
ends-repeat (suc n) None greedy a b p = ends-copies n p (ends-plus greedy p)
ends-repeat least (Some most) greedy a b p = ends-copies least p (ends-up_to greedy (most - least) p)

pub ends-cat_all : (xs ys : List Re) → AreSameEnds xs ys → SameEnds (cat_all xs) (cat_all ys)
ends-cat_all [] [] p = ends-empty
ends-cat_all [] (y ∷ ys) p = absurd p
ends-cat_all (x ∷ xs) [] p = absurd p
ends-cat_all (x ∷ xs) (y ∷ ys) p = ends-cat p.0 (ends-cat_all xs ys p.1)

pub ends-alt_all : (xs ys : List Re) → AreSameEnds xs ys → SameEnds (alt_all xs) (alt_all ys)
ends-alt_all [] [] p = ends-byte_in []
ends-alt_all [] (y ∷ ys) p = absurd p
ends-alt_all (x ∷ xs) [] p = absurd p
ends-alt_all (x ∷ xs) (y ∷ ys) p = ends-alt p.0 (ends-alt_all xs ys p.1)

-- one more pattern on either side
ends-more : (xs ys : List Re) (a b : Re) → AreSameEnds xs ys → SameEnds a b → AreSameEnds (xs ++ a ∷ []) (ys ++ b ∷ [])
ends-more [] [] a b p q = (q, tt)
ends-more [] (y ∷ ys) a b p q = absurd p
ends-more (x ∷ xs) [] a b p q = absurd p
ends-more (x ∷ xs) (y ∷ ys) a b p q = (p.0, ends-more xs ys a b p.1 q)

-- ---- trees, by their forms

pub same-Empty : (h : Hir) → h ≡ Empty → SameEnds (meaning h) (meaning Empty)
same-Empty h is = rw (is, meaning-Empty) ends-empty

pub same-Literal : (h : Hir) (a b : Vec ℕ Global) → h ≡ Literal a → b.items ≡ a.items
    → SameEnds (meaning h) (meaning (Literal b))
same-Literal h a b is same = rw (is, meaning-Literal a, meaning-Literal b, same) (ends-literal a.items)

pub same-Bytes : (h : Hir) (a b : Class) → h ≡ Bytes a → b.ranges.items ≡ a.ranges.items
    → SameEnds (meaning h) (meaning (Bytes b))
same-Bytes h a b is same = rw (is, meaning-Bytes a, meaning-Bytes b, same) (ends-byte_in a.ranges.items)

pub same-Chars : (h : Hir) (a b : Class) → h ≡ Chars a → b.ranges.items ≡ a.ranges.items
    → SameEnds (meaning h) (meaning (Chars b))
same-Chars h a b is same = rw (is, meaning-Chars a, meaning-Chars b, same) (ends-char_in a.ranges.items)

pub same-Look : (h : Hir) (l : look_type.Look) → h ≡ Look l → SameEnds (meaning h) (meaning (Look l))
same-Look h l is = rw (is, meaning-Look l) (ends-look l)

pub same-Repetition : (h : Hir) (least : ℕ) (most : Option ℕ) (greedy : Bool) (a b : Box Hir Global)
    → h ≡ Repetition least most greedy a → SameEnds (meaning a.value) (meaning b.value)
    → SameEnds (meaning h) (meaning (Repetition least most greedy b))
same-Repetition h least most greedy a b is p =
    rw (is, meaning-Repetition least most greedy a, meaning-Repetition least most greedy b)
    (ends-repeat least most greedy (meaning a.value) (meaning b.value) p)

pub same-Capture : (h : Hir) (index : ℕ) (a : Box Hir Global) (b : Hir) → h ≡ Capture index a
    → SameEnds (meaning a.value) (meaning b) → SameEnds (meaning h) (meaning b)
same-Capture h index a b is p = rw (is, meaning-Capture index a) (ends-group index p)

pub same-Concat : (h : Hir) (a b : Vec Hir Global) → h ≡ Concat a
    → AreSameEnds (map meaning a.items) (map meaning b.items) → SameEnds (meaning h) (meaning (Concat b))
same-Concat h a b is p = rw (is, meaning-Concat a, meaning-Concat b)
    (ends-cat_all (map meaning a.items) (map meaning b.items) p)

pub same-Alternation : (h : Hir) (a b : Vec Hir Global) → h ≡ Alternation a
    → AreSameEnds (map meaning a.items) (map meaning b.items) → SameEnds (meaning h) (meaning (Alternation b))
same-Alternation h a b is p = rw (is, meaning-Alternation a, meaning-Alternation b)
    (ends-alt_all (map meaning a.items) (map meaning b.items) p)

-- ---- steps of a loop over trees

pub same-more : (subs all after : List Hir) (i : ℕ) (d g : Hir) → i < length subs
    → AreSameEnds (map meaning (take i subs)) (map meaning all)
    → SameEnds (meaning (get_or subs i d)) (meaning g) → after ≡ all ++ g ∷ []
    → AreSameEnds (map meaning (take (i + 1) subs)) (map meaning after)
same-more subs all after i d g inside p q is =
    subst (λ x. AreSameEnds x (map meaning after))
    (sym (ap (map meaning) (take_more subs i d inside) ∙ map-append meaning (take i subs) (get_or subs i d ∷ [])))
    (subst (λ x. AreSameEnds (map meaning (take i subs) ++ meaning (get_or subs i d) ∷ []) x)
    (sym (ap (map meaning) is ∙ map-append meaning all (g ∷ [])))
    (ends-more (map meaning (take i subs)) (map meaning all) (meaning (get_or subs i d)) (meaning g) p q))

-- ---- the leftmost matches

spans-here : (i : ℕ) (t : Option Trace) → option_map span (option_map (λ u. record { start = i; trace = u }) t)
    ≡ option_map (λ e. (i, e)) (end_of t)
spans-here i None = refl
spans-here i (Some t) = refl

spans-or : (x y : Option Match) → option_map span (option_or x y) ≡ option_or (option_map span x) (option_map span y)
spans-or None y = refl
spans-or (Some m) y = refl

module _ (these others : Rest) (same : (i : ℕ) → end_of (these i) ≡ end_of (others i)) where
  spans-from : (n i : ℕ) → option_map span (first_from these n i) ≡ option_map span (first_from others n i)
  unfolding first_from
  spans-from zero i = refl
  spans-from (suc n) i =
      spans-or _ (first_from these n (i + 1))
      ∙ (ap₂ option_or
      (spans-here i (these i) ∙ (ap (option_map (λ e. (i, e))) (same i) ∙ sym (spans-here i (others i))))
      (spans-from n (i + 1))
      ∙ sym (spans-or _ (first_from others n (i + 1))))

pub same-spans : (a b : Re) → SameEnds a b → HasSameSpans b a
unfolding find
same-spans a b ends = record {
  at = λ text start. sym (spans-from (attempt text a accept) (attempt text b accept)
      (λ i. ends.at text accept accept (λ j. refl) i) (length text + 1 - start) start);
}
