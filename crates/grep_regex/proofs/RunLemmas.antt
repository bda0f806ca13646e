-- Which sets a tree is a run of, by its form.
use Rattle.std.proofs.Common.{◌≡◌, ℕ, zero, suc, ◌+◌, ◌-◌, ◌<◌, ◌≤◌, Bool, true, false, cond, List, [], ◌∷◌, ◌++◌}
use Rattle.std.proofs.Common.{length}
use Rattle.std.proofs.Common.{Option, None, Some, slice_get, ltb, refl, sym, ap, ◌∙◌, subst, inl, inr, ⊎_elim, ◌⊎◌}
use Rattle.std.proofs.Common.{arith}
use Rattle.std.proofs.Common.{append_assoc, length-append, append-nil, lt-ltb, eqb, ◌&&◌, ◌||◌, ◌==◌, nat_lt, drop}
use Rattle.std.proofs.Common.{take, map, get_or}
use Rattle.std.proofs.lemmas.Bool.{cases_Bool, cond-true, cond-false, ltb-true, ltb-false, and_parts, and_from}
use Rattle.std.proofs.lemmas.Bool.{eqb-true, eq-eqb}
use Rattle.std.proofs.lemmas.List.{take_all, take_more, map-append}
use Rattle.std.proofs.lemmas.Str.{len_utf8_bounds}
use Rattle.std.specs.Char.{len_utf8}
use Rattle.std.proofs.lemmas.Option.{none-some, same_Some, slice_get-get_or}
use Rattle.regex_class.specs.Ranges.{in_ranges}
use Rattle.regex_hir.specs.Matches.{Matches, Rounds, one_round, next_round}
use Rattle.regex_hir.specs.declared.hir.Hir.{Hir}
use Rattle.regex_hir.specs.Meaning.{meaning, cat_all, copies, up_to, optional, repeat}
use Rattle.regex_hir.specs.Re.{Re, empty, literal, byte_in, char_in, cat, alt, group, plus}
use Rattle.regex_hir.proofs.TextLemmas.{char_at_ascii, char_at_fits, has_bytes_at_from}
use Rattle.regex_hir.proofs.AttemptLemmas.{is_some_and_parts}
use Rattle.regex_hir.specs.Text.{has_bytes_at, is_some_and}
use Rattle.regex_compile.proofs.ByteLemmas.{has_bytes_at-cons}
use Rattle.regex_syntax.proofs.SameLemmas.{in_ranges_single}
use Rattle.grep_matcher.specs.ByteSets.{holds}
use Rattle.grep_regex.specs.Classes.{decision_by, decision, AreBytes, IsAsciiOf, IsClassSet, IsRepeated, IsRun, Decides}
use Rattle.grep_regex.specs.Classes.{repeated}

-- what comes, and what a set decides of it
pub data DecisionCase (set : List Bool) (after : Option Bool) (next : Option ℕ) : Type 0 where
  nothing : next ≡ None → decision_by set after next ≡ Some false → DecisionCase set after next
  member : (b : ℕ) → next ≡ Some b → b < 128 → holds set b ≡ true → decision_by set after next ≡ after
      → DecisionCase set after next
  other : (b : ℕ) → next ≡ Some b → b < 128 → holds set b ≡ false → decision_by set after next ≡ Some false
      → DecisionCase set after next
  beyond : (b : ℕ) → next ≡ Some b → 128 ≤ b → decision_by set after next ≡ None → DecisionCase set after next

pub decision-case : (set : List Bool) (after : Option Bool) (next : Option ℕ) → DecisionCase set after next
decision-case set after None = nothing refl refl
decision-case set after (Some b) = ⊎_elim
    (λ ascii. let low = cond-true (ltb b 128) (cond (holds set b) after (Some false)) None ascii in ⊎_elim
    (λ has. member b refl (ltb-true b 128 ascii) has (low ∙ cond-true (holds set b) after (Some false) has))
    (λ has. other b refl (ltb-true b 128 ascii) has (low ∙ cond-false (holds set b) after (Some false) has))
    (cases_Bool (holds set b)))
    (λ high. beyond b refl (ltb-false b 128 high)
    (cond-false (ltb b 128) (cond (holds set b) after (Some false)) None high))
    (cases_Bool (ltb b 128))

pub some-apart : Some true ≡ Some false → ⊥
some-apart e = grind (arith, e)

none-apart : (b : Bool) → None ≡ Some b → ⊥
none-apart b e = none-some b e

-- what two runs of sets decide, one after the other
abbrev join : Option Bool → Option Bool → Option Bool
join None after = None
join (Some true) after = after
join (Some false) after = Some false

join-decision : (set : List Bool) (first after : Option Bool) (next : Option ℕ)
    → decision_by set (join first after) next ≡ join (decision_by set first next) after
join-decision set first after None = refl
join-decision set first after (Some b) = on_low (ltb b 128) (holds set b)
  where
    on_low : (low has : Bool) → cond low (cond has (join first after) (Some false)) None
        ≡ join (cond low (cond has first (Some false)) None) after
    on_low true true = refl
    on_low true false = refl
    on_low false has = refl

decision-append : (front back : List (List Bool)) (hay : List ℕ) (i : ℕ)
    → decision (front ++ back) hay i ≡ join (decision front hay i) (decision back hay (i + length front))
decision-append [] back hay i = let same : i ≡ i + 0 = omega arith in ap (decision back hay) same
decision-append (set ∷ front) back hay i =
    let same : i + 1 + length front ≡ i + suc (length front) = omega arith in
    ap (λ after. decision_by set after (slice_get hay i)) (decision-append front back hay (i + 1)
    ∙ ap (λ j. join (decision front hay (i + 1)) (decision back hay j)) same)
    ∙ join-decision set (decision front hay (i + 1)) (decision back hay (i + suc (length front))) (slice_get hay i)

join-true : (first after : Option Bool) → join first after ≡ Some true → (first ≡ Some true) × (after ≡ Some true)
join-true None after e = absurd (none-apart true e)
join-true (Some true) after e = (refl, e)
join-true (Some false) after e = absurd (some-apart (sym e))

join-false : (first after : Option Bool) → join first after ≡ Some false
    → (first ≡ Some false) ⊎ ((first ≡ Some true) × (after ≡ Some false))
join-false None after e = absurd (none-apart false e)
join-false (Some true) after e = inr (refl, e)
join-false (Some false) after e = inl refl

pub empty-run : IsRun empty []
empty-run = record {
  yes = λ hay i decided. omega arith;
  only = λ hay i j decided m. omega (arith, m);
  no = λ hay i j decided m. some-apart decided;
}

pub cat-run : (a b : Re) (front back : List (List Bool)) → IsRun a front → IsRun b back
    → IsRun (cat a b) (front ++ back)
cat-run a b front back p q = record {
  yes = λ hay i decided.
      let both = join-true _ _ (sym (decision-append front back hay i) ∙ decided) in
      let far : i + length front + length back ≡ i + length (front ++ back) =
      omega (arith, length-append front back) in (
        i + length front,
        p.yes hay i both.0,
        subst (Matches hay b (i + length front)) far (q.yes hay (i + length front) both.1),
      );
  only = λ hay i j decided m.
      let both = join-true _ _ (sym (decision-append front back hay i) ∙ decided) in
      let middle : m.0 ≡ i + length front = p.only hay i m.0 both.0 m.1 in
      let last = q.only hay (i + length front) j both.1 (subst (λ l. Matches hay b l j) middle m.2) in
      omega (arith, last, length-append front back);
  no = λ hay i j decided m. ⊎_elim
      (λ first. p.no hay i m.0 first m.1)
      (λ second.
      let middle : m.0 ≡ i + length front = p.only hay i m.0 second.0 m.1 in
      q.no hay (i + length front) j second.1 (subst (λ l. Matches hay b l j) middle m.2))
      (join-false _ _ (sym (decision-append front back hay i) ∙ decided));
}

-- a run, and then what decides
pub cat-decides : (a b : Re) (front back : List (List Bool)) → IsRun a front → Decides b back
    → Decides (cat a b) (front ++ back)
cat-decides a b front back p q = record {
  yes = λ hay i decided.
      let both = join-true _ _ (sym (decision-append front back hay i) ∙ decided) in
      let later = q.yes hay (i + length front) both.1 in
      (later.0, (i + length front, p.yes hay i both.0, later.1));
  no = λ hay i j decided m. ⊎_elim
      (λ first. p.no hay i m.0 first m.1)
      (λ second.
      let middle : m.0 ≡ i + length front = p.only hay i m.0 second.0 m.1 in
      q.no hay (i + length front) j second.1 (subst (λ l. Matches hay b l j) middle m.2))
      (join-false _ _ (sym (decision-append front back hay i) ∙ decided));
}

pub run-decides : (a : Re) (sets : List (List Bool)) → IsRun a sets → Decides a sets
run-decides a sets p = record {
  yes = λ hay i decided. (i + length sets, p.yes hay i decided);
  no = p.no;
}

pub group-run : (n : ℕ) (a : Re) (sets : List (List Bool)) → IsRun a sets → IsRun (group n a) sets
group-run n a sets p = record { yes = p.yes; only = p.only; no = p.no }

pub group-decides : (n : ℕ) (a : Re) (sets : List (List Bool)) → Decides a sets → Decides (group n a) sets
group-decides n a sets p = record { yes = p.yes; no = p.no }

-- what can match nothing always matches
pub nothing-decides : (a : Re) → ((hay : List ℕ) (i : ℕ) → Matches hay a i i) → Decides a []
nothing-decides a empties = record {
  yes = λ hay i decided. (i, empties hay i);
  no = λ hay i j decided m. some-apart decided;
}

-- the first round of a loop
first-round : (R : ℕ → ℕ → Type 0) (i j : ℕ) → Rounds R i j → (l : ℕ) × R i l
first-round R i j (one_round _ r) = (j, r)
first-round R i j (next_round l _ rs r) = first-round R i l rs

pub plus-decides : (greedy : Bool) (a : Re) (sets : List (List Bool)) → Decides a sets → Decides (plus greedy a) sets
plus-decides greedy a sets p = record {
  yes = λ hay i decided. let m = p.yes hay i decided in (m.0, one_round m.0 m.1);
  no = λ hay i j decided m. let first = first-round (Matches hay a) i j m in p.no hay i first.0 decided first.1;
}

pub optional-decides : (greedy : Bool) (a : Re) → Decides (optional greedy a) []
optional-decides true a = nothing-decides (alt a empty) (λ hay i. inr refl)
optional-decides false a = nothing-decides (alt empty a) (λ hay i. inl refl)

up_to-decides : (greedy : Bool) (n : ℕ) (a : Re) → Decides (up_to greedy n a) []
up_to-decides greedy zero a = nothing-decides empty (λ hay i. refl)
up_to-decides greedy (suc n) a = optional-decides greedy (cat a (up_to greedy n a))

copies-decides : (n : ℕ) (a b : Re) (sets back : List (List Bool)) → IsRun a sets → Decides b back
    → Decides (copies n a b) (repeated n sets ++ back)
copies-decides zero a b sets back p q = q
copies-decides (suc n) a b sets back p q =
    subst (Decides (cat a (copies n a b))) (sym (append_assoc sets (repeated n sets) back))
    (cat-decides a (copies n a b) sets (repeated n sets ++ back) p (copies-decides n a b sets back p q))

copies-run : (n : ℕ) (a : Re) (sets : List (List Bool)) → IsRun a sets → IsRun (copies n a empty) (repeated n sets)
copies-run zero a sets p = empty-run
copies-run (suc n) a sets p = cat-run a (copies n a empty) sets (repeated n sets) p (copies-run n a sets p)

-- the sets, repeated, at either end
pub repeated-more : (n : ℕ) (sets : List (List Bool)) → repeated n sets ++ sets ≡ repeated (suc n) sets
repeated-more zero sets = sym (append-nil sets)
repeated-more (suc n) sets = append_assoc sets (repeated n sets) sets ∙ ap (λ rest. sets ++ rest) (repeated-more n sets)

-- a repetition whose number of rounds is known
pub exact-run : (n : ℕ) (greedy : Bool) (a : Re) (sets : List (List Bool)) → IsRun a sets
    → IsRun (repeat n (Some n) greedy a) (repeated n sets)
unfolding repeat
exact-run n greedy a sets p =
    let none : n - n ≡ 0 = omega arith in
    rw none (copies-run n a sets p)

-- any other repetition: its least number of rounds decision
pub repeat-decides : (n : ℕ) (most : Option ℕ) (greedy : Bool) (a : Re) (sets : List (List Bool)) → IsRun a sets
    → Decides (repeat n most greedy a) (repeated n sets)
unfolding repeat
repeat-decides n (Some most) greedy a sets p =
    subst (Decides (copies n a (up_to greedy (most - n) a))) (append-nil (repeated n sets))
    (copies-decides n a (up_to greedy (most - n) a) sets [] p (up_to-decides greedy (most - n) a))
repeat-decides zero None greedy a sets p = optional-decides greedy (plus greedy a)
repeat-decides (suc n) None greedy a sets p =
    subst (Decides (copies n a (plus greedy a))) (repeated-more n sets)
    (copies-decides n a (plus greedy a) sets sets p (plus-decides greedy a sets (run-decides a sets p)))

-- of no round at least, whatever is repeated
pub never-decides : (most : Option ℕ) (greedy : Bool) (a : Re) → Decides (repeat zero most greedy a) []
unfolding repeat
never-decides (Some most) greedy a = up_to-decides greedy (most - 0) a
never-decides None greedy a = optional-decides greedy (plus greedy a)

module _ (ranges : List (ℕ × ℕ)) (set : List Bool) (ascii : IsAsciiOf ranges set) where
  -- what a set alone decides
  one-true : (next : Option ℕ) → decision_by set (Some true) next ≡ Some true
      → (b : ℕ) × (next ≡ Some b) × (b < 128) × (in_ranges ranges b ≡ true)
  one-true next decided = of (decision-case set (Some true) next)
    where
      of : DecisionCase set (Some true) next → (b : ℕ) × (next ≡ Some b) × (b < 128) × (in_ranges ranges b ≡ true)
      of (nothing is e) = absurd (some-apart (sym decided ∙ e))
      of (member b is low has e) = (b, is, low, sym (ascii b low) ∙ has)
      of (other b is low has e) = absurd (some-apart (sym decided ∙ e))
      of (beyond b is high e) = absurd (none-apart true (sym e ∙ decided))

  one-false : (next : Option ℕ) → decision_by set (Some true) next ≡ Some false
      → (next ≡ None) ⊎ ((b : ℕ) × (next ≡ Some b) × (b < 128) × (in_ranges ranges b ≡ false))
  one-false next decided = of (decision-case set (Some true) next)
    where
      of : DecisionCase set (Some true) next
          → (next ≡ None) ⊎ ((b : ℕ) × (next ≡ Some b) × (b < 128) × (in_ranges ranges b ≡ false))
      of (nothing is e) = inl is
      of (member b is low has e) = absurd (some-apart (sym e ∙ decided))
      of (other b is low has e) = inr (b, is, low, sym (ascii b low) ∙ has)
      of (beyond b is high e) = absurd (none-apart false (sym e ∙ decided))

  true-false : (b : ℕ) → in_ranges ranges b ≡ true → in_ranges ranges b ≡ false → ⊥
  true-false b has lacks = some-apart (ap Some (sym has ∙ lacks))

  pub byte-run : IsRun (byte_in ranges) (set ∷ [])
  byte-run = record {
    yes = λ hay i decided. let found = one-true (slice_get hay i) decided in (found.0, found.1, found.3, refl);
    only = λ hay i j decided m. m.3;
    no = λ hay i j decided m. ⊎_elim
        (λ none. none-some m.0 (sym none ∙ m.1))
        (λ found. let same : found.0 ≡ m.0 = same_Some found.0 m.0 (sym found.1 ∙ m.1) in
        true-false m.0 m.2 (subst (λ b. in_ranges ranges b ≡ false) same found.3))
        (one-false (slice_get hay i) decided);
  }

  one-long : (b : ℕ) → b < 128 → len_utf8 b ≡ 1
  one-long b low = cond-true (ltb b 128) 1 _ (lt-ltb b 128 low)

  pub char-run : IsRun (char_in ranges) (set ∷ [])
  char-run = record {
    yes = λ hay i decided.
        let found = one-true (slice_get hay i) decided in (
          found.0,
          char_at_ascii hay i found.0 found.1 found.2,
          found.3,
          ap (λ n. i + n) (sym (one-long found.0 found.2)),
        );
    only = λ hay i j decided m.
        let found = one-true (slice_get hay i) decided in
        let same : found.0 ≡ m.0 = same_Some found.0 m.0 (sym (char_at_ascii hay i found.0 found.1 found.2) ∙ m.1) in
        m.3 ∙ ap (λ n. i + n) (ap len_utf8 (sym same) ∙ one-long found.0 found.2);
    no = λ hay i j decided m. ⊎_elim
        (λ none.
        let inside : i < length hay = omega (arith, char_at_fits hay i m.0 m.1, len_utf8_bounds m.0) in
        none-some _ (sym none ∙ slice_get-get_or hay i 0 inside))
        (λ found.
        let same : found.0 ≡ m.0 = same_Some found.0 m.0 (sym (char_at_ascii hay i found.0 found.1 found.2) ∙ m.1) in
        true-false m.0 m.2 (subst (λ b. in_ranges ranges b ≡ false) same found.3))
        (one-false (slice_get hay i) decided);
  }

-- patterns that match the same are runs of the same sets
pub alike-run : (a b : Re) (sets : List (List Bool))
    → ((hay : List ℕ) (i j : ℕ) → Matches hay a i j → Matches hay b i j)
    → ((hay : List ℕ) (i j : ℕ) → Matches hay b i j → Matches hay a i j) → IsRun a sets → IsRun b sets
alike-run a b sets there back p = record {
  yes = λ hay i decided. there hay i (i + length sets) (p.yes hay i decided);
  only = λ hay i j decided m. p.only hay i j decided (back hay i j m);
  no = λ hay i j decided m. p.no hay i j decided (back hay i j m);
}

-- a literal is its first byte, and then the rest
literal-parts : (b : ℕ) (bs : List ℕ) (hay : List ℕ) (i j : ℕ) → Matches hay (literal (b ∷ bs)) i j
    → Matches hay (cat (byte_in ((b, b) ∷ [])) (literal bs)) i j
literal-parts b bs hay i j m =
    let first = is_some_and_parts (slice_get hay i) (λ x. eqb b x && has_bytes_at hay (i + 1) bs)
    (sym (has_bytes_at-cons hay i b bs) ∙ m.0) in
    let both = and_parts (eqb b first.0) (has_bytes_at hay (i + 1) bs) first.2 in
    let same : first.0 ≡ b = sym (eqb-true b first.0 both.0) in (
      i + 1,
      (first.0, first.1, in_ranges_single b first.0 ∙ subst (λ x. eqb x b ≡ true) (sym same) (eq-eqb b b refl), refl),
      (both.1, omega (arith, m.1)),
    )

literal-from : (b : ℕ) (bs : List ℕ) (hay : List ℕ) (i j : ℕ)
    → Matches hay (cat (byte_in ((b, b) ∷ [])) (literal bs)) i j → Matches hay (literal (b ∷ bs)) i j
literal-from b bs hay i j m =
    let at : m.0 ≡ i + 1 = m.1.3 in
    let same : m.1.0 ≡ b = eqb-true m.1.0 b (sym (in_ranges_single b m.1.0) ∙ m.1.2) in
    let stands : has_bytes_at hay (i + 1) bs ≡ true = subst (λ l. has_bytes_at hay l bs ≡ true) at m.2.0 in (
      has_bytes_at-cons hay i b bs ∙ (ap (λ o. is_some_and o (λ x. eqb b x && has_bytes_at hay (i + 1) bs)) m.1.1
          ∙ and_from _ _ (subst (λ x. eqb b x ≡ true) (sym same) (eq-eqb b b refl)) stands),
      omega (arith, m.2.1, at),
    )

pub literal-run : (bytes : List ℕ) (sets : List (List Bool)) → AreBytes bytes sets → IsRun (literal bytes) sets
literal-run [] [] all = record {
  yes = λ hay i decided. (has_bytes_at_from hay i [] (drop i hay) refl, omega arith);
  only = λ hay i j decided m. m.1;
  no = λ hay i j decided m. some-apart decided;
}
literal-run [] (set ∷ sets) all = absurd all
literal-run (b ∷ bs) [] all = absurd all
literal-run (b ∷ bs) (set ∷ sets) all =
    alike-run (cat (byte_in ((b, b) ∷ [])) (literal bs)) (literal (b ∷ bs)) (set ∷ sets)
    (literal-from b bs) (literal-parts b bs)
    (cat-run (byte_in ((b, b) ∷ [])) (literal bs) (set ∷ []) sets (byte-run ((b, b) ∷ []) set all.0)
    (literal-run bs sets all.1))

pub bytes-more : (bytes : List ℕ) (sets : List (List Bool)) (b : ℕ) (set : List Bool) → AreBytes bytes sets
    → IsAsciiOf ((b, b) ∷ []) set → AreBytes (bytes ++ b ∷ []) (sets ++ set ∷ [])
bytes-more [] [] b set all one = (one, tt)
bytes-more [] (x ∷ sets) b set all one = absurd all
bytes-more (y ∷ bytes) [] b set all one = absurd all
bytes-more (y ∷ bytes) (x ∷ sets) b set all one = (all.0, bytes-more bytes sets b set all.1 one)

-- parts one after another, and one more
cat-last : (parts : List Re) (a : Re) (hay : List ℕ) (i j : ℕ) → Matches hay (cat (cat_all parts) a) i j
    → Matches hay (cat_all (parts ++ a ∷ [])) i j
cat-last [] a hay i j m = (j, subst (λ l. Matches hay a l j) m.1 m.2, refl)
cat-last (first ∷ parts) a hay i j m =
    let front = m.1 in
    (front.0, front.1, cat-last parts a hay front.0 j (m.0, front.2, m.2))

last-cat : (parts : List Re) (a : Re) (hay : List ℕ) (i j : ℕ) → Matches hay (cat_all (parts ++ a ∷ [])) i j
    → Matches hay (cat (cat_all parts) a) i j
last-cat [] a hay i j m = (i, refl, subst (Matches hay a i) (sym m.2) m.1)
last-cat (first ∷ parts) a hay i j m =
    let later = last-cat parts a hay m.0 j m.2 in
    (later.0, (m.0, m.1, later.1), later.2)

pub all-run : (parts : List Re) (a : Re) (front back : List (List Bool)) → IsRun (cat_all parts) front → IsRun a back
    → IsRun (cat_all (parts ++ a ∷ [])) (front ++ back)
all-run parts a front back p q =
    alike-run (cat (cat_all parts) a) (cat_all (parts ++ a ∷ [])) (front ++ back) (cat-last parts a) (last-cat parts a)
    (cat-run (cat_all parts) a front back p q)

pub all-decides : (parts : List Re) (a : Re) (front back : List (List Bool)) → IsRun (cat_all parts) front
    → Decides a back → Decides (cat_all (parts ++ a ∷ [])) (front ++ back)
all-decides parts a front back p q =
    let both = cat-decides (cat_all parts) a front back p q in
    record {
      yes = λ hay i decided. let m = both.yes hay i decided in (m.0, cat-last parts a hay i m.0 m.1);
      no = λ hay i j decided m. both.no hay i j decided (last-cat parts a hay i j m);
    }

or-false : (a : Bool) → (a || false) ≡ a
or-false true = refl
or-false false = refl

and-true : (a : Bool) → (a && true) ≡ a
and-true true = refl
and-true false = refl

-- the set of one byte alone
pub only-byte : (b : ℕ) (before set : List Bool) → ((x : ℕ) → holds before x ≡ false)
    → ((x : ℕ) → holds set x ≡ (x == b || holds before x)) → IsAsciiOf ((b, b) ∷ []) set
only-byte b before set none added x low =
    added x ∙ (ap (λ t. x == b || t) (none x) ∙ (or-false (x == b) ∙ sym (in_ranges_single b x)))

pub below-bound : (has : Bool) (x bound : ℕ) → x < bound → (has && nat_lt x bound) ≡ has
below-bound has x bound low = ap (λ t. has && t) (lt-ltb x bound low) ∙ and-true has

pub byte-set-run : (ranges : List (ℕ × ℕ)) (sets : List (List Bool)) → IsClassSet ranges sets
    → IsRun (byte_in ranges) sets
byte-set-run ranges [] is = absurd is
byte-set-run ranges (set ∷ []) is = byte-run ranges set is
byte-set-run ranges (set ∷ (next ∷ sets)) is = absurd is

pub char-set-run : (ranges : List (ℕ × ℕ)) (sets : List (List Bool)) → IsClassSet ranges sets
    → IsRun (char_in ranges) sets
char-set-run ranges [] is = absurd is
char-set-run ranges (set ∷ []) is = char-run ranges set is
char-set-run ranges (set ∷ (next ∷ sets)) is = absurd is

pub repeated-run : (n most : ℕ) (greedy : Bool) (a : Re) (sets : List (List Bool)) → most ≡ n → IsRepeated a n sets
    → IsRun (repeat n (Some most) greedy a) sets
repeated-run n most greedy a sets same p =
    subst (λ m. IsRun (repeat n (Some m) greedy a) sets) (sym same)
    (subst (IsRun (repeat n (Some n) greedy a)) (sym p.is) (exact-run n greedy a p.one p.run))

pub repeated-decides : (n : ℕ) (most : Option ℕ) (greedy : Bool) (a : Re) (sets : List (List Bool))
    → IsRepeated a n sets → Decides (repeat n most greedy a) sets
repeated-decides n most greedy a sets p =
    subst (Decides (repeat n most greedy a)) (sym p.is) (repeat-decides n most greedy a p.one p.run)

-- one more part of a list
pub next-part : (subs : List Hir) (i : ℕ) (sub : Hir) (d : Hir) → i < length subs → get_or subs i d ≡ sub
    → map meaning (take (i + 1) subs) ≡ map meaning (take i subs) ++ meaning sub ∷ []
next-part subs i sub d inside is =
    ap (map meaning) (take_more subs i d inside ∙ ap (λ x. take i subs ++ x ∷ []) is)
    ∙ map-append meaning (take i subs) (sub ∷ [])

-- some parts of a list, and the last
pub last-decides : (subs : List Hir) (last : ℕ) (sub : Hir) (front back : List (List Bool)) → last + 1 ≡ length subs
    → get_or subs last sub ≡ sub → IsRun (cat_all (map meaning (take last subs))) front → Decides (meaning sub) back
    → Decides (cat_all (map meaning subs)) (front ++ back)
last-decides subs last sub front back is at run decided =
    let parts = next-part subs last sub sub (omega (arith, is)) at in
    let all : take (last + 1) subs ≡ subs = take_all (last + 1) subs (omega (arith, is)) in
    subst (λ xs. Decides (cat_all (map meaning xs)) (front ++ back)) all
    (subst (λ ps. Decides (cat_all ps) (front ++ back)) (sym parts)
    (all-decides (map meaning (take last subs)) (meaning sub) front back run decided))

pub none-decides : (subs : List Hir) → length subs ≡ 0 → Decides (cat_all (map meaning subs)) []
none-decides [] is = run-decides empty [] empty-run
none-decides (x ∷ subs) is = absurd (omega (arith, is))
