-- The laws of `IsStripped`.
use Rattle.std.proofs.Common.{◌≡◌, ℕ, zero, suc, ◌+◌, ◌-◌, ◌*◌, ◌<◌, ◌≤◌, Bool, true, false, cond}
use Rattle.std.proofs.Common.{not, ◌&&◌, ◌==◌, ◌/◌}
use Rattle.std.proofs.Common.{List, [], ◌∷◌, ◌++◌, length, get_or, slice_get, slice_index, All}
use Rattle.std.proofs.Common.{Option, Some, None}
use Rattle.std.proofs.Common.{option_and_then, nat_lt, refl, sym, ap, ap₂, ◌∙◌, subst, inl, inr}
use Rattle.std.proofs.Common.{⊎_elim, arith}
use Rattle.std.proofs.Common.{get_or-drop}
use Rattle.std.proofs.lemmas.Bool.{true≢false, cases_lt, cases_eq, cases_Bool, cond-true}
use Rattle.std.proofs.lemmas.Bool.{cond-false, eqb-true, false_from_ne_true}
use Rattle.std.proofs.lemmas.List.{get_or_append_left, get_or_default}
use Rattle.std.proofs.lemmas.List.Folds.{list_any_at, list_any_none}
use Rattle.std.proofs.lemmas.Option.{slice_get_within, get_or_from_slice_get}
use Rattle.std.proofs.lemmas.Str.{length-encode, len_utf8_ascii}
use Rattle.std.specs.Char.{len_utf8, InScalarRange}
use Rattle.std.specs.Option.{option_or}
use Rattle.std.specs.List.{list_any}
use Rattle.regex_class.specs.Ranges.{in_ranges}
use Rattle.regex_hir.specs.Text.{is_some_and, has_bytes_at, char_at}
use Rattle.regex_hir.specs.Looks.{holds}
use Rattle.regex_hir.specs.Re.{Re, empty, literal, byte_in, char_in, look, cat, alt, group, plus}
use Rattle.regex_hir.specs.Re.{Trace, Rest, write, prefer, rounds, attempt}
use Rattle.regex_hir.specs.Meaning.{cat_all, alt_all, optional, copies, up_to, repeat}
use Rattle.regex_hir.specs.declared.look.Look.{Look}
use Rattle.regex_hir.proofs.AttemptLemmas.{cond_cong, attempt_cong, attempt_none}
use Rattle.regex_hir.proofs.MatchesLemmas.{Matches-IsSpan}
use Rattle.regex_hir.proofs.TextLemmas.{has_bytes_at_parts, has_bytes_at_fits, char_at_fits}
use Rattle.regex_hir.proofs.Utf8Lemmas.{char_at_cases, encode_two, encode_three, encode_four}
use Rattle.regex_hir.proofs.OptionLemmas.{option_cases}
use Rattle.grep_regex.specs.Clear.{is_among, is_clear, if_clear}
use Rattle.grep_regex.specs.Stripped.{IsStripped, AreStripped, AreAscii, IsThinned}
use Rattle.grep_regex.proofs.ClearLemmas.{clear-at, clear-from, clear-not, clear-more}

-- ---- what follows where the match is clear, and where it isn't

module _ (bytes hay : List ℕ) (start : ℕ) (rest : Rest) where
  goes-on : (j : ℕ) → is_clear bytes hay start j ≡ true → if_clear bytes hay start rest j ≡ rest j
  goes-on j clear = cond-true _ (rest j) None clear

  gives-up : (j : ℕ) → is_clear bytes hay start j ≡ false → if_clear bytes hay start rest j ≡ None
  gives-up j unclear = cond-false _ (rest j) None unclear

  -- from an unclear position on nothing is tried
  gives-up-from : (re : Re) (i : ℕ) → is_clear bytes hay start i ≡ false
      → attempt hay re (if_clear bytes hay start rest) i ≡ None
  gives-up-from re i unclear = attempt_none hay re _ i (λ j m.
      let span = Matches-IsSpan hay re i j m in
      gives-up j (clear-more bytes hay start i j (omega arith) unclear))

cond-none : (b : Bool) → let nothing : Option Trace = None in cond b nothing nothing ≡ nothing
cond-none true = refl
cond-none false = refl

-- ---- patterns without classes

pub stripped-empty : (bytes : List ℕ) → IsStripped bytes empty empty
unfolding attempt
stripped-empty bytes = record { at = λ hay small rest s i le fits clear. sym (goes-on bytes hay s rest i clear) }

pub stripped-look : (bytes : List ℕ) (l : Look) → IsStripped bytes (look l) (look l)
unfolding attempt
stripped-look bytes l = record {
  at = λ hay small rest s i le fits clear. ap (λ (x : Option Trace). cond (holds l hay i) x None)
      (sym (goes-on bytes hay s rest i clear));
}

-- the literal's bytes stand in the haystack
literal-at : (hay : List ℕ) (i : ℕ) (bs : List ℕ) → has_bytes_at hay i bs ≡ true → (k : ℕ) → k < length bs →
    slice_index hay (i + k) ≡ slice_index bs k
literal-at hay i bs has k below =
    sym (get_or-drop i hay k 0) ∙ (ap (λ l. get_or l k 0) (has_bytes_at_parts hay i bs has)
    ∙ get_or_append_left bs _ 0 k below)

pub stripped-literal : (bytes bs : List ℕ) → list_any (is_among bytes) bs ≡ false
    → IsStripped bytes (literal bs) (literal bs)
unfolding attempt
stripped-literal bytes bs none = record {
  at = λ hay small rest s i le fits clear. cond_cong (has_bytes_at hay i bs) _ _ None
      (λ has. sym (goes-on bytes hay s rest (i + length bs)
      (clear-from bytes hay s (i + length bs) (λ k low high inside. ⊎_elim
      (λ (before : k < i). clear-at bytes hay s i clear k low before inside)
      (λ (within : i ≤ k).
      let back : i + (k - i) ≡ k = omega arith in
      let below : k - i < length bs = omega arith in
      ap (is_among bytes) (sym (ap (slice_index hay) back) ∙ literal-at hay i bs has (k - i) below)
      ∙ absent (k - i) below)
      (cases_lt k i)))));
}
  where
    absent : (k : ℕ) → k < length bs → is_among bytes (slice_index bs k) ≡ false
    absent k below = ⊎_elim
        (λ has. absurd (true≢false (sym (list_any_at (is_among bytes) bs k 0 below has) ∙ none)))
        (λ hasnt. hasnt)
        (cases_Bool (is_among bytes (slice_index bs k)))

-- a literal that has one of the bytes becomes a class without members
module _ (bytes bs : List ℕ) (byte : ℕ) (among : is_among bytes byte ≡ true) (has : is_among bs byte ≡ true) where
  literal-unclear : (hay : List ℕ) (s i : ℕ) → s ≤ i → i ≤ length hay → has_bytes_at hay i bs ≡ true
      → is_clear bytes hay s (i + length bs) ≡ false
  literal-unclear hay s i le fits found = false_from_ne_true _ (λ clear. true≢false (
      sym has ∙ list_any_none (λ b. byte == b) bs (λ k d below. false_from_ne_true _ (λ same.
      let sized : i + k < length hay = omega (arith, has_bytes_at_fits hay i bs found, below, fits) in
      true≢false (sym among ∙ (ap (is_among bytes) (eqb-true byte (get_or bs k d) same
      ∙ (get_or_default bs k d 0 below ∙ sym (literal-at hay i bs found k below)))
      ∙ clear-at bytes hay s (i + length bs) clear (i + k) (omega arith) (omega arith) sized))))))

  pub stripped-lost : IsStripped bytes (literal bs) (byte_in [])
  unfolding attempt in_ranges
  stripped-lost = record {
    at = λ hay small rest s i le fits clear. cond-false _ (rest (i + 1)) None (no-member (slice_get hay i))
        ∙ sym (⊎_elim
        (λ found. cond-true _ (if_clear bytes hay s rest (i + length bs)) None found
        ∙ gives-up bytes hay s rest (i + length bs) (literal-unclear hay s i le fits found))
        (λ other. cond-false _ (if_clear bytes hay s rest (i + length bs)) None other)
        (cases_Bool (has_bytes_at hay i bs)));
  }
    where
      no-member : (o : Option ℕ) → is_some_and o (in_ranges []) ≡ false
      no-member None = refl
      no-member (Some x) = refl

-- ---- classes

-- a member that is none of the bytes stays, and another one is no member any more
thinned-kept : (bytes : List ℕ) (before after : List (ℕ × ℕ)) → IsThinned bytes before after → (x : ℕ) → x ≤ 0x10_FFFF →
    is_among bytes x ≡ false → in_ranges after x ≡ in_ranges before x
thinned-kept bytes before after thin x small hasnt = thin x small
    ∙ (ap (λ b. in_ranges before x && not b) hasnt ∙ and-true (in_ranges before x))
  where
    and-true : (b : Bool) → (b && true) ≡ b
    and-true true = refl
    and-true false = refl

thinned-gone : (bytes : List ℕ) (before after : List (ℕ × ℕ)) → IsThinned bytes before after → (x : ℕ) → x ≤ 0x10_FFFF →
    is_among bytes x ≡ true → in_ranges after x ≡ false
thinned-gone bytes before after thin x small has = thin x small
    ∙ (ap (λ b. in_ranges before x && not b) has ∙ and-false (in_ranges before x))
  where
    and-false : (b : Bool) → (b && false) ≡ false
    and-false true = refl
    and-false false = refl

-- a step over a part of the haystack that is clear, or over one that isn't
module _ (bytes hay : List ℕ) (s : ℕ) (rest : Rest) (i j : ℕ) where
  clear-step : is_clear bytes hay s i ≡ true → ((k : ℕ) → i ≤ k → k < j → k < length hay
      → is_among bytes (slice_index hay k) ≡ false) →
      rest j ≡ if_clear bytes hay s rest j
  clear-step clear each = sym (goes-on bytes hay s rest j (clear-from bytes hay s j (λ k low high inside. ⊎_elim
      (λ (before : k < i). clear-at bytes hay s i clear k low before inside)
      (λ (within : i ≤ k). each k within high inside)
      (cases_lt k i))))

  unclear-step : s ≤ i → i < j → i < length hay → is_among bytes (slice_index hay i) ≡ true
      → if_clear bytes hay s rest j ≡ None
  unclear-step le more inside has = gives-up bytes hay s rest j (clear-not bytes hay s j i le more inside has)

-- one step of a class: what the class after gives is what the class before gives where the match is clear
class-step : (bytes : List ℕ) (before after : List (ℕ × ℕ)) → IsThinned bytes before after → (x : ℕ) → x ≤ 0x10_FFFF
    → (r g : Option Trace) →
    (is_among bytes x ≡ true → g ≡ None) → (is_among bytes x ≡ false → r ≡ g) →
    cond (in_ranges after x) r None ≡ cond (in_ranges before x) g None
class-step bytes before after thin x small r g gone kept = ⊎_elim
    (λ has. ap (λ b. cond b r None) (thinned-gone bytes before after thin x small has)
    ∙ (sym (cond-none (in_ranges before x)) ∙ ap (λ o. cond (in_ranges before x) o None) (sym (gone has))))
    (λ hasnt. ap (λ b. cond b r None) (thinned-kept bytes before after thin x small hasnt)
    ∙ ap (λ o. cond (in_ranges before x) o None) (kept hasnt))
    (cases_Bool (is_among bytes x))

pub stripped-byte_in : (bytes : List ℕ) (before after : List (ℕ × ℕ)) → IsThinned bytes before after
    → IsStripped bytes (byte_in before) (byte_in after)
unfolding attempt
stripped-byte_in bytes before after thin = record {
  at = λ hay small rest s i le fits clear. ⊎_elim
      (λ none. ap (λ (o : Option ℕ). cond (is_some_and o (in_ranges after)) (rest (i + 1)) None) none
      ∙ sym (ap (λ (o : Option ℕ). cond (is_some_and o (in_ranges before)) (if_clear bytes hay s rest (i + 1)) None)
      none))
      (λ some.
      let inside : i < length hay = slice_get_within hay i some.0 some.1 in
      let at : slice_index hay i ≡ some.0 = get_or_from_slice_get hay i some.0 0 some.1 in
      let low : some.0 < 256 = subst (λ x. x < 256) at (small i 0 inside) in
      ap (λ (o : Option ℕ). cond (is_some_and o (in_ranges after)) (rest (i + 1)) None) some.1
      ∙ (class-step bytes before after thin some.0 (omega arith) (rest (i + 1)) (if_clear bytes hay s rest (i + 1))
      (λ has. unclear-step bytes hay s rest i (i + 1) le (omega arith) inside (ap (is_among bytes) at ∙ has))
      (λ hasnt. clear-step bytes hay s rest i (i + 1) clear (λ k low high inside.
      let same : k ≡ i = omega arith in
      ap (λ n. is_among bytes (slice_index hay n)) same ∙ (ap (is_among bytes) at ∙ hasnt)))
      ∙ sym (ap (λ (o : Option ℕ). cond (is_some_and o (in_ranges before)) (if_clear bytes hay s rest (i + 1)) None)
      some.1)))
      (option_cases (slice_get hay i));
}

-- ---- characters

not-among : (bytes : List ℕ) → AreAscii bytes → (x : ℕ) → 128 ≤ x → is_among bytes x ≡ false
not-among bytes ascii x high = ⊎_elim
    (λ has. absurd (omega (arith, ascii x has)))
    (λ hasnt. hasnt)
    (cases_Bool (is_among bytes x))

-- a byte at k is no less than 128
record IsHighAt (hay : List ℕ) (k : ℕ) : Type 0 where
  high : 128 ≤ slice_index hay k

high-at : (hay : List ℕ) (p k q x : ℕ) → slice_index hay (p + k) ≡ 128 + x → q ≡ p + k → IsHighAt hay q
high-at hay p k q x is same =
    let eq : slice_index hay q ≡ 128 + x = ap (slice_index hay) same ∙ is in
    record { high = omega (arith, eq) }

-- each byte of a character that is not ASCII is 128 or more
char-high : (hay : List ℕ) (p c : ℕ) → char_at hay p ≡ Some c → 128 ≤ c → (k : ℕ) → p ≤ k → k < p + len_utf8 c
    → IsHighAt hay k
char-high hay p c found big k low high = elim (char_at_cases hay p c found).1 [
  | inl one ↦ absurd (omega (arith, one.0))
  | inr (inl two) ↦
      let size : len_utf8 c ≡ 2 = sym (length-encode c) ∙ ap length (encode_two c two.0 two.1) in
      ⊎_elim (λ (at : k ≡ p). high-at hay p 0 k _ (lead _ (64 + c / 64) two.3 (omega arith)) (omega (arith, at)))
      (λ other. high-at hay p 1 k _ two.4 (omega (arith, size, other)))
      (cases_eq k p)
  | inr (inr (inl three)) ↦
      let size : len_utf8 c ≡ 3 = sym (length-encode c) ∙ ap length (encode_three c three.0 three.1) in
      ⊎_elim (λ (at : k ≡ p). high-at hay p 0 k _ (lead _ (96 + c / 4096) three.3 (omega arith)) (omega (arith, at)))
      (λ other. ⊎_elim (λ (at : k ≡ p + 1). high-at hay p 1 k _ three.4 at)
      (λ another. high-at hay p 2 k _ three.5 (omega (arith, size, other, another)))
      (cases_eq k (p + 1)))
      (cases_eq k p)
  | inr (inr (inr four)) ↦
      let size : len_utf8 c ≡ 4 = sym (length-encode c) ∙ ap length (encode_four c four.0) in
      ⊎_elim (λ (at : k ≡ p). high-at hay p 0 k _ (lead _ (112 + c / 262144) four.2 (omega arith)) (omega (arith, at)))
      (λ other. ⊎_elim (λ (at : k ≡ p + 1). high-at hay p 1 k _ four.3 at)
      (λ another. ⊎_elim (λ (at : k ≡ p + 2). high-at hay p 2 k _ four.4 at)
      (λ third. high-at hay p 3 k _ four.5 (omega (arith, size, other, another, third)))
      (cases_eq k (p + 2)))
      (cases_eq k (p + 1)))
      (cases_eq k p)
]
  where
    lead : (n x : ℕ) → slice_index hay p ≡ n → n ≡ 128 + x → slice_index hay (p + 0) ≡ 128 + x
    lead n x is same = let back : p + 0 ≡ p = omega arith in ap (slice_index hay) back ∙ (is ∙ same)

pub stripped-char_in : (bytes : List ℕ) → AreAscii bytes → (before after : List (ℕ × ℕ))
    → IsThinned bytes before after →
    IsStripped bytes (char_in before) (char_in after)
unfolding attempt
stripped-char_in bytes ascii before after thin = record {
  at = λ hay small rest s i le fits clear. ⊎_elim
      (λ none. ap (option_and_then (λ c. cond (in_ranges after c) (rest (i + len_utf8 c)) None)) none
      ∙ sym (ap (option_and_then (λ c. cond (in_ranges before c) (if_clear bytes hay s rest (i + len_utf8 c)) None))
      none))
      (λ some.
      let size : i + len_utf8 some.0 ≤ length hay = char_at_fits hay i some.0 some.1 in
      let cases = char_at_cases hay i some.0 some.1 in
      ap (option_and_then (λ c. cond (in_ranges after c) (rest (i + len_utf8 c)) None)) some.1
      ∙ (class-step bytes before after thin some.0 (scalar-small some.0 cases.0)
      (rest (i + len_utf8 some.0)) (if_clear bytes hay s rest (i + len_utf8 some.0))
      (λ has.
      let low : some.0 < 128 = ascii some.0 has in
      let one : len_utf8 some.0 ≡ 1 = len_utf8_ascii some.0 low in
      unclear-step bytes hay s rest i (i + len_utf8 some.0) le (omega (arith, one)) (omega (arith, one, size))
      (ap (is_among bytes) (char-low hay i some.0 some.1 low) ∙ has))
      (λ hasnt. clear-step bytes hay s rest i (i + len_utf8 some.0) clear (λ k low high inside. ⊎_elim
      (λ (little : some.0 < 128).
      let one : len_utf8 some.0 ≡ 1 = len_utf8_ascii some.0 little in
      let same : k ≡ i = omega (arith, one) in
      ap (λ n. is_among bytes (slice_index hay n)) same
      ∙ (ap (is_among bytes) (char-low hay i some.0 some.1 little) ∙ hasnt))
      (λ (big : 128 ≤ some.0). not-among bytes ascii (slice_index hay k)
      (char-high hay i some.0 some.1 big k low high).high)
      (cases_lt some.0 128)))
      ∙ sym (ap (option_and_then (λ c. cond (in_ranges before c) (if_clear bytes hay s rest (i + len_utf8 c)) None))
      some.1)))
      (option_cases (char_at hay i));
}
  where
    scalar-small : (c : ℕ) → InScalarRange c → c ≤ 0x10_FFFF
    scalar-small c is = omega arith

    char-low : (hay : List ℕ) (p c : ℕ) → char_at hay p ≡ Some c → c < 128 → slice_index hay p ≡ c
    char-low hay p c found low = elim (char_at_cases hay p c found).1 [
      | inl one ↦ one.2
      | inr (inl two) ↦ absurd (omega (arith, two.0))
      | inr (inr (inl three)) ↦ absurd (omega (arith, three.0))
      | inr (inr (inr four)) ↦ absurd (omega (arith, four.0))
    ]

-- ---- patterns of patterns

-- what follows is the same, where the match is clear
module _ (bytes hay : List ℕ) (s i : ℕ) (re : Re) (f g : Rest) (le : s ≤ i) (fits : i ≤ length hay) where
  -- gated rests agree if they do at clear positions, and the second gives nothing at the others
  gate-cong : ((j : ℕ) → i ≤ j → j ≤ length hay → is_clear bytes hay s j ≡ true → f j ≡ g j) →
      ((j : ℕ) → i ≤ j → is_clear bytes hay s j ≡ false → g j ≡ None) →
      attempt hay re (if_clear bytes hay s f) i ≡ attempt hay re g i
  gate-cong same none = attempt_cong hay re _ _ i (λ j m.
      let span = Matches-IsSpan hay re i j m in
      ⊎_elim
      (λ clear. goes-on bytes hay s f j clear ∙ same j (omega arith) (omega arith) clear)
      (λ unclear. gives-up bytes hay s f j unclear ∙ sym (none j (omega arith) unclear))
      (cases_Bool (is_clear bytes hay s j)))

pub stripped-cat : (bytes : List ℕ) {a b c d : Re} → IsStripped bytes a b → IsStripped bytes c d
    → IsStripped bytes (cat a c) (cat b d)
unfolding attempt
stripped-cat bytes {a} {b} {c} {d} p q = record {
  at = λ hay small rest s i le fits clear. p.at hay small (attempt hay d rest) s i le fits clear
      ∙ gate-cong bytes hay s i a (attempt hay d rest) (attempt hay c (if_clear bytes hay s rest)) le fits
      (λ j from to here. q.at hay small rest s j (omega arith) to here)
      (λ j from unclear. gives-up-from bytes hay s rest c j unclear);
}

pub stripped-alt : (bytes : List ℕ) {a b c d : Re} → IsStripped bytes a b → IsStripped bytes c d
    → IsStripped bytes (alt a c) (alt b d)
unfolding attempt
stripped-alt bytes p q = record {
  at = λ hay small rest s i le fits clear. ap₂ option_or (p.at hay small rest s i le fits clear)
      (q.at hay small rest s i le fits clear);
}

pub stripped-group : (bytes : List ℕ) (n : ℕ) {a b : Re} → IsStripped bytes a b
    → IsStripped bytes (group n a) (group n b)
unfolding attempt
stripped-group bytes n {a} {b} p = record {
  at = λ hay small rest s i le fits clear. ap (write (2 * n) i)
      (p.at hay small (λ j. write (2 * n + 1) j (rest j)) s i le fits clear
      ∙ gate-cong bytes hay s i a (λ j. write (2 * n + 1) j (rest j))
      (λ j. write (2 * n + 1) j (if_clear bytes hay s rest j)) le fits
      (λ j from to here. ap (write (2 * n + 1) j) (sym (goes-on bytes hay s rest j here)))
      (λ j from unclear. ap (write (2 * n + 1) j) (gives-up bytes hay s rest j unclear)));
}

-- ---- loops

prefer-none : (greedy : Bool) → let nothing : Option Trace = None in prefer greedy nothing nothing ≡ nothing
prefer-none true = refl
prefer-none false = refl

module _ (bytes hay : List ℕ) (s : ℕ) (rest : Rest) (a : Re) where
  -- the rounds from an unclear position on give nothing
  rounds-none : (greedy : Bool) (n j : ℕ) → is_clear bytes hay s j ≡ false →
      rounds greedy (attempt hay a) (if_clear bytes hay s rest) n j ≡ None
  unfolding rounds
  rounds-none greedy zero j unclear = gives-up bytes hay s rest j unclear
  rounds-none greedy (suc n) j unclear =
      ap₂ (prefer greedy)
      (attempt_none hay a _ j (λ l m.
      let span = Matches-IsSpan hay a j l m in
      ap (λ (x : Option Trace). cond (nat_lt j l) x None)
      (rounds-none greedy n l (clear-more bytes hay s j l (omega arith) unclear))
      ∙ cond-none (nat_lt j l)))
      (gives-up bytes hay s rest j unclear)
      ∙ prefer-none greedy

  module _ (b : Re) (stripped : IsStripped bytes a b) (small : All (λ x. x < 256) hay) where
    rounds-same : (greedy : Bool) (n j : ℕ) → s ≤ j → j ≤ length hay → is_clear bytes hay s j ≡ true →
        rounds greedy (attempt hay b) rest n j ≡ rounds greedy (attempt hay a) (if_clear bytes hay s rest) n j
    unfolding rounds
    rounds-same greedy zero j le fits clear = sym (goes-on bytes hay s rest j clear)
    rounds-same greedy (suc n) j le fits clear =
        ap₂ (prefer greedy)
        (stripped.at hay small (λ l. cond (nat_lt j l) (rounds greedy (attempt hay b) rest n l) None) s j le fits clear
        ∙ gate-cong bytes hay s j a (λ l. cond (nat_lt j l) (rounds greedy (attempt hay b) rest n l) None)
        (λ l. cond (nat_lt j l) (rounds greedy (attempt hay a) (if_clear bytes hay s rest) n l) None) le fits
        (λ l from to here. ap (λ (x : Option Trace). cond (nat_lt j l) x None)
        (rounds-same greedy n l (omega arith) to here))
        (λ l from unclear. ap (λ (x : Option Trace). cond (nat_lt j l) x None) (rounds-none greedy n l unclear)
        ∙ cond-none (nat_lt j l)))
        (sym (goes-on bytes hay s rest j clear))

pub stripped-plus : (bytes : List ℕ) (greedy : Bool) {a b : Re} → IsStripped bytes a b
    → IsStripped bytes (plus greedy a) (plus greedy b)
unfolding attempt
stripped-plus bytes greedy {a} {b} p = record {
  at = λ hay small rest s i le fits clear.
      p.at hay small (λ j. cond (nat_lt i j) (rounds greedy (attempt hay b) rest (length hay - j) j) (rest j)) s i le
      fits clear
      ∙ gate-cong bytes hay s i a (λ j. cond (nat_lt i j) (rounds greedy (attempt hay b) rest (length hay - j) j)
      (rest j))
      (λ j. cond (nat_lt i j) (rounds greedy (attempt hay a) (if_clear bytes hay s rest) (length hay - j) j)
      (if_clear bytes hay s rest j)) le fits
      (λ j from to here. ap₂ (cond (nat_lt i j))
      (rounds-same bytes hay s rest a b p small greedy (length hay - j) j (omega arith) to here)
      (sym (goes-on bytes hay s rest j here)))
      (λ j from unclear. ap₂ (cond (nat_lt i j))
      (rounds-none bytes hay s rest a greedy (length hay - j) j unclear)
      (gives-up bytes hay s rest j unclear)
      ∙ cond-none (nat_lt i j));
}

stripped-optional : (bytes : List ℕ) (greedy : Bool) {a b : Re} → IsStripped bytes a b
    → IsStripped bytes (optional greedy a) (optional greedy b)
stripped-optional bytes true p = stripped-alt bytes p (stripped-empty bytes)
stripped-optional bytes false p = stripped-alt bytes (stripped-empty bytes) p

stripped-copies : (bytes : List ℕ) (n : ℕ) {a b c d : Re} → IsStripped bytes a b → IsStripped bytes c d
    → IsStripped bytes (copies n a c) (copies n b d)
stripped-copies bytes zero p q = q
stripped-copies bytes (suc n) p q = stripped-cat bytes p (stripped-copies bytes n p q)

stripped-up_to : (bytes : List ℕ) (greedy : Bool) (n : ℕ) {a b : Re} → IsStripped bytes a b
    → IsStripped bytes (up_to greedy n a) (up_to greedy n b)
stripped-up_to bytes greedy zero p = stripped-empty bytes
stripped-up_to bytes greedy (suc n) p = stripped-optional bytes greedy
    (stripped-cat bytes p (stripped-up_to bytes greedy n p))

pub stripped-repeat : (bytes : List ℕ) (least : ℕ) (most : Option ℕ) (greedy : Bool) (a b : Re) → IsStripped bytes a b →
    IsStripped bytes (repeat least most greedy a) (repeat least most greedy b)
unfolding repeat
stripped-repeat bytes zero None greedy a b p = stripped-optional bytes greedy (stripped-plus bytes greedy p)
stripped-repeat bytes (suc n) None greedy a b p = stripped-copies bytes n p (stripped-plus bytes greedy p)
stripped-repeat bytes least (Some most) greedy a b p = stripped-copies bytes least p
    (stripped-up_to bytes greedy (most - least) p)

pub stripped-cat_all : (bytes : List ℕ) (xs ys : List Re) → AreStripped bytes xs ys
    → IsStripped bytes (cat_all xs) (cat_all ys)
stripped-cat_all bytes [] [] p = stripped-empty bytes
stripped-cat_all bytes [] (y ∷ ys) p = absurd p
stripped-cat_all bytes (x ∷ xs) [] p = absurd p
stripped-cat_all bytes (x ∷ xs) (y ∷ ys) p = stripped-cat bytes p.0 (stripped-cat_all bytes xs ys p.1)

stripped-nothing : (bytes : List ℕ) → IsStripped bytes (byte_in []) (byte_in [])
unfolding in_ranges
stripped-nothing bytes = stripped-byte_in bytes [] [] (λ x small. refl)

pub stripped-alt_all : (bytes : List ℕ) (xs ys : List Re) → AreStripped bytes xs ys
    → IsStripped bytes (alt_all xs) (alt_all ys)
stripped-alt_all bytes [] [] p = stripped-nothing bytes
stripped-alt_all bytes [] (y ∷ ys) p = absurd p
stripped-alt_all bytes (x ∷ xs) [] p = absurd p
stripped-alt_all bytes (x ∷ xs) (y ∷ ys) p = stripped-alt bytes p.0 (stripped-alt_all bytes xs ys p.1)

-- one more pattern on either side
pub stripped-more : (bytes : List ℕ) (xs ys : List Re) (a b : Re) → AreStripped bytes xs ys → IsStripped bytes a b →
    AreStripped bytes (xs ++ a ∷ []) (ys ++ b ∷ [])
stripped-more bytes [] [] a b p q = (q, tt)
stripped-more bytes [] (y ∷ ys) a b p q = absurd p
stripped-more bytes (x ∷ xs) [] a b p q = absurd p
stripped-more bytes (x ∷ xs) (y ∷ ys) a b p q = (p.0, stripped-more bytes xs ys a b p.1 q)
