-- A part of a haystack between line terminators, and the part alone: a local pattern matches in both alike.
use Rattle.std.proofs.Common.{◌≡◌, ℕ, zero, suc, ◌+◌, ◌-◌, ◌<◌, ◌≤◌, ◌⊎◌, ◌||◌, ◌&&◌, Bool, true, false, cond, List}
use Rattle.std.proofs.Common.{◌++◌, length, take, drop, get_or, slice_get, slice_index, Option, Some, None, nat_le}
use Rattle.std.proofs.Common.{◌==◌, refl, sym, ap, ◌∙◌, subst, inl, inr, ⊎_elim, arith, length-append, length-drop}
use Rattle.std.proofs.Common.{drop-drop, append_assoc, get_or-drop, le-leb, eq-eqb, encode_utf8, lit<, true≢false}
use Rattle.std.proofs.lemmas.Bool.{cases_lt, cases_eq, and_parts, and_from, cond-true}
use Rattle.std.proofs.lemmas.Bool.Decides.{nat_tests}
use Rattle.std.proofs.lemmas.List.{take-append-drop, take-append-le, drop-append-le, get_or_append_left}
use Rattle.std.proofs.Math.Seq.{take-append_seam}
use Rattle.std.proofs.lemmas.Option.{none-some, same_Some, slice_get_within, slice_get_past, slice_get-get_or}
use Rattle.std.proofs.lemmas.Option.{get_or_from_slice_get}
use Rattle.std.proofs.lemmas.Str.{length-encode, len_utf8_ascii, encode_ascii}
use Rattle.std.specs.Char.{len_utf8}
use Rattle.regex_hir.specs.Text.{is_some_and, byte_before, has_bytes_at, char_at, char_of_len_before, char_before}
use Rattle.regex_hir.specs.Looks.{Side, side_before, side_after, holds_between, holds, is_word, is_ascii_word, is_whole}
use Rattle.regex_hir.specs.Looks.{is_edge, is_lf, is_cr}
use Rattle.regex_hir.specs.declared.look.Look.{Look}
use Rattle.regex_hir.specs.declared.look.Look.TheVariants.{Start, End, StartLf, EndLf, StartCrlf, EndCrlf, WordAscii}
use Rattle.regex_hir.specs.declared.look.Look.TheVariants.{WordAsciiNegate, WordUnicode, WordUnicodeNegate}
use Rattle.regex_hir.specs.declared.look.Look.TheVariants.{WordStartAscii, WordEndAscii, WordStartUnicode}
use Rattle.regex_hir.specs.declared.look.Look.TheVariants.{WordEndUnicode, WordStartHalfAscii, WordEndHalfAscii}
use Rattle.regex_hir.specs.declared.look.Look.TheVariants.{WordStartHalfUnicode, WordEndHalfUnicode}
use Rattle.regex_hir.specs.Re.{Re, empty, literal, byte_in, char_in, look, cat, alt, group, plus}
use Rattle.regex_hir.specs.Matches.{Matches, Rounds, one_round, next_round}
use Rattle.regex_hir.proofs.MatchesLemmas.{Matches-IsSpan}
use Rattle.regex_hir.proofs.OptionLemmas.{none_of_no_value, option_cases}
use Rattle.regex_hir.proofs.TextLemmas.{byte_before-zero, byte_before-add-one, byte_before_some, has_bytes_at_parts}
use Rattle.regex_hir.proofs.TextLemmas.{has_bytes_at_from, char_at_parts, char_at_from, char_at_fits, char_at_ascii}
use Rattle.regex_hir.proofs.TextLemmas.{char_before_ascii, char_at_past, char_before-zero}
use Rattle.regex_hir.proofs.Utf8Lemmas.{char_at_cases, encode_two, encode_three, encode_four}
use Rattle.ucd_perl.proofs.PerlLemmas.{is_word_char-ascii}
use Rattle.ucd_perl.specs.Perl.{is_word_byte}
use Rattle.grep_matcher.specs.Lines.{byte_of}
use Rattle.grep_matcher.specs.declared.line_terminator.LineTerminator.{LineTerminator}
use Rattle.grep_matcher.specs.declared.line_terminator.LineTerminator.TheVariants.{Byte, Crlf}
use Rattle.grep_regex.specs.Locality.{is_local, is_local_look, is_crlf}

-- ---- terminators

-- the terminator's bytes are ASCII and in no word
pub record IsSeparated (terminator : LineTerminator) : Type 0 where
  pub low : byte_of terminator < 128
  pub apart : is_word_byte (byte_of terminator) ≡ false

-- the byte before which a line without its terminator ends
abbrev pub first_byte : LineTerminator → ℕ
first_byte (Byte b) = b
first_byte Crlf = 13

first-low : (terminator : LineTerminator) → IsSeparated terminator → first_byte terminator < 128
first-low (Byte b) sep = sep.low
first-low Crlf sep = lit< tt

-- ---- two sides that no local assertion distinguishes

record IsAlike (a b : Side) : Type 0 where
  word : is_word a ≡ is_word b
  ascii : is_ascii_word a ≡ is_ascii_word b
  whole : is_whole a ≡ is_whole b

record AreBefore (terminator : LineTerminator) (a b : Side) : Type 0 where
  alike : IsAlike a b
  line : is_local_look terminator StartLf ≡ true → (is_edge a || is_lf a) ≡ (is_edge b || is_lf b)
  crlf : is_crlf terminator ≡ true → (is_edge a || is_lf a) ≡ (is_edge b || is_lf b)
  cr : is_crlf terminator ≡ true → is_cr a ≡ is_cr b

record AreAfter (terminator : LineTerminator) (a b : Side) : Type 0 where
  alike : IsAlike a b
  line : is_local_look terminator EndLf ≡ true → (is_edge a || is_lf a) ≡ (is_edge b || is_lf b)
  crlf : is_crlf terminator ≡ true → (is_edge a || is_cr a) ≡ (is_edge b || is_cr b)
  lf : is_crlf terminator ≡ true → is_lf a ≡ is_lf b

alike-same : {a b : Side} → a ≡ b → IsAlike a b
alike-same e = record { word = ap is_word e; ascii = ap is_ascii_word e; whole = ap is_whole e }

before-same : (terminator : LineTerminator) {a b : Side} → a ≡ b → AreBefore terminator a b
before-same terminator e = record {
  alike = alike-same e;
  line = λ ok. ap (λ s. is_edge s || is_lf s) e;
  crlf = λ ok. ap (λ s. is_edge s || is_lf s) e;
  cr = λ ok. ap is_cr e;
}

after-same : (terminator : LineTerminator) {a b : Side} → a ≡ b → AreAfter terminator a b
after-same terminator e = record {
  alike = alike-same e;
  line = λ ok. ap (λ s. is_edge s || is_lf s) e;
  crlf = λ ok. ap (λ s. is_edge s || is_cr s) e;
  lf = λ ok. ap is_lf e;
}

abbrev edge : Side
edge = record { byte = None; char = None }

-- an ASCII byte
abbrev only : ℕ → Side
only b = record { byte = Some b; char = Some b }

alike-edge : (b : ℕ) → b < 128 → is_word_byte b ≡ false → IsAlike edge (only b)
alike-edge b low apart = record {
  word = sym (is_word_char-ascii b low ∙ apart);
  ascii = sym apart;
  whole = refl;
}

before-edge : (terminator : LineTerminator) → IsSeparated terminator
    → AreBefore terminator edge (only (byte_of terminator))
before-edge (Byte b) sep = record {
  alike = alike-edge b sep.low sep.apart;
  line = λ ok. sym ok;
  crlf = λ no. absurd (true≢false (sym no));
  cr = λ no. absurd (true≢false (sym no));
}
before-edge Crlf sep = record {
  alike = alike-edge 10 (lit< tt) refl;
  line = λ ok. refl;
  crlf = λ ok. refl;
  cr = λ ok. refl;
}

after-edge : (terminator : LineTerminator) → IsSeparated terminator
    → AreAfter terminator edge (only (first_byte terminator))
after-edge (Byte b) sep = record {
  alike = alike-edge b sep.low sep.apart;
  line = λ ok. sym ok;
  crlf = λ no. absurd (true≢false (sym no));
  lf = λ no. absurd (true≢false (sym no));
}
after-edge Crlf sep = record {
  alike = alike-edge 13 (lit< tt) refl;
  line = λ no. absurd (true≢false (sym no));
  crlf = λ ok. refl;
  lf = λ ok. refl;
}

side-is : (s : Side) (b c : Option ℕ) → s.byte ≡ b → s.char ≡ c → s ≡ record { byte = b; char = c }
side-is s b c p q = λ i. record { byte = p i; char = q i }

-- the sides of two positions at which each local assertion holds alike
record AreAround (terminator : LineTerminator) (s s2 t t2 : Side) : Type 0 where
  before : AreBefore terminator s s2
  alike : IsAlike t t2
  line : is_local_look terminator EndLf ≡ true → (is_edge t || is_lf t) ≡ (is_edge t2 || is_lf t2)
  start : is_crlf terminator ≡ true → holds_between StartCrlf s t ≡ holds_between StartCrlf s2 t2
  end : is_crlf terminator ≡ true → holds_between EndCrlf s t ≡ holds_between EndCrlf s2 t2

around-alike : (terminator : LineTerminator) (s s2 t t2 : Side) → AreBefore terminator s s2 → AreAfter terminator t t2
    → AreAround terminator s s2 t t2
unfolding holds_between
around-alike terminator s s2 t t2 a b = record {
  before = a;
  alike = b.alike;
  line = b.line;
  start = λ ok. cc (a.crlf ok, a.cr ok, b.lf ok);
  end = λ ok. cc (b.crlf ok, b.lf ok, a.cr ok);
}

-- a line feed is as the edge is, if no carriage return is before it
around-feed : (terminator : LineTerminator) (s s2 : Side) → AreBefore terminator s s2 → is_cr s ≡ false
    → AreAround terminator s s2 edge (only 10)
unfolding holds_between
around-feed terminator s s2 a bare = record {
  before = a;
  alike = alike-edge 10 (lit< tt) refl;
  line = λ ok. refl;
  start = λ ok. cc (a.crlf ok, a.cr ok, bare);
  end = λ ok. cc (a.cr ok, bare);
}

alike-holds : (terminator : LineTerminator) (l : Look) (s s2 t t2 : Side) → is_local_look terminator l ≡ true
    → AreAround terminator s s2 t t2 → holds_between l s t ≡ holds_between l s2 t2
unfolding holds_between
alike-holds terminator Start s s2 t t2 ok a = absurd (cc)
alike-holds terminator End s s2 t t2 ok a = absurd (cc)
alike-holds terminator StartLf s s2 t t2 ok a = a.before.line ok
alike-holds terminator EndLf s s2 t t2 ok a = a.line ok
alike-holds terminator StartCrlf s s2 t t2 ok a = a.start ok
alike-holds terminator EndCrlf s s2 t t2 ok a = a.end ok
alike-holds terminator WordAscii s s2 t t2 ok a = cc (a.before.alike.ascii, a.alike.ascii)
alike-holds terminator WordAsciiNegate s s2 t t2 ok a = cc (a.before.alike.ascii, a.alike.ascii)
alike-holds terminator WordUnicode s s2 t t2 ok a = cc (a.before.alike.word, a.alike.word)
alike-holds terminator WordUnicodeNegate s s2 t t2 ok a = cc (
  a.before.alike.whole,
  a.alike.whole,
  a.before.alike.word,
  a.alike.word,
)
alike-holds terminator WordStartAscii s s2 t t2 ok a = cc (a.before.alike.ascii, a.alike.ascii)
alike-holds terminator WordEndAscii s s2 t t2 ok a = cc (a.before.alike.ascii, a.alike.ascii)
alike-holds terminator WordStartUnicode s s2 t t2 ok a = cc (a.before.alike.word, a.alike.word)
alike-holds terminator WordEndUnicode s s2 t t2 ok a = cc (a.before.alike.word, a.alike.word)
alike-holds terminator WordStartHalfAscii s s2 t t2 ok a = cc (a.before.alike.ascii)
alike-holds terminator WordEndHalfAscii s s2 t t2 ok a = cc (a.alike.ascii)
alike-holds terminator WordStartHalfUnicode s s2 t t2 ok a = cc (a.before.alike.whole, a.before.alike.word)
alike-holds terminator WordEndHalfUnicode s s2 t t2 ok a = cc (a.alike.whole, a.alike.word)

-- ---- characters and ASCII bytes

-- a byte at q that is no less than 128 is no ASCII byte
high : (hay : List ℕ) (p k q x b : ℕ) → b < 128 → slice_index hay (p + k) ≡ 128 + x → q ≡ p + k
    → slice_get hay q ≡ Some b → ⊥
high hay p k q x b low is same found =
    let here : slice_index hay q ≡ b = get_or_from_slice_get hay q b 0 found in
    let eq : slice_index hay q ≡ 128 + x = ap (slice_index hay) same ∙ is in
    omega (arith, here, eq)

-- no character lies over an ASCII byte
over : (hay : List ℕ) (p q c b : ℕ) → b < 128 → char_at hay p ≡ Some c → p < q → q < p + len_utf8 c
    → slice_get hay q ≡ Some b → ⊥
over hay p q c b low found after below there = elim (char_at_cases hay p c found).1 [
  | inl one ↦ omega (arith, ap length (encode_ascii c one.0), length-encode c)
  | inr (inl two) ↦ high hay p 1 q _ b low two.4 (omega (arith, ap length (encode_two c two.0 two.1), length-encode c))
      there
  | inr (inr (inl three)) ↦
      let size = ap length (encode_three c three.0 three.1) in
      ⊎_elim (λ at. high hay p 1 q _ b low three.4 at there)
      (λ other. high hay p 2 q _ b low three.5 (omega (arith, size, length-encode c, other)) there)
      (cases_eq q (p + 1))
  | inr (inr (inr four)) ↦
      let size = ap length (encode_four c four.0) in
      ⊎_elim (λ at. high hay p 1 q _ b low four.3 at there)
      (λ other. ⊎_elim (λ at. high hay p 2 q _ b low four.4 at there)
      (λ another. high hay p 3 q _ b low four.5 (omega (arith, size, length-encode c, other, another)) there)
      (cases_eq q (p + 2)))
      (cases_eq q (p + 1))
]

-- ---- the part

split-front : (xs ys bs r : List ℕ) → xs ++ ys ≡ bs ++ r → length bs ≤ length xs → xs ≡ bs ++ drop (length bs) xs
split-front xs ys bs r e fits =
    sym (take-append-drop (length bs) xs)
    ∙ ap (λ l. l ++ drop (length bs) xs) (sym (take-append-le (length bs) xs ys fits)
    ∙ (ap (take (length bs)) e ∙ take-append_seam bs r))

-- What comes at n is the part and then the rest; before it is the end of a line, or nothing. The part is looked at up
-- to `top`: there the haystack ends, or the part does and a terminator comes, or a line feed alone, or the part has the
-- byte that ends it.
pub record IsPart (terminator : LineTerminator) (hay kept post : List ℕ) (n top : ℕ) : Type 0 where
  pub front : drop n hay ≡ kept ++ post
  pub within : n ≤ length hay
  pub fits : top ≤ length kept
  pub before : (n ≡ 0) ⊎ (byte_before hay n ≡ Some (byte_of terminator))
  pub after : (length hay ≡ n + top)
      ⊎ ((top ≡ length kept) × (slice_get hay (n + top) ≡ Some (first_byte terminator)))
      ⊎ ((top < length kept) × (slice_get hay (n + top) ≡ Some (byte_of terminator)))
      ⊎ ((top ≡ length kept) × (slice_get hay (n + top) ≡ Some 10) × (is_cr (side_before kept top) ≡ false))

char_of_len_parts : (hay : List ℕ) (m i c : ℕ) → char_of_len_before hay m i ≡ Some c →
    (m ≤ i) × (char_at hay (i - m) ≡ Some c) × (len_utf8 c ≡ m)
char_of_len_parts hay m i c e = by-test (nat_le m i && is_some_and (char_at hay (i - m)) (λ c. len_utf8 c == m)) refl e
  where
    by-test : (b : Bool) → b ≡ (nat_le m i && is_some_and (char_at hay (i - m)) (λ c. len_utf8 c == m)) →
        cond b (char_at hay (i - m)) None ≡ Some c → (m ≤ i) × (char_at hay (i - m) ≡ Some c) × (len_utf8 c ≡ m)
    by-test false is found = absurd (none-some c found)
    by-test true is found =
        let both = and_parts (nat_le m i) (is_some_and (char_at hay (i - m)) (λ c. len_utf8 c == m)) (sym is) in
        let low : nat_le m i ≡ true = both.0 in
        let len : (len_utf8 c == m) ≡ true = sym (ap (λ o. is_some_and o (λ x. len_utf8 x == m)) found) ∙ both.1 in
        (grind (arith, nat_tests, low), found, grind (arith, nat_tests, len))

char_of_len_from : (hay : List ℕ) (m i c : ℕ) → m ≤ i → char_at hay (i - m) ≡ Some c → len_utf8 c ≡ m →
    char_of_len_before hay m i ≡ Some c
char_of_len_from hay m i c le found len =
    cond-true _ _ None (and_from _ _ (le-leb m i le)
    (ap (λ o. is_some_and o (λ x. len_utf8 x == m)) found ∙ eq-eqb _ _ len)) ∙ found

module _ (terminator : LineTerminator) (sep : IsSeparated terminator) (hay kept post : List ℕ) (n top : ℕ)
    (part : IsPart terminator hay kept post n top) where
  from : (i : ℕ) → i ≤ length kept → drop (n + i) hay ≡ drop i kept ++ post
  from i h = sym (drop-drop i n hay) ∙ (ap (drop i) part.front ∙ drop-append-le i kept post h)

  size : n + length kept ≤ length hay
  size = omega (arith, ap length part.front, length-drop n hay, length-append kept post, part.within)

  byte-same : (i : ℕ) → i < length kept → slice_get kept i ≡ slice_get hay (n + i)
  byte-same i h =
      slice_get-get_or kept i 0 h
      ∙ (ap Some (sym (get_or_append_left kept post 0 i h)
      ∙ (ap (λ l. get_or l i 0) (sym part.front) ∙ get_or-drop n hay i 0))
      ∙ sym (slice_get-get_or hay (n + i) 0 (omega (arith, size))))

  has-in : (i : ℕ) (bs : List ℕ) → i ≤ length kept → has_bytes_at kept i bs ≡ true → has_bytes_at hay (n + i) bs ≡ true
  has-in i bs h e = has_bytes_at_from hay (n + i) bs (drop (i + length bs) kept ++ post)
      (from i h ∙ (ap (λ l. l ++ post) (has_bytes_at_parts kept i bs e) ∙ append_assoc bs _ post))

  has-out : (i : ℕ) (bs : List ℕ) → i + length bs ≤ length kept → has_bytes_at hay (n + i) bs ≡ true
      → has_bytes_at kept i bs ≡ true
  has-out i bs h e = has_bytes_at_from kept i bs _
      (split-front (drop i kept) post bs _ (sym (from i (omega arith)) ∙ has_bytes_at_parts hay (n + i) bs e)
      (omega (arith, length-drop i kept)))

  char-in : (i c : ℕ) → char_at kept i ≡ Some c → char_at hay (n + i) ≡ Some c
  char-in i c e =
      let p = char_at_parts kept i c e in
      char_at_from hay (n + i) c (drop (i + len_utf8 c) kept ++ post) p.0
      (from i (omega (arith, char_at_fits kept i c e))
      ∙ (ap (λ l. l ++ post) p.1 ∙ append_assoc (encode_utf8 c) _ post))

  char-out : (i c : ℕ) → i + len_utf8 c ≤ length kept → char_at hay (n + i) ≡ Some c → char_at kept i ≡ Some c
  char-out i c h e =
      let p = char_at_parts hay (n + i) c e in
      char_at_from kept i c _ p.0
      (split-front (drop i kept) post (encode_utf8 c) _ (sym (from i (omega arith)) ∙ p.1)
      (omega (arith, length-drop i kept, length-encode c)))

  -- an ASCII byte is at the top, unless the haystack ends there
  at-top : (length hay ≡ n + top) ⊎ ((b : ℕ) × (b < 128) × (slice_get hay (n + top) ≡ Some b))
  at-top = elim part.after [
    | inl ends ↦ inl ends
    | inr (inl stops) ↦ inr (first_byte terminator, first-low terminator sep, stops.1)
    | inr (inr (inl inner)) ↦ inr (byte_of terminator, sep.low, inner.1)
    | inr (inr (inr fed)) ↦ inr (10, lit< tt, fed.1)
  ]

  char-same : (i : ℕ) → i < top → char_at kept i ≡ char_at hay (n + i)
  char-same i h = ⊎_elim
      (λ none. none ∙ sym (none_of_no_value _ (λ c e. ⊎_elim
      (λ (past : length kept < i + len_utf8 c). ⊎_elim
      (λ (ends : length hay ≡ n + top). omega (arith, char_at_fits hay (n + i) c e, part.fits))
      (λ there. over hay (n + i) (n + top) c there.0 there.1 e (omega arith) (omega (arith, part.fits)) there.2)
      at-top)
      (λ (fits : i + len_utf8 c ≤ length kept). none-some c (sym none ∙ char-out i c fits e))
      (cases_lt (length kept) (i + len_utf8 c)))))
      (λ some. some.1 ∙ sym (char-in i some.0 some.1))
      (option_cases (char_at kept i))

  side-ends : (length hay ≡ n + top) → side_after kept top ≡ side_after hay (n + top)
  side-ends ends =
      let whole : length kept ≤ top = omega (arith, size) in
      side-is (side_after kept top) None None (slice_get_past kept top whole) (char_at_past kept top whole)
      ∙ sym (side-is (side_after hay (n + top)) None None (slice_get_past hay (n + top) (omega arith))
      (char_at_past hay (n + top) (omega arith)))

  side-inner : top < length kept → slice_get hay (n + top) ≡ Some (byte_of terminator)
      → side_after kept top ≡ side_after hay (n + top)
  side-inner inside there =
      let here = byte-same top inside ∙ there in
      side-is (side_after kept top) _ _ here (char_at_ascii kept top _ here sep.low)
      ∙ sym (side-is (side_after hay (n + top)) _ _ there (char_at_ascii hay (n + top) _ there sep.low))

  past-top : top ≡ length kept → side_after kept top ≡ edge
  past-top whole =
      let past : length kept ≤ top = omega arith in
      side-is (side_after kept top) None None (slice_get_past kept top past) (char_at_past kept top past)

  side-stops : top ≡ length kept → slice_get hay (n + top) ≡ Some (first_byte terminator)
      → AreAfter terminator (side_after kept top) (side_after hay (n + top))
  side-stops whole there =
      subst (λ s. AreAfter terminator s (side_after hay (n + top))) (sym (past-top whole))
      (subst (AreAfter terminator edge)
      (sym (side-is (side_after hay (n + top)) _ _ there
      (char_at_ascii hay (n + top) _ there (first-low terminator sep))))
      (after-edge terminator sep))

  char_of_len-same : (m i : ℕ) → 0 < i → i ≤ length kept → char_of_len_before kept m i
      ≡ char_of_len_before hay m (n + i)
  char_of_len-same m i some h = ⊎_elim
      (λ none. none ∙ sym (none_of_no_value _ (λ c e.
      let p = char_of_len_parts hay m (n + i) c e in
      ⊎_elim
      (λ (outside : i < m). ⊎_elim
      (λ (zeroth : n ≡ 0). omega (arith, p.0))
      (λ fed.
      let last = byte_before_some hay n (byte_of terminator) fed in
      ⊎_elim
      (λ (sooner : n + i - m < n - 1).
      over hay (n + i - m) (n - 1) c _ sep.low p.1 sooner (omega (arith, p.2, last.0)) last.1)
      (λ (there : n - 1 ≤ n + i - m).
      let same : n - 1 ≡ n + i - m = omega (arith, p.0, last.0) in
      let only = char_at_ascii hay (n - 1) (byte_of terminator) last.1 sep.low in
      let is : c ≡ byte_of terminator = same_Some _ _ (sym p.1 ∙ (ap (char_at hay) (sym same) ∙ only)) in
      omega (arith, p.2, ap len_utf8 is, len_utf8_ascii (byte_of terminator) sep.low))
      (cases_lt (n + i - m) (n - 1)))
      part.before)
      (λ (inside : m ≤ i).
      let back : n + i - m ≡ n + (i - m) = omega arith in
      none-some c (sym none ∙ char_of_len_from kept m i c inside
      (char-out (i - m) c (omega (arith, p.2)) (subst (λ k. char_at hay k ≡ Some c) back p.1)) p.2))
      (cases_lt i m))))
      (λ found.
      let p = char_of_len_parts kept m i found.0 found.1 in
      let back : n + (i - m) ≡ n + i - m = omega (arith, p.0) in
      found.1 ∙ sym (char_of_len_from hay m (n + i) found.0 (omega (arith, p.0))
      (subst (λ k. char_at hay k ≡ Some found.0) back (char-in (i - m) found.0 p.1)) p.2))
      (option_cases (char_of_len_before kept m i))

  char_before-same : (i : ℕ) → 0 < i → i ≤ length kept → char_before kept i ≡ char_before hay (n + i)
  unfolding char_before
  char_before-same i some h = cc (
    char_of_len-same 1 i some h,
    char_of_len-same 2 i some h,
    char_of_len-same 3 i some h,
    char_of_len-same 4 i some h,
  )

  byte_before-same : (i : ℕ) → 0 < i → i ≤ length kept → byte_before kept i ≡ byte_before hay (n + i)
  byte_before-same zero some h = absurd (omega arith)
  byte_before-same (suc i) some h =
      let here : suc i ≡ i + 1 = omega arith in
      let there : n + suc i ≡ n + i + 1 = omega arith in
      ap (byte_before kept) here ∙ (byte_before-add-one kept i ∙ (byte-same i (omega arith)
      ∙ (sym (byte_before-add-one hay (n + i)) ∙ ap (byte_before hay) (sym there))))

  before-alike : (i : ℕ) → i ≤ length kept → AreBefore terminator (side_before kept i) (side_before hay (n + i))
  before-alike i h = ⊎_elim
      (λ (some : 0 < i). before-same terminator (side-is _ _ _ (byte_before-same i some h) (char_before-same i some h)))
      (λ (none : i ≤ 0).
      let zeroth : 0 ≡ i = omega arith in
      let at : n ≡ n + i = omega arith in
      let here : side_before kept i ≡ edge = ap (side_before kept) (sym zeroth)
      ∙ side-is _ _ _ (byte_before-zero kept) (char_before-zero kept) in
      subst (λ s. AreBefore terminator s (side_before hay (n + i))) (sym here)
      (subst (λ k. AreBefore terminator edge (side_before hay k)) at (⊎_elim
      (λ (first : n ≡ 0). before-same terminator (sym (ap (side_before hay) first
      ∙ side-is _ _ _ (byte_before-zero hay) (char_before-zero hay))))
      (λ fed. subst (AreBefore terminator edge) (sym (side-is (side_before hay n) _ _ fed
      (char_before_ascii hay n (byte_of terminator) fed sep.low))) (before-edge terminator sep))
      part.before)))
      (cases_lt 0 i)

  abbrev AreAlikeAt : ℕ → Type 0
  AreAlikeAt i = AreAround terminator (side_before kept i) (side_before hay (n + i))
      (side_after kept i) (side_after hay (n + i))

  alike-by : (i : ℕ) → i ≤ top → AreAfter terminator (side_after kept i) (side_after hay (n + i)) → AreAlikeAt i
  alike-by i h after = around-alike terminator _ _ _ _ (before-alike i (omega (arith, part.fits))) after

  fed-alike : top ≡ length kept → slice_get hay (n + top) ≡ Some 10 → is_cr (side_before kept top) ≡ false
      → AreAlikeAt top
  fed-alike whole there bare =
      let at : side_after hay (n + top) ≡ only 10 =
      side-is (side_after hay (n + top)) _ _ there (char_at_ascii hay (n + top) 10 there (lit< tt)) in
      subst (λ s. AreAround terminator (side_before kept top) (side_before hay (n + top)) s (side_after hay (n + top)))
      (sym (past-top whole))
      (subst (AreAround terminator (side_before kept top) (side_before hay (n + top)) edge) (sym at)
      (around-feed terminator _ _ (before-alike top part.fits) bare))

  top-alike : AreAlikeAt top
  top-alike = elim part.after [
    | inl ends ↦ alike-by top (omega arith) (after-same terminator (side-ends ends))
    | inr (inl stops) ↦ alike-by top (omega arith) (side-stops stops.0 stops.1)
    | inr (inr (inl inner)) ↦ alike-by top (omega arith) (after-same terminator (side-inner inner.0 inner.1))
    | inr (inr (inr fed)) ↦ fed-alike fed.0 fed.1 fed.2
  ]

  alike-at : (i : ℕ) → i ≤ top → AreAlikeAt i
  alike-at i h = ⊎_elim
      (λ (inside : i < top). alike-by i h (after-same terminator
      (side-is _ _ _ (byte-same i (omega (arith, part.fits))) (char-same i inside))))
      (λ (past : top ≤ i).
      let at : top ≡ i = omega arith in
      subst AreAlikeAt at top-alike)
      (cases_lt i top)

  look-same : (l : Look) (i : ℕ) → is_local_look terminator l ≡ true → i ≤ top → holds l kept i ≡ holds l hay (n + i)
  unfolding holds
  look-same l i ok h = alike-holds terminator l _ _ _ _ ok (alike-at i h)

  -- ---- matches

  rounds-in : (a : Re) → ((i j : ℕ) → j ≤ top → Matches kept a i j → Matches hay a (n + i) (n + j)) → (i j : ℕ)
      → j ≤ top → Rounds (Matches kept a) i j → Rounds (Matches hay a) (n + i) (n + j)
  rounds-in a each i j h (one_round _ r) = one_round (n + j) (each i j h r)
  rounds-in a each i j h (next_round l _ earlier r) =
      let span = Matches-IsSpan kept a l j r in
      next_round (n + l) (n + j) (rounds-in a each i l (omega arith) earlier) (each l j h r)

  -- a match of the part alone is one of the haystack
  pub matches-in : (re : Re) → is_local terminator re ≡ true → (i j : ℕ) → j ≤ top → Matches kept re i j
      → Matches hay re (n + i) (n + j)
  matches-in empty ok i j h m = ap (λ k. n + k) m
  matches-in (literal bs) ok i j h m = (has-in i bs (omega (arith, m.1, part.fits)) m.0, omega (arith, m.1))
  matches-in (byte_in rs) ok i j h m = (
    m.0,
    sym (byte-same i (slice_get_within kept i m.0 m.1))
        ∙ m.1,
    m.2,
    omega (arith, m.3),
  )
  matches-in (char_in rs) ok i j h m = (
    m.0,
    char-in i m.0 m.1,
    m.2,
    omega (arith, m.3),
  )
  matches-in (look l) ok i j h m = (sym (look-same l i ok (omega (arith, m.1))) ∙ m.0, ap (λ k. n + k) m.1)
  matches-in (cat a b) ok i j h m =
      let both = and_parts _ _ ok in
      let span = Matches-IsSpan kept b m.0 j m.2 in
      (n + m.0, matches-in a both.0 i m.0 (omega arith) m.1, matches-in b both.1 m.0 j h m.2)
  matches-in (alt a b) ok i j h m =
      let both = and_parts _ _ ok in
      ⊎_elim (λ x. inl (matches-in a both.0 i j h x)) (λ x. inr (matches-in b both.1 i j h x)) m
  matches-in (group k a) ok i j h m = matches-in a ok i j h m
  matches-in (plus greedy a) ok i j h m = rounds-in a (matches-in a ok) i j h m

  abbrev end : ℕ
  end = n + top

  rounds-out : (a : Re) → ((x y : ℕ) → n ≤ x → y ≤ end → Matches hay a x y → Matches kept a (x - n) (y - n)) → (x y : ℕ)
      → n ≤ x → y ≤ end →
      Rounds (Matches hay a) x y → Rounds (Matches kept a) (x - n) (y - n)
  rounds-out a each x y low high (one_round _ r) = one_round (y - n) (each x y low high r)
  rounds-out a each x y low high (next_round l _ earlier r) =
      let first = Matches-IsSpan hay (plus true a) x l earlier in
      let second = Matches-IsSpan hay a l y r in
      next_round (l - n) (y - n) (rounds-out a each x l low (omega arith) earlier) (each l y (omega arith) high r)

  -- a match of the haystack within the part is one of the part alone
  pub matches-out : (re : Re) → is_local terminator re ≡ true → (x y : ℕ) → n ≤ x → y ≤ end → Matches hay re x y
      → Matches kept re (x - n) (y - n)
  matches-out empty ok x y low high m = ap (λ k. k - n) m
  matches-out (literal bs) ok x y low high m =
      let back : n + (x - n) ≡ x = omega arith in
      (has-out (x - n) bs (omega (arith, m.1, part.fits)) (rw back m.0), omega (arith, m.1))
  matches-out (byte_in rs) ok x y low high m =
      let back : n + (x - n) ≡ x = omega arith in
      let here = byte-same (x - n) (omega (arith, m.3, part.fits)) in
      (m.0, here ∙ (ap (slice_get hay) back ∙ m.1), m.2, omega (arith, m.3))
  matches-out (char_in rs) ok x y low high m =
      let back : n + (x - n) ≡ x = omega arith in
      let here = char-out (x - n) m.0 (omega (arith, m.3, part.fits)) (ap (char_at hay) back ∙ m.1) in
      (m.0, here, m.2, omega (arith, m.3))
  matches-out (look l) ok x y low high m =
      let back : n + (x - n) ≡ x = omega arith in
      (look-same l (x - n) ok (omega (arith, m.1)) ∙ (ap (holds l hay) back ∙ m.0), ap (λ k. k - n) m.1)
  matches-out (cat a b) ok x y low high m =
      let both = and_parts _ _ ok in
      let first = Matches-IsSpan hay a x m.0 m.1 in
      let second = Matches-IsSpan hay b m.0 y m.2 in
      (m.0 - n, matches-out a both.0 x m.0 low (omega arith) m.1, matches-out b both.1 m.0 y (omega arith) high m.2)
  matches-out (alt a b) ok x y low high m =
      let both = and_parts _ _ ok in
      ⊎_elim (λ v. inl (matches-out a both.0 x y low high v)) (λ v. inr (matches-out b both.1 x y low high v)) m
  matches-out (group k a) ok x y low high m = matches-out a ok x y low high m
  matches-out (plus greedy a) ok x y low high m = rounds-out a (matches-out a ok) x y low high m
