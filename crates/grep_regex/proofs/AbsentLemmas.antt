-- The bytes that a matcher knows no match to hold.
use Rattle.std.proofs.Common.{◌≡◌, ℕ, ◌+◌, ◌-◌, ◌<◌, ◌≤◌, ◌&&◌, ◌==◌, Bool, true, false, cond, not, List, [], ◌∷◌}
use Rattle.std.proofs.Common.{length, map, drop, slice_index, All, Option, Some, None, is_some, option_map, refl}
use Rattle.std.proofs.Common.{sym, ap, ◌∙◌, subst, ◌⊎◌, inl, inr, ⊎_elim, arith, get_or-drop}
use Rattle.std.proofs.lemmas.Bool.{and_parts, not-true, true≢false, false_from_ne_true, or_cases, or_parts}
use Rattle.std.proofs.lemmas.Bool.{eq-eqb, eqb-true}
use Rattle.std.proofs.lemmas.List.{get_or_append_left}
use Rattle.std.proofs.lemmas.List.Folds.{list_any_at}
use Rattle.std.proofs.Math.Bool.{or-true, or-false}
use Rattle.std.specs.List.{list_any}
use Rattle.regex_class.specs.Ranges.{in_ranges}
use Rattle.regex_hir.specs.Find.{Match, find}
use Rattle.regex_hir.specs.Matches.{Matches}
use Rattle.regex_hir.specs.Meaning.{alt_all}
use Rattle.regex_hir.specs.Re.{Re, literal}
use Rattle.regex_hir.specs.declared.look.Look.{Look}
use Rattle.regex_hir.specs.declared.look.Look.TheVariants.{StartLf, EndLf, StartCrlf, EndCrlf}
use Rattle.regex_hir.specs.declared.look.Look.TheVariants.{WordStartHalfAscii, WordEndHalfAscii}
use Rattle.regex_hir.specs.declared.look.Look.TheVariants.{WordStartHalfUnicode, WordEndHalfUnicode}
use Rattle.regex_hir.proofs.FindLemmas.{find_sound}
use Rattle.regex_hir.proofs.OptionLemmas.{option_cases}
use Rattle.regex_hir.proofs.TextLemmas.{has_bytes_at_parts}
use Rattle.regex_syntax.specs.Captures.{SameCaptures}
use Rattle.regex_vm.specs.Found.{span}
use Rattle.grep_matcher.specs.FindResults.{Avoids, IsFrom}
use Rattle.grep_matcher.specs.declared.line_terminator.LineTerminator.{LineTerminator}
use Rattle.grep_matcher.specs.declared.line_terminator.LineTerminator.TheVariants.{Byte, Crlf}
use Rattle.grep_regex.specs.AbsentBytes.{are_plain, is_absent, is_nul}
use Rattle.grep_regex.specs.Alike.{AreAlike}
use Rattle.grep_regex.specs.Clear.{is_among, find_clear}
use Rattle.grep_regex.specs.Locality.{is_separator}
use Rattle.grep_regex.specs.PatternFirstMatches.{text-within}
use Rattle.grep_regex.specs.Patterns.{framed, between, read_re, written_re, excluded_bytes, text_match_at}
use Rattle.grep_regex.specs.Patterns.{leftmost_match_at, AvoidsAbsent}
use Rattle.grep_regex.specs.declared.options.Options.{Options}
use Rattle.grep_regex.proofs.ClearLemmas.{clear-at, clear-from}
use Rattle.grep_regex.proofs.FindLemmas.{clear-match, find-alike, find-unterminated}
use Rattle.grep_regex.proofs.WrittenLemmas.{alike-alt_all, framed-alike}

-- one of the patterns has the byte
abbrev is_in_one : List (List ℕ) → ℕ → Bool
is_in_one patterns byte = list_any (λ p. is_among p byte) patterns

-- ---- what an absent byte is

none-of : {A : Type 0} (t : Option A) → not (is_some t) ≡ true → t ≡ None
none-of None is = refl
none-of (Some x) is = absurd (true≢false (sym is))

undeclared : (o : Options) (patterns : List (List ℕ)) → are_plain o patterns ≡ true → o.line_terminator ≡ None
undeclared o patterns plain = none-of o.line_terminator (and_parts (not (is_some o.line_terminator)) _ plain).0

nul-is : (t : Option LineTerminator) → is_nul t ≡ true → t ≡ Some (Byte 0)
nul-is None is = absurd (true≢false (sym is))
nul-is (Some (Byte b)) is = ap (λ x. Some (Byte x)) (eqb-true b 0 is)
nul-is (Some Crlf) is = absurd (true≢false (sym is))

module _ (o : Options) (patterns : List (List ℕ)) (byte : ℕ) where
  pub absent-of-nul : is_nul o.line_terminator ≡ true → is_absent o patterns byte ≡ (byte == 0)
  unfolding is_absent
  absent-of-nul nul = rw (nul-is o.line_terminator nul) (or-false (byte == 0))

  pub absent-of-unplain : is_nul o.line_terminator ≡ false → are_plain o patterns ≡ false
      → is_absent o patterns byte ≡ false
  unfolding is_absent
  absent-of-unplain other unplain = rw (other, unplain) refl

  pub absent-of-plain : are_plain o patterns ≡ true
      → is_absent o patterns byte ≡ (is_separator byte && not (is_in_one patterns byte))
  unfolding is_absent
  absent-of-plain plain = rw (ap is_nul (undeclared o patterns plain), plain) refl

  absent-none : are_plain o patterns ≡ true → is_absent o patterns byte ≡ true → is_in_one patterns byte ≡ false
  absent-none plain absent =
      not-true _ (and_parts (is_separator byte) _ (sym (absent-of-plain plain) ∙ absent)).1

  -- it is the byte 0 as the terminator, or none is declared and the byte isn't in words
  pub absent-cases : is_absent o patterns byte ≡ true
      → ((o.line_terminator ≡ Some (Byte 0)) × (byte ≡ 0))
      ⊎ ((o.line_terminator ≡ None) × (is_separator byte ≡ true))
  unfolding is_absent
  absent-cases absent = ⊎_elim
      (λ nul. let both = and_parts (is_nul o.line_terminator) (byte == 0) nul in
      inl (nul-is o.line_terminator both.0, eqb-true byte 0 both.1))
      (λ unwritten. let both = and_parts (are_plain o patterns) _ unwritten in
      inr (undeclared o patterns both.0, (and_parts (is_separator byte) _ both.1).0))
      (or_cases _ _ absent)

-- ---- a match of literals holds bytes of one of them

literal-holds : (hay bs : List ℕ) (i j k : ℕ) → Matches hay (literal bs) i j → i ≤ k → k < j
    → is_among bs (slice_index hay k) ≡ true
literal-holds hay bs i j k m low high =
    let inside : k - i < length bs = omega (arith, m.1) in
    let back : i + (k - i) ≡ k = omega arith in
    let same : slice_index hay k ≡ slice_index bs (k - i) =
    sym (get_or-drop i hay (k - i) 0 ∙ ap (slice_index hay) back)
    ∙ (ap (λ l. slice_index l (k - i)) (has_bytes_at_parts hay i bs m.0)
    ∙ get_or_append_left bs (drop (i + length bs) hay) 0 (k - i) inside) in
    list_any_at (λ b. slice_index hay k == b) bs (k - i) 0 inside (eq-eqb _ _ same)

literals-hold : (hay : List ℕ) (patterns : List (List ℕ)) (i j k : ℕ) → Matches hay (alt_all (map literal patterns)) i j
    → i ≤ k → k < j → is_in_one patterns (slice_index hay k) ≡ true
unfolding in_ranges
literals-hold hay [] i j k m low high = absurd (true≢false (sym m.2))
literals-hold hay (p ∷ patterns) i j k (inl m) low high = rw (literal-holds hay p i j k m low high) refl
literals-hold hay (p ∷ patterns) i j k (inr m) low high =
    rw (literals-hold hay patterns i j k m low high) (or-true _)

between-match : (hay : List ℕ) (before after : Look) (re : Re) (i j : ℕ) → Matches hay (between before after re) i j
    → Matches hay re i j
between-match hay before after re i j m =
    subst (λ x. Matches hay re x j) m.1.1
    (subst (λ x. Matches hay re m.0 x) (sym (m.2.2.2 ∙ m.2.2.1.1)) m.2.1)

framed-match : (o : Options) (hay : List ℕ) (re : Re) (i j : ℕ) → Matches hay (framed o re) i j → Matches hay re i j
framed-match o hay re i j = by-cases o.whole_line o.crlf o.word o.unicode
  where
    by-cases : (w r x u : _) → Matches hay
        (cond w (cond r (between StartCrlf EndCrlf re) (between StartLf EndLf re))
        (cond x (cond u (between WordStartHalfUnicode WordEndHalfUnicode re)
        (between WordStartHalfAscii WordEndHalfAscii re)) re)) i j → Matches hay re i j
    by-cases true true x u m = between-match hay _ _ re i j m
    by-cases true false x u m = between-match hay _ _ re i j m
    by-cases false r true true m = between-match hay _ _ re i j m
    by-cases false r true false m = between-match hay _ _ re i j m
    by-cases false r false u m = m

-- ---- so what is found holds none of the absent bytes

module _ (o : Options) (patterns : List (List ℕ)) where
  pub avoids-nul : is_nul o.line_terminator ≡ true → AvoidsAbsent o patterns
  avoids-nul nul = record {
    at = λ hay start small from. held hay start from (text_match_at o patterns hay start) refl;
  }
    where
      held : (hay : List ℕ) (start : ℕ) → start ≤ length hay → (found : Option (ℕ × ℕ))
          → text_match_at o patterns hay start ≡ found → Avoids (is_absent o patterns) hay found
      held hay start from None is = tt
      held hay start from (Some m) is = λ i low high.
          let within : IsFrom start hay (Some m) =
          subst (IsFrom start hay) is (text-within o patterns hay start) in
          let clear = clear-match (excluded_bytes o.line_terminator) (written_re o patterns) hay start m.0 m.1 is in
          let none = clear-at (excluded_bytes o.line_terminator) hay m.0 m.1 clear i low high
          (omega (arith, within.1.1, high)) in
          let zero = subst (λ t. is_among (excluded_bytes t) (slice_index hay i) ≡ false)
          (nul-is o.line_terminator nul) none in
          absent-of-nul o patterns (slice_index hay i) nul ∙ (or_parts (slice_index hay i == 0) false zero).0

  pub avoids-unplain : is_nul o.line_terminator ≡ false → are_plain o patterns ≡ false → AvoidsAbsent o patterns
  avoids-unplain other unplain = record {
    at = λ hay start small from. none-held hay (text_match_at o patterns hay start);
  }
    where
      none-held : (hay : List ℕ) (found : Option (ℕ × ℕ)) → Avoids (is_absent o patterns) hay found
      none-held hay None = tt
      none-held hay (Some m) = λ i low high. absent-of-unplain o patterns (slice_index hay i) other unplain

  module _ (same : AreAlike (map (read_re o) patterns) (map literal patterns))
      (plain : are_plain o patterns ≡ true) where
    abbrev texts : Re
    texts = framed o (alt_all (map literal patterns))

    written-same : SameCaptures (written_re o patterns) texts
    written-same = framed-alike o (alike-alt_all _ _ same)

    holds-none : (hay : List ℕ) (start : ℕ) (m : Match) → find texts hay start ≡ Some m
        → Avoids (is_absent o patterns) hay (Some (m.start, m.trace.end))
    holds-none hay start m found i low high =
        let sound = find_sound texts hay start m found in
        false_from_ne_true _ (λ absent. true≢false (
        sym (literals-hold hay patterns m.start m.trace.end i
        (framed-match o hay (alt_all (map literal patterns)) m.start m.trace.end sound.1) low high)
        ∙ absent-none o patterns (slice_index hay i) plain absent))

    found-none : (hay : List ℕ) (start : ℕ) → Avoids (is_absent o patterns) hay (leftmost_match_at texts hay start)
    found-none hay start = ⊎_elim
        (λ none. subst (λ m. Avoids (is_absent o patterns) hay (option_map span m)) (sym none) tt)
        (λ some. subst (λ m. Avoids (is_absent o patterns) hay (option_map span m)) (sym some.1)
        (holds-none hay start some.0 some.1))
        (option_cases (find texts hay start))

    first-is : (hay : List ℕ) (start : ℕ) → All (λ x. x < 256) hay → start ≤ length hay
        → text_match_at o patterns hay start ≡ leftmost_match_at texts hay start
    first-is hay start small from =
        ap (λ t. option_map span (find_clear (excluded_bytes t) (written_re o patterns) hay start))
        (undeclared o patterns plain)
        ∙ (ap (option_map span) (find-unterminated [] (written_re o patterns) hay start
        (clear-from [] hay start (length hay) (λ k low high inside. refl)))
        ∙ find-alike (written_re o patterns) texts written-same hay start small from)

    pub avoids-plain : AvoidsAbsent o patterns
    avoids-plain = record {
      at = λ hay start small from. subst (Avoids (is_absent o patterns) hay)
          (sym (first-is hay start small from))
          (found-none hay start);
    }
