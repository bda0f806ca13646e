-- At which line a search across lines asks for the next match, by the lines that the matches so far
-- touch.
use Rattle.std.proofs.Common.{◌≡◌, ℕ, ◌-◌, ◌+◌, ◌<◌, ◌≤◌, false, ◌&&◌, List, [], ◌∷◌, length, Some}
use Rattle.std.proofs.Common.{◌∙◌, ap, arith, ⊎_elim}
use Rattle.std.proofs.Math.Bool.{and-false}
use Rattle.std.proofs.lemmas.Bool.Decides.{nat_tests}
use Rattle.std.proofs.lemmas.Bool.{cases_lt, lt-ltb, le-leb, lt-leb, ltb-true, and_from}
use Rattle.std.proofs.lemmas.Bool.{and_parts}
use Rattle.std.specs.Prelude.{nat_lt, nat_le}
use Rattle.grep_lines.specs.Positions.{IsLineStart}
use Rattle.grep_matcher.specs.Meanings.{Meaning}
use Rattle.grep_matcher.specs.Lines.{byte_of}
use Rattle.grep_definitions.specs.Plans.{line_count, start, is_touched, IsAskedAfter, IsAskedAt}
use Rattle.grep_definitions.specs.Plans.{Settings}
use Rattle.grep_definitions.proofs.MatchBlockLemmas.{block_start-low}
use Rattle.grep_definitions.proofs.BoolLemmas.{clash}
use Rattle.grep_walk.specs.TouchedUnits.{is_in, AreTouched}
use Rattle.grep_lines.proofs.LineRangeLemmas.{starts-before, starts-from, comes-before, comes-from}
use Rattle.grep_lines.proofs.LineRangeLemmas.{end-start}

module _ (k : Settings) (meaning : Meaning) (bytes : List ℕ) where
  abbrev t : ℕ
  t = byte_of k.line_terminator

  abbrev n : ℕ
  n = line_count k bytes

  abbrev from : ℕ → ℕ
  from = start k bytes

  -- some bytes have a line
  first-line : 0 < length bytes → 0 < n
  first-line some = comes-before (end-start t bytes) 0 (omega arith)

  -- the line of a question is one of the lines
  pub asked-inside : (i : ℕ) (haystack : List ℕ) → IsAskedAt k meaning bytes i haystack → i < n
  asked-inside i haystack asked = ⊎_elim (λ above.
      let some : 0 < length asked.found = ⊎_elim
      (λ yes. yes) (λ none. absurd (clash (asked.after above) (untouched asked.found none)))
      (cases_lt 0 (length asked.found)) in
      let less = asked.some some in
      let here = asked.run asked.first asked.low
      ∙ and_from _ _ (le-leb asked.first asked.first (omega arith))
      (lt-ltb asked.first asked.last less) in
      let inside = ltb-true asked.first n (and_parts _ _ here).0 in
      omega arith) (λ none.
      let some = first-line (omega arith) in
      omega arith) (cases_lt 0 i)
    where
      untouched : (found : List (ℕ × ℕ)) → length found ≤ 0 → is_touched k meaning bytes found
          (i - 1) ≡ false
      untouched [] none = and-false (nat_lt (i - 1) n)
      untouched (m ∷ found) none = absurd (omega arith)

  -- before a match was found, at the first line
  pub asked-first : (haystack : List ℕ) → IsAskedAfter k meaning bytes [] haystack
      → IsAskedAt k meaning bytes 0 haystack
  asked-first haystack question = grind arith

  -- while a unit is put together, at the line after the one before it
  module _ (end position : ℕ) (found : List (ℕ × ℕ)) (u : ℕ × ℕ)
      (touched : AreTouched k meaning bytes end position found (Some u))
      (left : position < length bytes) (i : ℕ) (at : IsLineStart t bytes end i) where
    begins-inside : u.0 < length bytes
    begins-inside = omega (arith, block_start-low t bytes (position, position) left)

    -- a line is in the unit by its index
    in-unit : (j : ℕ) → j < n
        → is_in (Some u) (from j) ≡ (nat_le touched.range.first j && nat_lt j touched.range.last)
    in-unit j inside = grind (
      arith,
      nat_tests,
      starts-before touched.range.begins j,
      starts-from touched.range.begins j,
      starts-before touched.range.ends j,
      starts-from touched.range.ends j,
    )

    run-is : (j : ℕ) → i ≤ j → is_touched k meaning bytes found j
        ≡ (nat_le touched.range.first j && nat_lt j touched.range.last)
    run-is j low = ⊎_elim
        (λ inside. grind (
          arith,
          nat_tests,
          inside,
          touched.same j inside (starts-from at j low),
          in-unit j inside,
        )) (λ past. grind (arith, nat_tests, past, touched.range.ends.listed)) (cases_lt j n)

    low-is : i ≤ touched.range.first
    low-is = comes-from at touched.range.first (omega arith)

    pub asked-unit : (haystack : List ℕ) → IsAskedAfter k meaning bytes found haystack
        → IsAskedAt k meaning bytes i haystack
    asked-unit haystack question = record {
      found = found;
      question = question;
      after = λ above.
          let back : (i - 1) + 1 ≡ i = omega arith in
          let inside : i - 1 < n = omega arith in
          and_from (nat_lt (i - 1) n) _ (lt-ltb (i - 1) n inside)
          (touched.before (omega (arith, begins-inside)) (i - 1) inside (ap from back ∙ at.begins));
      apart = λ above.
          let some = starts-before at 0 above in
          let over = touched.range.apart (omega arith) (omega (arith, begins-inside)) in
          let later = comes-before touched.range.begins i (omega arith) in
          run-is i (omega arith) ∙ ap (λ b. b && nat_lt i touched.range.last)
          (lt-leb touched.range.first i later);
      first = touched.range.first;
      last = touched.range.last;
      low = low-is;
      some = λ any. comes-before touched.range.ends touched.range.first
          (omega (arith, touched.range.some begins-inside));
      run = run-is;
    }
