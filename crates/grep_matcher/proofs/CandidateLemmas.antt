-- What a literal's first occurrence in many lines says of each of them.
use Rattle.std.proofs.Common.{◌≡◌, inl, inr, ℕ, zero, suc, Bool, ◌+◌, ◌-◌, ◌<◌, ◌≤◌, true, false}
use Rattle.std.proofs.Common.{List, [], length, slice_index, slice_index_or, Some, None, ap, sym}
use Rattle.std.proofs.Common.{subst, arith, ⊎_elim, is_some}
use Rattle.std.proofs.lemmas.Bool.{cases_lt, cases_eq}
use Rattle.memchr.specs.Find.{OccursAt, NoneBefore, FindsNeedle}
use Rattle.grep_matcher.specs.declared.line_match_kind.LineMatchKind.{LineMatchKind}
use Rattle.grep_matcher.specs.declared.line_terminator.LineTerminator.{LineTerminator}
use Rattle.grep_matcher.specs.declared.line_terminator.LineTerminator.TheVariants.{Byte, Crlf}
use Rattle.grep_matcher.specs.Lawful.{matches_at, HoldsPosition, IsTrusted, position_of}
use Rattle.grep_matcher.specs.Lawful.{is_confirmed}
use Rattle.grep_matcher.specs.Meanings.{ExcludesTerminator}
use Rattle.grep_matcher.specs.Lines.{lines, line_start, strip, byte_of, bytes_of}
use Rattle.grep_matcher.specs.Literals.{literal_meaning, lacks}
use Rattle.grep_matcher.proofs.StrippedLineLemmas.{line-is, strip-joined, strip-occurs}
use Rattle.grep_matcher.specs.LiteralFirstMatches.{match-found, match-none, OccursAt-outer}
use Rattle.grep_matcher.specs.LiteralFirstMatches.{OccursAt-inner}
use Rattle.grep_matcher.proofs.OccurrenceLemmas.{OccursAt-before, apart}

-- a literal that lacks the byte of the terminator, and a carriage return, lacks each byte of the
-- terminator
lacks-terminator : (terminator : LineTerminator) (literal : List ℕ)
    → lacks literal (byte_of terminator) ≡ true
    → lacks literal 13 ≡ true → (j : ℕ) → j < length (bytes_of terminator)
    → lacks literal (slice_index (bytes_of terminator) j) ≡ true
lacks-terminator (Byte b) literal lacked cr zero below = lacked
lacks-terminator (Byte b) literal lacked cr (suc j) below = absurd (omega arith)
lacks-terminator Crlf literal lacked cr zero below = cr
lacks-terminator Crlf literal lacked cr (suc zero) below = lacked
lacks-terminator Crlf literal lacked cr (suc (suc j)) below = absurd (omega arith)

-- such a literal occurs in a line without its terminator if it occurs in the line
strip-inner : (terminator : LineTerminator) (line literal : List ℕ) (k : ℕ)
    → lacks literal (byte_of terminator) ≡ true
    → lacks literal 13 ≡ true → (length literal ≡ 0 → k ≡ 0) → OccursAt line literal k
    → OccursAt (strip terminator line) literal k
strip-inner terminator line literal k lacked cr empty occurs =
    let clear = lacks-terminator terminator literal lacked cr in
    ⊎_elim (λ joined. OccursAt-before (strip terminator line) (bytes_of terminator) literal k
    (subst (λ l. OccursAt l literal k) joined occurs) empty clear)
    (λ same. subst (λ l. OccursAt l literal k) (sym same) occurs) (strip-joined terminator line)

module _ (terminator : LineTerminator) (literal bytes : List ℕ) where
  abbrev t : ℕ
  t = byte_of terminator

  abbrev line : ℕ → List ℕ
  line i = slice_index_or (lines t bytes) i []

  abbrev start : ℕ → ℕ
  start i = line_start t bytes i

  abbrev kept : ℕ → List ℕ
  kept i = strip terminator (line i)

  abbrev IsListed : ℕ → Type 0
  IsListed i = i < length (lines t bytes)

  abbrev matches : ℕ → Bool
  matches i = matches_at terminator (literal_meaning literal) bytes i

  -- an occurrence in a line without its terminator is one in the bytes, and it ends in the line
  outer : (i k : ℕ) → IsListed i → OccursAt (kept i) literal k
      → OccursAt bytes literal (start i + k) × (start i + k + length literal ≤ start (i + 1))
  outer i k listed occurs =
      let is = line-is t bytes i listed in
      let sum : 0 + k ≡ k = omega arith in
      let in_line = rw sum at (OccursAt-outer (line i) (kept i) literal 0 k
      (strip-occurs terminator (line i))
      occurs) in (
        OccursAt-outer bytes (line i) literal (start i) k is.occurs in_line,
        omega (arith, in_line.fits, is.ends),
      )

  -- a line matches only if the literal occurs in it
  misses : (i : ℕ) → ((k : ℕ) → OccursAt (kept i) literal k → ⊥) → matches i ≡ false
  misses i none = sym (ap is_some
      (match-none (kept i) literal (λ k low high occurs. none k occurs)))

  module _ (found : ℕ) (first : FindsNeedle bytes literal 0 (Some found)) where
    -- the empty literal is found at 0
    zero-found : length literal ≡ 0 → found ≡ 0
    zero-found none = ⊎_elim (λ same. same)
        (λ other. absurd (first.0.before 0 (omega arith) (omega arith) empty)) (cases_eq found 0)
      where
        empty : OccursAt bytes literal 0
        empty = record { fits = omega arith; reads = λ j below. absurd (omega arith) }

    -- a line that ends at the first occurrence or before it doesn't match
    missed : (i : ℕ) → IsListed i → start (i + 1) ≤ found → matches i ≡ false
    missed i listed ends = misses i (λ k occurs.
        let is = line-is t bytes i listed in
        let out = outer i k listed occurs in
        let sooner : start i + k < found = grind (arith, is.ends, is.filled, out.1, zero-found) in
        first.0.before (start i + k) (omega arith) sooner out.0)

    -- the line that holds the start of the first occurrence holds all of it
    inside : (i : ℕ) → IsListed i → lacks literal t ≡ true
        → HoldsPosition terminator (literal_meaning literal) bytes i found
        → found + length literal ≤ start (i + 1)
    inside i listed lacked (low, held) =
        let is = line-is t bytes i listed in
        ⊎_elim (λ more. ⊎_elim (λ before. ⊎_elim (λ below. absurd (omega arith))
        (λ at. absurd (grind (arith, first.1.fits, zero-found))) held) (λ past. omega arith)
        (apart bytes literal found (start (i + 1) - 1) first.1 (rw (is.closed more) lacked)))
        (λ last. omega (arith, first.1.fits)) (cases_lt (start (i + 1)) (length bytes))

    -- that line matches without its terminator
    matched : (i : ℕ) → IsListed i → lacks literal t ≡ true → lacks literal 13 ≡ true
        → HoldsPosition terminator (literal_meaning literal) bytes i found → matches i ≡ true
    matched i listed lacked cr holds =
        let is = line-is t bytes i listed in
        let low = holds.0 in
        let within = inside i listed lacked holds in
        let in_line = OccursAt-inner bytes (line i) literal (start i) found is.occurs first.1 low
        (omega (arith, is.ends)) in
        let zero : length literal ≡ 0 → found - start i ≡ 0 =
        λ none. omega (arith, zero-found none) in
        let in_kept = strip-inner terminator (line i) literal (found - start i) lacked cr zero
        in_line in
        let is_first : NoneBefore (OccursAt (kept i) literal) 0 (length (kept i) + 1)
        (found - start i) = record {
          low = omega arith;
          high = omega (arith, in_kept.fits);
          before = λ q from below occurs. first.0.before (start i + q) (omega arith) (omega arith)
              (outer i q listed occurs).0;
        } in
        sym (ap is_some (match-found (kept i) literal (found - start i) (is_first, in_kept)))

-- a terminator that the literal's matcher excludes is one whose byte the literal lacks
excluded : (terminator : LineTerminator) (literal : List ℕ) → ExcludesTerminator terminator
    (literal_meaning literal) → lacks literal (byte_of terminator) ≡ true
excluded terminator literal (inl declared) = absurd (cc)
excluded terminator literal (inr lacked) = lacked

module _ (literal bytes : List ℕ) (is_lawful : LineTerminator → Type 0) where
  -- if the literal isn't found, no line matches
  pub trusted-none : FindsNeedle bytes literal 0 None
      → IsTrusted (literal_meaning literal) is_lawful bytes None
  trusted-none none terminator lawful excludes i listed = misses terminator literal bytes i
      (λ k occurs.
      let out = (outer terminator literal bytes i k listed occurs).0 in
      none (line_start (byte_of terminator) bytes i + k) (omega arith) (omega (arith, out.fits))
      out)

  -- the start of the first occurrence can be trusted, as confirmed if the literal lacks a carriage
  -- return
  pub trusted-some : (found : LineMatchKind)
      → FindsNeedle bytes literal 0 (Some (position_of found))
      → (is_confirmed found ≡ true → lacks literal 13 ≡ true)
      → IsTrusted (literal_meaning literal) is_lawful bytes (Some found)
  trusted-some found first cr terminator lawful excludes = (
    λ i listed ends. missed terminator literal bytes (position_of found) first i listed ends.0,
    λ i listed holds confirmed. matched terminator literal bytes (position_of found) first i listed
        (excluded terminator literal excludes) (cr confirmed) holds,
  )
