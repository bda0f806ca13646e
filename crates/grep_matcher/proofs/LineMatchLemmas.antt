-- Of a matcher that matches by line the end of the first match is in the first line that matches.
use Rattle.std.proofs.Common.{◌≡◌, ◌≢◌, ◌⊎◌, inl, inr, ℕ, zero, suc, Bool, ◌+◌, ◌-◌, ◌<◌, ◌≤◌, true}
use Rattle.std.proofs.Common.{false, List, [], ◌∷◌, ◌++◌, length, take, slice_index, slice_index_or}
use Rattle.std.proofs.Common.{Option, Some, None, IfSome, is_some, refl, ap, sym, ◌∙◌, subst, arith}
use Rattle.std.proofs.Common.{add-one, ⊎_elim, append-nil, length-append}
use Rattle.std.proofs.lemmas.Bool.{cases_lt, cases_eq}
use Rattle.std.proofs.lemmas.List.{get_or-append-add}
use Rattle.std.proofs.lemmas.List.Elements.{All-head, All-tail}
use Rattle.std.specs.List.{concat}
use Rattle.std.specs.Option.{option_or}
use Rattle.std.specs.Prelude.{All}
use Rattle.grep_matcher.specs.declared.line_terminator.LineTerminator.{LineTerminator}
use Rattle.grep_matcher.specs.declared.line_terminator.LineTerminator.TheVariants.{Byte, Crlf}
use Rattle.grep_matcher.specs.AreLines.{IsUnbroken, AreEnded}
use Rattle.grep_matcher.specs.FindResults.{IsWithin, match_from}
use Rattle.grep_matcher.specs.Lawful.{HoldsPosition, IsLawfulResult, IsTrusted}
use Rattle.grep_matcher.specs.LineMatches.{IsEndedLine, MatchesByLine, confirmed_end}
use Rattle.grep_matcher.specs.Lines.{byte_of, bytes_of, lines, strip}
use Rattle.grep_matcher.specs.Meanings.{Meaning}
use Rattle.grep_matcher.proofs.LineLemmas.{AreLines-lines}
use Rattle.grep_matcher.proofs.LineStartLemmas.{line_start-le}
use Rattle.grep_matcher.proofs.StrippedLineLemmas.{strip-joined}

-- a terminator ends in its byte
ends-terminated : (terminator : LineTerminator) (kept : List ℕ)
    → slice_index (kept ++ bytes_of terminator) (length (kept ++ bytes_of terminator) - 1)
    ≡ byte_of terminator
ends-terminated (Byte b) kept =
    let last : length (kept ++ b ∷ []) - 1 ≡ length kept + 0 =
    omega (arith, length-append kept (b ∷ [])) in
    rw last (get_or-append-add kept (b ∷ []) 0 0)
ends-terminated Crlf kept =
    let last : length (kept ++ 13 ∷ 10 ∷ []) - 1 ≡ length kept + 1 =
    omega (arith, length-append kept (13 ∷ 10 ∷ [])) in
    rw last (get_or-append-add kept (13 ∷ 10 ∷ []) 1 0)

-- bytes that don't end in that byte have no terminator to strip
strip-unended : (terminator : LineTerminator) (line : List ℕ)
    → slice_index line (length line - 1) ≢ byte_of terminator → strip terminator line ≡ line
strip-unended terminator line other = ⊎_elim
    (λ joined. absurd (other (subst (λ l. slice_index l (length l - 1) ≡ byte_of terminator)
    (sym joined) (ends-terminated terminator (strip terminator line))))) (λ same. same)
    (strip-joined terminator line)

module _ (meaning : Meaning) (terminator : LineTerminator) (by : MatchesByLine meaning terminator)
  where
    abbrev t : ℕ
    t = byte_of terminator

    abbrev matches : List ℕ → Bool
    matches piece = is_some (meaning.first (strip terminator piece))

    abbrev start : List (List ℕ) → ℕ → ℕ
    start pieces i = length (concat (take i pieces))

    abbrev IsOpen : List ℕ → Type 0
    IsOpen bytes = slice_index bytes (length bytes - 1) ≢ t

    -- the first piece that matches holds a position
    record IsFirst (pieces : List (List ℕ)) (position : ℕ) : Type 0 where
      index : ℕ
      listed : index < length pieces
      low : start pieces index ≤ position
      high : (position < start pieces (suc index))
          ⊎ ((suc index ≡ length pieces) × (position ≡ length (concat pieces))
          × IsOpen (concat pieces))
      matched : matches (slice_index_or pieces index []) ≡ true
      before : (j : ℕ) → j < index → matches (slice_index_or pieces j []) ≡ false

    -- without a match no piece matches, and the first one that does holds the end of a match
    abbrev Tells : List (List ℕ) → Option (ℕ × ℕ) → Type 0
    Tells pieces None = (i : ℕ) → i < length pieces → matches (slice_index_or pieces i []) ≡ false
    Tells pieces (Some m) = 0 < length pieces → IsFirst pieces m.1

    -- the first piece, if it matches
    first-matches : (piece : List ℕ) (later : List (List ℕ)) (end : ℕ) → matches piece ≡ true
        → (end < length piece)
        ⊎ ((1 ≡ length (piece ∷ later)) × (end ≡ length (concat (piece ∷ later)))
        × IsOpen (concat (piece ∷ later))) → IsFirst (piece ∷ later) end
    first-matches piece later end does high = record {
      index = 0;
      listed = omega arith;
      low = omega arith;
      high = ⊎_elim (λ below. inl (omega (arith, length-append piece []))) (λ past. inr past) high;
      matched = does;
      before = λ j below. absurd (omega arith);
    }

    -- a piece that ends in the terminator's byte, and what follows it
    tells-more : (piece next : List ℕ) (later : List (List ℕ)) → IsEndedLine t piece → 0
        < length next → (found rest : Option (ℕ × ℕ)) → meaning.first piece ≡ found
        → (IsWithin (concat (next ∷ later)) rest → Tells (next ∷ later) rest)
        → IsWithin (concat (piece ∷ next ∷ later))
        (option_or found (match_from (length piece) rest))
        → Tells (piece ∷ next ∷ later) (option_or found (match_from (length piece) rest))
    tells-more piece next later ended filled (Some m) rest is tells within = λ some.
        first-matches piece (next ∷ later) m.1 (by.stripped piece ended ∙ ap is_some is)
        (inl (subst (λ o. IfSome o (λ k. k.1 < length piece)) is (by.before_end piece ended)))
    tells-more piece next later ended filled None None is tells within = none
      where
        none : (i : ℕ) → i < length (piece ∷ next ∷ later)
            → matches (slice_index_or (piece ∷ next ∷ later) i []) ≡ false
        none zero below = by.stripped piece ended ∙ ap is_some is
        none (suc i) below = tells tt i (omega arith)
    tells-more piece next later ended filled None (Some m) is tells within = λ some.
        let first = tells (omega (arith, within.0), omega (arith, within.1, both))
        (omega arith) in record {
          index = suc first.index;
          listed = omega (arith, first.listed);
          low = omega (
            arith,
            first.low,
            length-append piece (concat (take first.index (next ∷ later))),
          );
          high = ⊎_elim
              (λ below. inl (omega (
                arith,
                below,
                length-append piece (concat (take (suc first.index) (next ∷ later))),
              )))
              (λ past. inr (
                omega (arith, past.0),
                omega (arith, past.1, both),
                λ is. past.2 (sym last ∙ is),
              )) first.high;
          matched = first.matched;
          before = before first.index first.before;
        }
      where
        rest : List ℕ
        rest = concat (next ∷ later)

        both : length (piece ++ rest) ≡ length piece + length rest
        both = length-append piece rest

        last : slice_index (piece ++ rest) (length (piece ++ rest) - 1)
            ≡ slice_index rest (length rest - 1)
        last =
            let some : 0 < length rest = omega (arith, length-append next (concat later)) in
            let at : length (piece ++ rest) - 1 ≡ length piece + (length rest - 1) =
            omega (arith, both) in
            rw at (get_or-append-add piece rest (length rest - 1) 0)

        before : (k : ℕ) → ((j : ℕ) → j < k → matches (slice_index_or (next ∷ later) j []) ≡ false)
            → (j : ℕ) → j < suc k → matches (slice_index_or (piece ∷ next ∷ later) j []) ≡ false
        before k misses zero below = by.stripped piece ended ∙ ap is_some is
        before k misses (suc j) below = misses j (omega arith)

    -- a last piece, with a terminator or without
    last-same : (piece : List ℕ) → 0 < length piece → IsUnbroken t piece → matches piece
        ≡ is_some (meaning.first piece)
    last-same piece filled unbroken = ⊎_elim
        (λ closed. by.stripped piece (filled, closed, unbroken))
        (λ unended. ap (λ p. is_some (meaning.first p)) (strip-unended terminator piece unended))
        (cases_eq (slice_index piece (length piece - 1)) t)

    tells-last : (piece : List ℕ) → 0 < length piece → IsUnbroken t piece → (found : Option (ℕ × ℕ))
        → meaning.first piece ≡ found → IsWithin piece found → Tells (piece ∷ []) found
    tells-last piece filled unbroken None is within = none
      where
        none : (i : ℕ) → i < 1 → matches (slice_index_or (piece ∷ []) i []) ≡ false
        none zero below = last-same piece filled unbroken ∙ ap is_some is
        none (suc i) below = absurd (omega arith)
    tells-last piece filled unbroken (Some m) is within = λ some.
        first-matches piece [] m.1 (last-same piece filled unbroken ∙ ap is_some is) (⊎_elim
        (λ closed. inl (subst (λ o. IfSome o (λ k. k.1 < length piece)) is
        (by.before_end piece (filled, closed, unbroken)))) (λ unended. ⊎_elim (λ below. inl below)
        (λ past. inr (
          refl,
          omega (arith, within.1, ap length (append-nil piece)),
          subst IsOpen (sym (append-nil piece)) unended,
        )) (cases_lt m.1 (length piece))) (cases_eq (slice_index piece (length piece - 1)) t))

    -- all pieces, of which the first is given apart
    tells : (piece : List ℕ) (later : List (List ℕ)) → All (λ p. 0 < length p) (piece ∷ later)
        → All (IsUnbroken t) (piece ∷ later) → AreEnded t (piece ∷ later)
        → IsWithin (concat (piece ∷ later)) (meaning.first (concat (piece ∷ later)))
        → Tells (piece ∷ later) (meaning.first (concat (piece ∷ later)))
    tells piece [] filled unbroken ended within =
        subst (λ bytes. IsWithin bytes (meaning.first bytes)
        → Tells (piece ∷ []) (meaning.first bytes)) (sym (append-nil piece))
        (tells-last piece (All-head (λ p. 0 < length p) piece [] filled)
        (All-head (IsUnbroken t) piece [] unbroken) (meaning.first piece) refl) within
    tells piece (next ∷ later) filled unbroken ended within =
        let line : IsEndedLine t piece = (
          All-head (λ p. 0 < length p) piece (next ∷ later) filled,
          ended.0,
          All-head (IsUnbroken t) piece (next ∷ later) unbroken,
        ) in
        let more = All-tail (λ p. 0 < length p) piece (next ∷ later) filled in
        let rest : List ℕ = concat (next ∷ later) in
        let splits = by.one_by_one piece rest line in
        subst (Tells (piece ∷ next ∷ later)) (sym splits)
        (tells-more piece next later line (All-head (λ p. 0 < length p) next later more)
        (meaning.first piece) (meaning.first rest) refl
        (tells next later more (All-tail (IsUnbroken t) piece (next ∷ later) unbroken) ended.1)
        (subst (IsWithin (piece ++ rest)) splits within))

    -- so the first match tells of all lines
    tells-lines : (bytes : List ℕ) → IsWithin bytes (meaning.first bytes)
        → Tells (lines t bytes) (meaning.first bytes)
    tells-lines bytes within =
        let is = AreLines-lines t bytes in
        subst (λ b. Tells (lines t bytes) (meaning.first b)) is.joined
        (all (lines t bytes) is.filled is.unbroken is.ended
        (subst (λ b. IsWithin b (meaning.first b)) (sym is.joined) within))
      where
        empty : (found : Option (ℕ × ℕ)) → Tells [] found
        empty None = λ i below. absurd (omega arith)
        empty (Some m) = λ some. absurd (omega arith)

        all : (pieces : List (List ℕ)) → All (λ p. 0 < length p) pieces → All (IsUnbroken t) pieces
            → AreEnded t pieces → IsWithin (concat pieces) (meaning.first (concat pieces))
            → Tells pieces (meaning.first (concat pieces))
        all [] filled unbroken ended within = empty (meaning.first [])
        all (piece ∷ later) filled unbroken ended within = tells piece later filled unbroken ended
            within

    -- that is what makes its end a lawful result: exactly that line holds it
    lawful : (bytes : List ℕ) (found : Option (ℕ × ℕ)) → Tells (lines t bytes) found
        → IsLawfulResult terminator meaning bytes (confirmed_end found)
    lawful bytes None tells = tells
    lawful bytes (Some m) tells = (
      λ i listed ends.
          let is = at i listed in ⊎_elim
          (λ sooner. is.before i sooner) (λ from. ⊎_elim
          (λ same. absurd (ends.1 (rw same (holds is)))) (λ other. absurd (⊎_elim
          (λ below. omega (
            arith,
            below,
            ends.0,
            line_start-le t bytes (is.index + 1) (i + 1) (omega arith),
          )) (λ past. omega (arith, past.0, listed)) (holds is).1)) (cases_eq i is.index))
          (cases_lt i is.index),
      λ i listed held confirmed.
          let is = at i listed in
          let same = one is i listed held in
          rw same is.matched,
    )
      where
        at : (i : ℕ) → i < length (lines t bytes) → IsFirst (lines t bytes) m.1
        at i listed = tells (omega arith)

        holds : (is : IsFirst (lines t bytes) m.1) → HoldsPosition terminator meaning bytes is.index
            m.1
        holds is =
            let joined = (AreLines-lines t bytes).joined in (
              is.low,
              ⊎_elim (λ below. inl (rw add-one below))
                  (λ past. inr (
                    rw add-one past.0,
                    past.1 ∙ ap length joined,
                    subst IsOpen joined past.2,
                  )) is.high,
            )

        -- no other line holds it
        one : (is : IsFirst (lines t bytes) m.1) (i : ℕ) → i < length (lines t bytes)
            → HoldsPosition terminator meaning bytes i m.1 → i ≡ is.index
        one is i listed held = ⊎_elim (λ sooner. absurd (⊎_elim
            (λ below. omega (
              arith,
              below,
              is.low,
              line_start-le t bytes (i + 1) is.index (omega arith),
            )) (λ past. omega (arith, past.0, is.listed)) held.1)) (λ from. ⊎_elim (λ same. same)
            (λ other. absurd (⊎_elim
            (λ below. omega (
              arith,
              below,
              held.0,
              line_start-le t bytes (is.index + 1) i (omega arith),
            )) (λ past. omega (arith, past.0, listed)) (holds is).1)) (cases_eq i is.index))
            (cases_lt i is.index)

-- so its end can be trusted, as confirmed
pub trusted-by-line : (meaning : Meaning) (bytes : List ℕ) (found : Option (ℕ × ℕ)) → found
    ≡ meaning.first bytes
    → IsWithin bytes found → IsTrusted meaning (MatchesByLine meaning) bytes (confirmed_end found)
trusted-by-line meaning bytes found is within terminator by excludes =
    lawful meaning terminator by bytes found
    (subst (Tells meaning terminator by (lines (byte_of terminator) bytes))
    (sym is) (tells-lines meaning terminator by bytes (subst (IsWithin bytes) is within)))
