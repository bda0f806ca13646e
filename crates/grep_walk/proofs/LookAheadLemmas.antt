-- What a matcher's result for the lines from a position on says of a window's lines.
use Rattle.std.proofs.Common.{◌≡◌, inl, inr, ℕ, ◌+◌, ◌-◌, ◌<◌, ◌≤◌, true, false, List}
use Rattle.std.proofs.Common.{[], length, take, drop, get_or, is_some, Some}
use Rattle.std.proofs.Common.{None, sym, subst, ◌∙◌, ap, arith, ⊎_elim, length-append, length-drop}
use Rattle.std.proofs.Common.{take_all}
use Rattle.std.proofs.lemmas.Bool.{cases_lt, cases_eq}
use Rattle.std.proofs.lemmas.List.{get_or-drop}
use Rattle.std.proofs.lemmas.List.Folds.{concat-append}
use Rattle.std.proofs.lemmas.List.Sums.{sum_by-take-le}
use Rattle.std.proofs.Math.Seq.{take-add}
use Rattle.std.specs.List.{concat}
use Rattle.grep_matcher.specs.declared.line_match_kind.LineMatchKind.{LineMatchKind}
use Rattle.grep_matcher.specs.declared.line_terminator.LineTerminator.{LineTerminator}
use Rattle.grep_matcher.specs.Lawful.{matches_at, HoldsPosition, IsLawfulResult, position_of}
use Rattle.grep_matcher.specs.Lawful.{is_confirmed}
use Rattle.grep_matcher.specs.Lines.{lines, line_start, strip, byte_of}
use Rattle.grep_matcher.specs.Meanings.{Meaning}
use Rattle.grep_lines.specs.Blocks.{lines_before, block_start, block_end}
use Rattle.std.specs.Prelude.{slice_range}
use Rattle.grep_lines.specs.Positions.{IsLine, IsLineStart}
use Rattle.grep_matcher.proofs.LineLemmas.{count, lines-closed, lines-unclosed}
use Rattle.grep_lines.proofs.LineStepLemmas.{IsAt-start, IsStep-line, lines-at-most, lines-numbered}
use Rattle.grep_definitions.specs.LineCalls.{matches_line}
use Rattle.grep_definitions.specs.Plans.{Settings}
use Rattle.grep_matcher.proofs.LineStartLemmas.{line_start-last, line_start-le}
use Rattle.grep_walk.specs.LookAheads.{IsKnown}
use Rattle.grep_lines.proofs.LineRangeLemmas.{end-start, line-from, start-same}

-- the line of a position extends from one position up to another
pub record IsLocated (t : ℕ) (bytes : List ℕ) (position : ℕ) (line : ℕ × ℕ) : Type 0 where
  pub begins : line.0 ≡ line_start t bytes (lines_before t bytes position)
  pub ends : line.1 ≡ line_start t bytes (lines_before t bytes position + 1)
  pub low : line.0 ≤ position
  pub high : position ≤ line.1

-- the whole lines of an empty match are that line
pub IsLocated-empty : (t u position : ℕ) (bytes part : List ℕ) (m line : ℕ × ℕ) → u ≡ t → part
    ≡ bytes → m ≡ (position, position)
    → line ≡ (block_start u part m, block_end u part m) → line.0 ≤ m.0 → m.1 ≤ line.1
    → IsLocated t bytes position line
IsLocated-empty t u position bytes part m line same whole empty is low high = grind arith

-- at most as many lines end before a position as there are lines
before-few : (t : ℕ) (bytes : List ℕ) (position : ℕ) → lines_before t bytes position
    ≤ length (lines t bytes)
before-few t bytes position =
    grind (arith, lines-closed, lines-unclosed, cases_lt, cases_eq, count, sum_by-take-le)

-- which lines hold a position
module _ (terminator : LineTerminator) (meaning : Meaning) (bytes : List ℕ) (position : ℕ) (line : ℕ
    × ℕ)
    (at : IsLocated (byte_of terminator) bytes position line) where
  abbrev byte : ℕ
  byte = byte_of terminator

  abbrev holder : ℕ
  holder = lines_before byte bytes position

  -- at the end of the bytes all terminators are before it
  before-all : position ≡ length bytes → holder ≡ count byte bytes
  before-all end = ap (count byte) (take_all position bytes (omega arith))

  -- a line before its line doesn't
  unheld : (i : ℕ) → i < holder → HoldsPosition terminator meaning bytes i position → ⊥
  unheld i before (low, inl below) = grind (arith, line_start-le)
  unheld i before (low, inr (last, end, other)) =
      grind (arith, before-all, lines-unclosed, lines-at-most)

  -- its line does, if there is one
  held : holder < length (lines byte bytes) → HoldsPosition terminator meaning bytes holder position
  held listed = (
    omega arith,
    ⊎_elim (λ below. inl below) (λ over. ⊎_elim
        (λ more. absurd (omega (
          arith,
          lines-numbered byte bytes (holder + 1) more,
          ap (λ p. count byte (take p bytes)) (same over),
        )))
        (λ last. inr (
          omega arith,
          end over last,
          λ closed. omega (
            arith,
            before-all (end over last),
            lines-closed byte bytes (λ some. closed),
          ),
        )) (cases_lt (holder + 1) (length (lines byte bytes))))
        (cases_lt position (line_start byte bytes (holder + 1))),
  )
    where
      same : line_start byte bytes (holder + 1) ≤ position → position
          ≡ line_start byte bytes (holder + 1)
      same over = omega arith

      end : line_start byte bytes (holder + 1) ≤ position → length (lines byte bytes) ≤ holder + 1
          → position ≡ length bytes
      end over last =
          let all : holder + 1 ≡ length (lines byte bytes) = omega arith in
          same over ∙ (ap (line_start byte bytes) all ∙ line_start-last byte bytes)

-- the lines of what follows the start of a line
module _ (t : ℕ) (bytes : List ℕ) (start first : ℕ) (here : IsLineStart t bytes start first) where
  abbrev rest : List ℕ
  rest = drop start bytes

  later : drop first (lines t bytes) ≡ lines t rest
  later = (IsAt-start t bytes start first here).rest

  -- in the bytes they start as much later
  later-start : (j : ℕ) → line_start t bytes (first + j) ≡ start + line_start t rest j
  later-start j = grind (arith, take-add, later, concat-append, length-append)

  -- the lines of the bytes are those before the start and these
  later-count : length (lines t bytes) ≡ first + length (lines t rest)
  later-count = omega (arith, length-drop first (lines t bytes), ap length later)

  -- where the line of a position of theirs begins, a line of the bytes does
  pub later-located : (position : ℕ) (line : ℕ × ℕ) → IsLocated t rest position line
      → IsLineStart t bytes (start + line.0) (first + lines_before t rest position)
  later-located position line at = grind (arith, later-count, before-few, later-start)

  -- line j of them extends from p up to q of the bytes
  record IsLater (p q j : ℕ) : Type 0 where
    pub listed : j < length (lines t rest)
    pub begins : p ≡ start + line_start t rest j
    pub line : get_or (lines t rest) j [] ≡ slice_range bytes p q

  -- a line of the bytes that begins at the start or later is one of them
  IsLater-line : (i p q : ℕ) → IsLine t bytes i p q → start ≤ p → IsLater p q (i - first)
  IsLater-line i p q line low =
      let after : first ≤ i = ⊎_elim
      (λ less. absurd (omega (
        arith,
        line_start-le t bytes (i + 1) first (omega arith),
        line.ends,
        line.above,
      ))) (λ over. over) (cases_lt i first) in
      let sum : first + (i - first) ≡ i = omega arith in
      record {
        listed = omega (arith, line.listed, later-count);
        begins = sym line.begins ∙ (ap (line_start t bytes) (sym sum) ∙ later-start (i - first));
        line = ap (λ ls. get_or ls (i - first) []) (sym later)
            ∙ (get_or-drop first (lines t bytes) (i - first) []
            ∙ (ap (λ n. get_or (lines t bytes) n []) sum ∙ line.line));
      }

-- what a result for the bytes from the start of a line on says
module _ (k : Settings) (meaning : Meaning) (window : List ℕ) (start first : ℕ)
    (here : IsLineStart (byte_of k.line_terminator) window start first) where
  abbrev t : ℕ
  t = byte_of k.line_terminator

  abbrev asked : List ℕ
  asked = drop start window

  -- a line of the window matches if it does among the lines of those bytes
  matches-later : (p q j : ℕ) → IsLater t window start first here p q j
      → matches_line k meaning (slice_range window p q) ≡ matches_at k.line_terminator meaning asked
      j
  matches-later p q j inside = ap (λ l. is_some (meaning.first (strip k.line_terminator l)))
      (sym inside.line)

  -- if nothing was found, no line matches
  pub known-none : IsLawfulResult k.line_terminator meaning asked None
      → IsKnown k meaning window start (record {
        candidate = length window;
        match_end = length window;
        asked_end = length window;
      })
  known-none lawful = record {
    index = length (lines t window);
    at = end-start t window;
    exact = λ some. absurd (omega arith);
    miss = λ i p q line low high.
        let inside = IsLater-line t window start first here i p q line low in
        matches-later p q (i - first) inside ∙ lawful (i - first) inside.listed;
    hit = λ i p q line low high. absurd (omega arith);
  }

  -- if a line was found
  module _ (found : LineMatchKind) (lawful : IsLawfulResult k.line_terminator meaning asked
      (Some found)) (line : ℕ × ℕ) (at : IsLocated t asked (position_of found) line) (candidate : ℕ)
      (begins : candidate ≡ start + line.0) where
    abbrev located : ℕ
    located = lines_before t asked (position_of found)

    start-located : IsLineStart t window candidate (first + located)
    start-located = subst (λ p. IsLineStart t window p (first + located)) (sym begins)
        (later-located t window start first here (position_of found) line at)

    -- no line before it matches
    miss-before : (i p q : ℕ) → IsLine t window i p q → start ≤ p → p < candidate
        → matches_line k meaning (slice_range window p q) ≡ false
    miss-before i p q own after early =
        let inside = IsLater-line t window start first here i p q own after in
        let before : i - first < located = ⊎_elim
        (λ less. less)
        (λ over. absurd (omega (arith, line_start-le t asked located (i - first) over, begins)))
        (cases_lt (i - first) located) in
        matches-later p q (i - first) inside ∙ lawful.0 (i - first) inside.listed (
          omega (arith, line_start-le t asked ((i - first) + 1) located (omega arith)),
          unheld k.line_terminator meaning asked (position_of found) line at (i - first) before,
        )

    -- if it isn't known whether it matches
    pub known-candidate : (asked_end : ℕ) → IsKnown k meaning window start (record {
      candidate = candidate;
      match_end = candidate;
      asked_end = asked_end;
    })
    known-candidate asked_end = record {
      index = first + located;
      at = start-located;
      exact = λ some. absurd (omega arith);
      miss = miss-before;
      hit = λ i p q line after early. absurd (omega arith);
    }

    -- if it matches
    pub known-confirmed : is_confirmed found ≡ true → (match_end : ℕ) → match_end ≡ start + line.1
        → IsKnown k meaning window start
        (record { candidate = candidate; match_end = match_end; asked_end = match_end })
    known-confirmed confirmed match_end ends = record {
      index = first + located;
      at = start-located;
      exact = λ some i begun.
          let listed : located < length (lines t asked) = ⊎_elim (λ less. less)
          (λ over. absurd (omega (arith, begins, ends, none-after over)))
          (cases_lt located (length (lines t asked))) in
          let next : first + (located + 1) ≡ i + 1 =
          omega (arith, start-same begun start-located) in
          line-from begun (subst (IsLineStart t window match_end) next (record {
            listed = omega (arith, listed, later-count t window start first here);
            begins = later-start t window start first here (located + 1) ∙ omega (arith, ends);
          }));
      miss = miss-before;
      hit = λ i p q own after early.
          let inside = IsLater-line t window start first here i p q own (omega (arith, begins)) in
          let same = only (i - first) (IsStep-line t asked (i - first) inside.listed).above
          (omega (arith, begins)) (omega (arith, ends)) in
          let listed : located < length (lines t asked) = omega (arith, same) in
          matches-later p q (i - first) inside
          ∙ (ap (matches_at k.line_terminator meaning asked) same
          ∙ lawful.1 located listed (held k.line_terminator meaning asked (position_of found) line
          at listed) confirmed);
    }
      where
        -- after the last line none begins
        none-after : length (lines t asked) ≤ located → line_start t asked (located + 1)
            ≡ line_start t asked located
        none-after over =
            ap (λ ls. length (concat ls)) (take_all (located + 1) (lines t asked) (omega arith)
            ∙ sym (take_all located (lines t asked) over))

        -- a line that begins in it is the line itself
        only : (j : ℕ) → line_start t asked j < line_start t asked (j + 1)
            → line_start t asked located ≤ line_start t asked j
            → line_start t asked j < line_start t asked (located + 1) → j ≡ located
        only j above low high = grind (
          arith,
          line_start-le t asked (j + 1) located,
          line_start-le t asked (located + 1) j,
        )
