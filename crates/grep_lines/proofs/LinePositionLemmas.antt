-- Where the line of a position starts and ends, by the number of terminators before the position
-- and by the line's index.
use Rattle.std.proofs.Common.{◌≡◌, ◌≢◌, ℕ, zero, suc, ◌+◌, ◌-◌, ◌<◌, ◌≤◌, ◌==◌, List, ◌++◌, length}
use Rattle.std.proofs.Common.{take, drop, slice_index, sym, ◌∙◌, ap, arith, ⊎_elim, subst, take_all}
use Rattle.std.proofs.Common.{length-drop}
use Rattle.std.proofs.lemmas.Bool.{cases_eq, cases_lt, lt-ltb, le-ltb, eq-eqb, ne_eqb}
use Rattle.std.proofs.lemmas.List.{take_at, take-append-drop, get_or-drop, get_or-take}
use Rattle.std.proofs.lemmas.List.{length-take-le}
use Rattle.std.proofs.lemmas.List.Sums.{count_by_more_yes, count_by_more_no}
use Rattle.std.specs.List.{concat}
use Rattle.grep_matcher.specs.Lines.{lines, line_start}
use Rattle.grep_lines.specs.Blocks.{block_start, block_end}
use Rattle.grep_lines.specs.FirstLine.{IsFirstLine, IsLastStart}
use Rattle.grep_lines.specs.Positions.{IsLineStart}
use Rattle.grep_matcher.proofs.LineLemmas.{count, IsClosed, lines-append, lines-closed, lines-few}
use Rattle.grep_matcher.proofs.LineLemmas.{lines-joined}
use Rattle.grep_lines.proofs.LineStepLemmas.{IsAt-start, IsStep-line, IsLastStart-line}

module _ (t : ℕ) (bytes : List ℕ) where
  -- no t occurs from a position up to another
  abbrev IsBare : ℕ → ℕ → Type 0
  IsBare from end = (i : ℕ) → from ≤ i → i < end → slice_index bytes i ≢ t

  -- then as many t come before both
  count-bare : (from end : ℕ) → from ≤ end → end ≤ length bytes → IsBare from end
      → count t (take end bytes) ≡ count t (take from bytes)
  count-bare from zero low within bare = let same : zero ≡ from =
      omega arith in ap (λ n. count t (take n bytes)) same
  count-bare from (suc end) low within bare = ⊎_elim (λ less.
      let before = count-bare from end (omega arith) (omega arith)
      (λ i above below. bare i above (omega arith)) in
      let other = ne_eqb (slice_index bytes end) t (bare end (omega arith) (omega arith)) in
      let more = count_by_more_no (λ b. b == t) bytes end 0 (omega arith) other in
      let one : suc end ≡ end + 1 = omega arith in
      ap (λ n. count t (take n bytes)) one ∙ (more ∙ before))
      (λ over. let same : suc end ≡ from = omega arith in ap (λ n. count t (take n bytes)) same)
      (cases_lt from (suc end))

  -- as many lines come before the start of a line as terminators
  start-count : (start : ℕ) → start ≤ length bytes → (0 < start → slice_index bytes (start - 1) ≡ t)
      → start ≡ line_start t bytes (count t (take start bytes))
  start-count start within closed =
      let front = take start bytes in
      let size : length front ≡ start = length-take-le start bytes within in
      let shut : IsClosed t front = λ some. ap (λ n. slice_index front (n - 1)) size
      ∙ (get_or-take start bytes (start - 1) 0 (omega arith) ∙ closed (omega arith)) in
      let both : lines t bytes ≡ lines t front ++ lines t (drop start bytes) = ap (lines t)
      (sym (take-append-drop start bytes)) ∙ lines-append t front (drop start bytes) shut in
      let few = ap (take (count t front)) both
      ∙ take_at (lines t front) (lines t (drop start bytes)) (count t front)
      (lines-closed t front shut) in
      sym (ap (λ ls. length (concat ls)) few ∙ (ap length (lines-joined t front) ∙ size))

  -- the start of the line of a position
  last_start-count : (position start : ℕ) → position ≤ length bytes
      → IsLastStart t bytes position start
      → start ≡ line_start t bytes (count t (take position bytes))
  last_start-count position start within last =
      start-count start (omega arith) last.closed
      ∙ ap (line_start t bytes) (sym (count-bare start position last.high within last.inner))

  -- the block of a match starts there
  pub block_start-is : (m : ℕ × ℕ) (position start : ℕ) → m.0 ≤ length bytes → position ≡ m.0
      → IsLastStart t bytes position start → start ≡ block_start t bytes m
  block_start-is m position start within same last = last_start-count m.0 start within
      (subst (λ p. IsLastStart t bytes p start) same last)

  -- the end of that line, after its terminator
  pub end-count : (position at : ℕ) → position ≤ at → at < length bytes → slice_index bytes at ≡ t
      → IsBare position at → at + 1 ≡ line_start t bytes (count t (take position bytes) + 1)
  end-count position at low below same bare =
      let back : (at + 1) - 1 ≡ at = omega arith in
      let here = start-count (at + 1) (omega arith) (λ _. ap (slice_index bytes) back ∙ same) in
      let one = count_by_more_yes (λ b. b == t) bytes at 0 below
      (eq-eqb (slice_index bytes at) t same) in
      here ∙ ap (line_start t bytes)
      (one ∙ ap (λ n. n + 1) (count-bare position at low (omega arith) bare))

  -- the end of that line, if it has no terminator
  pub end-last : (position : ℕ) → position ≤ length bytes → IsBare position (length bytes)
      → length bytes ≡ line_start t bytes (count t (take position bytes) + 1)
  end-last position within bare =
      let all : count t bytes ≡ count t (take position bytes) = ap (count t)
      (sym (take_all (length bytes) bytes (omega arith)))
      ∙ count-bare position (length bytes) within (omega arith) bare in
      let few : length (lines t bytes) ≤ count t (take position bytes) + 1 =
      omega (arith, lines-few t bytes) in
      sym (ap (λ ls. length (concat ls)) (take_all (count t (take position bytes) + 1)
      (lines t bytes) few) ∙ ap length (lines-joined t bytes))

  -- the same by the length of the first line of the bytes from the position on
  pub end-first : (position e : ℕ) → position ≤ length bytes
      → IsFirstLine t (drop position bytes) e
      → position + e ≡ line_start t bytes (count t (take position bytes) + 1)
  end-first position e within first = ⊎_elim ended unended
      (cases_eq (slice_index bytes (position + (e - 1))) t)
    where
      bare : IsBare position (position + (e - 1))
      bare i low high same =
          let sum : position + (i - position) ≡ i = omega arith in
          first.inner (i - position) (omega (arith, low, high))
          (get_or-drop position bytes (i - position) 0 ∙ (ap (slice_index bytes) sum ∙ same))

      size : length (drop position bytes) ≡ length bytes - position
      size = length-drop position bytes

      ended : slice_index bytes (position + (e - 1)) ≡ t
          → position + e ≡ line_start t bytes (count t (take position bytes) + 1)
      ended same =
          let sum : position + e ≡ (position + (e - 1)) + 1 = omega (arith, first.above) in
          sum ∙ end-count position (position + (e - 1)) (omega arith)
          (omega (arith, first.above, first.within, size)) same bare

      unended : slice_index bytes (position + (e - 1)) ≢ t
          → position + e ≡ line_start t bytes (count t (take position bytes) + 1)
      unended other =
          let last : length (drop position bytes) ≤ e = ⊎_elim
          (λ less. absurd (other (sym (get_or-drop position bytes (e - 1) 0) ∙ first.closed less)))
          (λ over. over) (cases_lt e (length (drop position bytes))) in
          let all : position + e ≡ length bytes = omega (arith, last, first.within, size, within) in
          all ∙ end-last position within (λ i low high same. ⊎_elim
          (λ less. bare i low less same)
          (λ over. other (ap (slice_index bytes) (omega (arith, over, high, all)) ∙ same))
          (cases_lt i (position + (e - 1))))

  -- of two last line starts up to a position none is above the other
  last_start-below : (position a b : ℕ) → IsLastStart t bytes position a
      → IsLastStart t bytes position b → a ≤ b
  last_start-below position a b first second = ⊎_elim
      (λ less. absurd (second.inner (a - 1) (omega arith) (omega arith)
      (first.closed (omega arith)))) (λ over. over) (cases_lt b a)

  -- so there is only one
  last_start-same : (position a b : ℕ) → IsLastStart t bytes position a
      → IsLastStart t bytes position b → a ≡ b
  last_start-same position a b first second = omega (
    arith,
    last_start-below position a b first second,
    last_start-below position b a second first,
  )

  -- for a position in a line it is the start of the line
  last_start-line : (i position start : ℕ) → i < length (lines t bytes) → line_start t bytes i
      ≤ position
      → position < line_start t bytes (i + 1) → IsLastStart t bytes position start → start
      ≡ line_start t bytes i
  last_start-line i position start inside low high last =
      last_start-same position start (line_start t bytes i) last
      (IsLastStart-line t bytes i position inside low high)

  -- for the byte before the start of a line it is the start of the line before
  start-before : (position start i : ℕ) → 0 < position → IsLastStart t bytes (position - 1) start
      → IsLineStart t bytes position i → IsLineStart t bytes start (i - 1)
  start-before position start zero some last here = absurd (omega arith)
  start-before position start (suc i) some last here =
      let back : suc i - 1 ≡ i = omega arith in
      let one : suc i ≡ i + 1 = omega arith in
      let step = IsStep-line t bytes i (omega arith) in
      let next : line_start t bytes (i + 1) ≡ position = ap (line_start t bytes) (sym one)
      ∙ here.begins in
      let same = last_start-line i (position - 1) start step.inside (omega arith) (omega arith)
      last in
      record { listed = omega arith; begins = ap (line_start t bytes) back ∙ sym same }

  -- the line that starts at 0 is line 0
  start-none : (i : ℕ) → IsLineStart t bytes 0 i → i ≡ 0
  start-none i here = omega (arith, (IsAt-start t bytes 0 i here).few)

  -- the start of the line before, also for a position that may be 0
  start-back : (position start i : ℕ) → (position ≡ 0 → start ≡ 0)
      → (0 < position → IsLastStart t bytes (position - 1) start)
      → IsLineStart t bytes position i → IsLineStart t bytes start (i - 1)
  start-back position start i none last here = ⊎_elim
      (λ some. start-before position start i some (last some) here) (λ over.
      let empty : position ≡ 0 = omega arith in
      let zero_i : i ≡ 0 = start-none i (subst (λ p. IsLineStart t bytes p i) empty here) in
      let back : i ≡ i - 1 = omega arith in
      let same : position ≡ start = omega (arith, none empty) in
      subst (λ p. IsLineStart t bytes p (i - 1)) same
      (subst (IsLineStart t bytes position) back here)) (cases_lt 0 position)

  -- the last line ends at the end of the bytes
  pub last_line : (last : ℕ) → last + 1 ≡ length (lines t bytes)
      → (line_start t bytes last < length bytes) × (line_start t bytes (last + 1) ≡ length bytes)
  last_line last is =
      let all : line_start t bytes (length (lines t bytes)) ≡ length bytes =
      ap (λ ls. length (concat ls)) (take_all (length (lines t bytes)) (lines t bytes)
      (omega arith)) ∙ ap length (lines-joined t bytes) in
      let end : line_start t bytes (last + 1) ≡ length bytes = ap (line_start t bytes) is ∙ all in
      let step = IsStep-line t bytes last (omega arith) in
      (omega arith, end)

  -- a start of the line k lines before the one with start < pos ≤ end; that is also the line k
  -- lines before one that ends at pos
  pub record IsBack (pos start k : ℕ) : Type 0 where
    pub line : (i : ℕ) → i < length (lines t bytes) → line_start t bytes i < pos → pos
        ≤ line_start t bytes (i + 1) → IsLineStart t bytes start (i - k)
    pub from_start : (i : ℕ) → IsLineStart t bytes pos i → IsLineStart t bytes start (i - 1 - k)

  -- the line that holds the byte before pos
  pub IsBack-first : (pos start : ℕ) → (pos ≡ 0 → start ≡ 0)
      → (0 < pos → IsLastStart t bytes (pos - 1) start) → IsBack pos start 0
  IsBack-first pos start none last = record {
    line = λ i inside low high.
        let same : i ≡ i - 0 = omega arith in
        let begins = last_start-line i (pos - 1) start inside (omega arith) (omega arith)
        (last (omega arith)) in
        subst (IsLineStart t bytes start) same (record {
          listed = omega arith;
          begins = sym begins;
        });
    from_start = λ i here.
        let same : i - 1 ≡ i - 1 - 0 = omega arith in
        subst (IsLineStart t bytes start) same (start-back pos start i none last here);
  }

  -- one line further back
  pub IsBack-more : (pos later start k : ℕ) → 0 < later → IsLastStart t bytes (later - 1) start
      → IsBack pos later k → IsBack pos start (k + 1)
  IsBack-more pos later start k some last back = record {
    line = λ i inside low high.
        let same : i - k - 1 ≡ i - (k + 1) = omega arith in
        subst (IsLineStart t bytes start) same (start-before later start (i - k) some last
        (back.line i inside low high));
    from_start = λ i here.
        let same : i - 1 - k - 1 ≡ i - 1 - (k + 1) = omega arith in
        subst (IsLineStart t bytes start) same (start-before later start (i - 1 - k) some last
        (back.from_start i here));
  }

  -- before 0 there are no lines
  pub IsBack-zero : (pos start k n : ℕ) → start ≡ 0 → k ≤ n → IsBack pos start k
      → IsBack pos start n
  IsBack-zero pos start k n none more back = record {
    line = λ i inside low high. further (i - k) (i - n) (omega arith) (back.line i inside low high);
    from_start = λ i here. further (i - 1 - k) (i - 1 - n) (omega arith) (back.from_start i here);
  }
    where
      further : (i j : ℕ) → j ≤ i → IsLineStart t bytes start i → IsLineStart t bytes start j
      further i j low here =
          let first = start-none i (subst (λ p. IsLineStart t bytes p i) none here) in
          let same : i ≡ j = omega arith in
          subst (IsLineStart t bytes start) same here

  -- the block of a match whose last byte is the terminator
  pub block_end-closed : (m : ℕ × ℕ) → m.0 < m.1 → m.1 ≤ length bytes → slice_index bytes (m.1 - 1)
      ≡ t → m.1 ≡ block_end t bytes m
  block_end-closed m some within same =
      let less = lt-ltb m.0 m.1 some in
      let yes = eq-eqb (slice_index bytes (m.1 - 1)) t same in
      rw (less, yes) (start-count m.1 within (λ _. same))

  -- the block of any other match
  pub block_end-open : (m : ℕ × ℕ) (end : ℕ) → (m.0 < m.1 → slice_index bytes (m.1 - 1) ≢ t)
      → end ≡ line_start t bytes (count t (take m.1 bytes) + 1) → end ≡ block_end t bytes m
  block_end-open m end other is = ⊎_elim (λ some.
      let less = lt-ltb m.0 m.1 some in
      let no = ne_eqb (slice_index bytes (m.1 - 1)) t (other some) in
      rw (less, no) is) (λ none. let not_less = le-ltb m.0 m.1 none in rw not_less is)
      (cases_lt m.0 m.1)
