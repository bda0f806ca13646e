-- Which lines a match touches: those that it has a byte of, and an empty match the line that holds
-- its position.
use Rattle.std.proofs.Common.{◌≡◌, ◌≢◌, ℕ, zero, suc, ◌+◌, ◌-◌, ◌<◌, ◌≤◌, Bool, true, ◌&&◌}
use Rattle.std.proofs.Common.{List, length, slice_index, refl, sym, ap, ◌∙◌, arith, ⊎_elim, inl}
use Rattle.std.proofs.Common.{inr, take_all}
use Rattle.std.proofs.lemmas.Bool.{le-leb, leb-true, cases_lt, cases_eq}
use Rattle.std.proofs.lemmas.Bool.{ne_eqb, and_parts, and_from}
use Rattle.std.proofs.lemmas.List.Sums.{count_by_more_no}
use Rattle.std.specs.Prelude.{nat_lt, nat_le}
use Rattle.grep_matcher.specs.declared.line_terminator.LineTerminator.{LineTerminator}
use Rattle.grep_matcher.specs.Lawful.{HoldsPosition}
use Rattle.grep_matcher.specs.Lines.{lines, line_start, byte_of}
use Rattle.grep_matcher.specs.Meanings.{Meaning}
use Rattle.grep_lines.specs.Blocks.{lines_before, block_start, block_end}
use Rattle.grep_matcher.proofs.LineLemmas.{count, lines-closed, lines-unclosed}
use Rattle.grep_lines.proofs.LinePositionLemmas.{block_start-is, block_end-closed, block_end-open}
use Rattle.grep_lines.proofs.LineStepLemmas.{IsLastStart-line}
use Rattle.grep_matcher.proofs.LineStartLemmas.{line_start-ascends, line_start-within}
use Rattle.grep_matcher.proofs.LineStartLemmas.{line_start-last, line_start-le}

-- a test for at most that passes if a test for less does, and no other time
pub same-tests : (x y z w : ℕ) → (x ≤ y → w ≤ z → ⊥) → (z < w → y < x → ⊥) → nat_le x y ≡ nat_lt z w
same-tests x y z w first second = grind arith

module _ (t : ℕ) (bytes : List ℕ) where
  -- how many lines there are, and where each begins
  abbrev n : ℕ
  n = length (lines t bytes)

  abbrev from : ℕ → ℕ
  from = line_start t bytes

  pub rises : (i : ℕ) → i < n → from i < from (i + 1)
  rises = line_start-ascends t bytes

  high : (i : ℕ) → from i ≤ length bytes
  high = line_start-within t bytes

  end : from n ≡ length bytes
  end = line_start-last t bytes

  -- each byte is in a line
  pub holder : (p : ℕ) → p < length bytes → (a : ℕ) × (a < n) × (from a ≤ p) × (p < from (a + 1))
  holder p below = find n (omega arith) (omega (arith, end))
    where
      find : (k : ℕ) → k ≤ n → p < from k → (a : ℕ) × (a < n) × (from a ≤ p) × (p < from (a + 1))
      find zero few less = absurd (omega arith)
      find (suc k) few less = ⊎_elim (λ before. find k (omega arith) before)
          (λ over. let one : k + 1 ≡ suc k = omega arith in (k, omega arith, over, rw one less))
          (cases_lt p (from k))

  -- the block of a match that starts in a line starts with the line
  pub block_start-line : (m : ℕ × ℕ) (a : ℕ) → a < n → from a ≤ m.0 → m.0 < from (a + 1) → from a
      ≡ block_start t bytes m
  block_start-line m a inside low below =
      block_start-is t bytes m m.0 (from a) (omega (arith, high (a + 1))) refl
      (IsLastStart-line t bytes a m.0 inside low below)

  -- so many lines come before a position in a line
  pub lines_before-line : (p a : ℕ) → a < n → from a ≤ p → p < from (a + 1) → lines_before t bytes p
      ≡ a
  lines_before-line p a inside low below =
      let same = block_start-line (p, p) a inside low below in
      ⊎_elim
      (λ less. absurd (omega (
        arith,
        rises (lines_before t bytes p) (omega (arith, less)),
        line_start-le t bytes (lines_before t bytes p + 1) a (omega (arith, less)),
      ))) (λ over. ⊎_elim
      (λ more. absurd (omega (
        arith,
        rises a inside,
        line_start-le t bytes (a + 1) (lines_before t bytes p) (omega (arith, more)),
      ))) (λ few. omega arith) (cases_lt a (lines_before t bytes p)))
      (cases_lt (lines_before t bytes p) a)

  -- the block of a match that isn't empty and ends in a line ends with the line
  pub block_end-line : (m : ℕ × ℕ) (b : ℕ) → m.0 < m.1 → b < n → from b < m.1 → m.1 ≤ from (b + 1)
      → from (b + 1) ≡ block_end t bytes m
  block_end-line m b some inside low below =
      grind (
        arith,
        IsLastStart-line,
        block_end-open,
        lines_before-line,
        block_end-closed,
        cases_eq,
        cases_lt,
        high,
        ne_eqb,
        count_by_more_no,
      )

  -- the block of an empty match in a line ends with the line
  pub block_end-empty : (p a : ℕ) → a < n → from a ≤ p → p < from (a + 1) → from (a + 1)
      ≡ block_end t bytes (p, p)
  block_end-empty p a inside low below = grind (arith, block_end-open, lines_before-line)

  -- whether a line is within the whole lines of a match
  abbrev is_within : ℕ → ℕ × ℕ → Bool
  is_within i m = nat_le (block_start t bytes m) (from i)
      && nat_le (from (i + 1)) (block_end t bytes m)

  -- a line's start and the next one's against those of the lines that a match starts and ends in
  starts-late : (s a i : ℕ) → a < n → i < n → from a ≤ s → s < from (a + 1)
      → nat_le (from a) (from i) ≡ nat_lt s (from (i + 1))
  starts-late s a i inside here low below =
      grind (arith, same-tests, rises, line_start-le, cases_lt)

  ends-early : (e b i : ℕ) → b < n → i < n → from b < e → e ≤ from (b + 1)
      → nat_le (from (i + 1)) (from (b + 1)) ≡ nat_lt (from i) e
  ends-early e b i inside here low below = grind (arith, same-tests, rises, line_start-le, cases_lt)

  -- a match that isn't empty touches the lines that it has a byte of
  pub is_within-some : (m : ℕ × ℕ) (i : ℕ) → m.0 < m.1 → m.1 ≤ length bytes → i < n
      → is_within i m ≡ (nat_lt m.0 (from (i + 1)) && nat_lt (from i) m.1)
  is_within-some m i some inside here =
      let first = holder m.0 (omega arith) in
      let last = holder (m.1 - 1) (omega arith) in
      let start = block_start-line m first.0 first.1 first.2 first.3 in
      let stop = block_end-line m last.0 some last.1 (omega arith) (omega arith) in
      rw (← start, ← stop, starts-late m.0 first.0 i first.1 here first.2 first.3)
      (ap (λ b. nat_lt m.0 (from (i + 1)) && b) (ends-early m.1 last.0 i last.1 here (omega arith)
      (omega arith)))

-- an empty match touches the line that holds its position
module _ (terminator : LineTerminator) (meaning : Meaning) (bytes : List ℕ) (p i : ℕ) (inside : p
    ≤ length bytes)
    (here : i < n (byte_of terminator) bytes) where
  abbrev t : ℕ
  t = byte_of terminator

  abbrev starts : ℕ → ℕ
  starts = from (byte_of terminator) bytes

  -- where the line of the end is among the lines
  all-before : length bytes ≤ p → lines_before t bytes p ≡ count (byte_of terminator) bytes
  all-before over = ap (count (byte_of terminator)) (take_all p bytes over)

  -- the line of the end is the last one, if that has no terminator
  last-before : length bytes ≤ p → slice_index bytes (length bytes - 1) ≢ byte_of terminator
      → lines_before t bytes p + 1 ≡ n t bytes
  last-before over other = ⊎_elim
      (λ some. omega (arith, all-before over, lines-unclosed t bytes some other))
      (λ none. absurd (omega (arith, rises t bytes i here, high t bytes (i + 1))))
      (cases_lt 0 (length bytes))

  -- a touched line holds it
  pub is_within-holds : is_within (byte_of terminator) bytes i (p, p) ≡ true
      → HoldsPosition terminator meaning bytes i p
  is_within-holds is = ⊎_elim (λ below.
      let line = holder t bytes p below in
      let same : i ≡ line.0 = ⊎_elim
      (λ less. absurd (omega (
        arith,
        rises t bytes i here,
        line_start-le t bytes (i + 1) line.0 (omega arith),
        first,
        block_start-line t bytes (p, p) line.0 line.1 line.2 line.3,
      ))) (λ over. ⊎_elim
      (λ more. absurd (omega (
        arith,
        rises t bytes i here,
        line_start-le t bytes (line.0 + 1) i (omega arith),
        second,
        block_end-empty t bytes p line.0 line.1 line.2 line.3,
      ))) (λ few. omega arith) (cases_lt line.0 i)) (cases_lt i line.0) in
      (omega (arith, ap starts same), inl (omega (arith, ap (λ x. starts (x + 1)) same))))
      (λ over. ⊎_elim
      (λ closed. absurd (omega (
        arith,
        first,
        all-before over,
        lines-closed t bytes (λ _. closed),
        ap starts (all-before over ∙ sym (lines-closed t bytes (λ _. closed))),
        end t bytes,
        rises t bytes i here,
        high t bytes (i + 1),
      ))) (λ other.
      let last = last-before over other in
      ⊎_elim
      (λ less. absurd (omega (
        arith,
        first,
        rises t bytes i here,
        line_start-le t bytes (i + 1) (lines_before t bytes p) (omega arith),
      )))
      (λ more. (
        omega (arith, high t bytes i),
        inr (omega arith, omega arith, other),
      )) (cases_lt i (lines_before t bytes p))) (cases_eq (slice_index bytes (length bytes - 1)) t))
      (cases_lt p (length bytes))
    where
      parts : (nat_le (block_start t bytes (p, p)) (starts i) ≡ true)
          × (nat_le (starts (i + 1)) (block_end t bytes (p, p)) ≡ true)
      parts = and_parts _ _ is

      first : block_start t bytes (p, p) ≤ starts i
      first = leb-true _ _ parts.0

      second : starts (i + 1) ≤ block_end t bytes (p, p)
      second = leb-true _ _ parts.1

  -- a line that holds it is touched
  pub holds-is_within : HoldsPosition terminator meaning bytes i p
      → is_within (byte_of terminator) bytes i (p, p) ≡ true
  holds-is_within (low, inl below) =
      and_from _ _ (le-leb (block_start t bytes (p, p)) (starts i)
      (omega (arith, block_start-line t bytes (p, p) i here low below)))
      (le-leb (starts (i + 1)) (block_end t bytes (p, p))
      (omega (arith, block_end-empty t bytes p i here low below)))
  holds-is_within (low, inr (last, over, other)) =
      let before = last-before (omega arith) other in
      let same : lines_before t bytes p ≡ i = omega (arith, before) in
      let next = block_end-open t bytes (p, p) (starts (i + 1)) (λ less. absurd (omega arith))
      (ap (λ q. starts (q + 1)) (sym same)) in
      and_from _ _ (le-leb (block_start t bytes (p, p)) (starts i) (omega (arith, ap starts same)))
      (le-leb (starts (i + 1)) (block_end t bytes (p, p)) (omega (arith, next)))
