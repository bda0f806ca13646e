-- The whole lines that matches extend over: in which order they are, and where they are in the
-- bytes from a line on.
use Rattle.std.proofs.Common.{◌≡◌, ℕ, ◌+◌, ◌-◌, ◌<◌, ◌≤◌, ◌==◌, Bool, true, false, ◌&&◌, List, ◌++◌}
use Rattle.std.proofs.Common.{length, take, drop, slice_index, refl, sym, ◌∙◌, ap, arith, ⊎_elim}
use Rattle.std.proofs.Common.{cond, if◌then◌else◌, length-append, take_all}
use Rattle.std.proofs.lemmas.Bool.{cases_lt, le-ltb}
use Rattle.std.proofs.lemmas.List.{get_or-drop}
use Rattle.std.proofs.lemmas.List.Folds.{concat-append}
use Rattle.std.proofs.lemmas.List.Sums.{sum_by-append}
use Rattle.std.proofs.Math.Seq.{take-add}
use Rattle.std.specs.Prelude.{nat_lt, nat_le}
use Rattle.std.specs.List.{concat}
use Rattle.grep_matcher.specs.Lines.{lines, line_start}
use Rattle.grep_lines.specs.Blocks.{lines_before, block_start, block_end}
use Rattle.grep_lines.specs.Positions.{IsLineStart}
use Rattle.grep_lines.proofs.LineStepLemmas.{IsAt-start}
use Rattle.grep_definitions.proofs.TouchLemmas.{same-tests, rises, holder, block_start-line}
use Rattle.grep_definitions.proofs.TouchLemmas.{block_end-line, block_end-empty}
use Rattle.grep_matcher.proofs.LineStartLemmas.{line_start-le}

module _ (t : ℕ) (bytes : List ℕ) where
  -- where any line starts a line of the list does, or the bytes end
  edge : (i : ℕ) → (k : ℕ) × IsLineStart t bytes (line_start t bytes i) k
  edge i = ⊎_elim (λ few. (i, record { listed = omega arith; begins = refl }))
      (λ many. (
        length (lines t bytes),
        record {
          listed = omega arith;
          begins = ap (λ ls. length (concat ls))
              (take_all (length (lines t bytes)) (lines t bytes) (omega arith)
              ∙ sym (take_all i (lines t bytes) many));
        },
      )) (cases_lt i (length (lines t bytes)))

  -- the edges of a block are line starts
  pub block_start-edge : (m : ℕ × ℕ) → (k : ℕ) × IsLineStart t bytes (block_start t bytes m) k
  block_start-edge m = edge (lines_before t bytes m.0)

  pub block_end-edge : (m : ℕ × ℕ) → (k : ℕ) × IsLineStart t bytes (block_end t bytes m) k
  block_end-edge m = go (nat_lt m.0 m.1 && slice_index bytes (m.1 - 1) == t)
    where
      go : (b : Bool) → (k : ℕ) × IsLineStart t bytes
          (if b then line_start t bytes (lines_before t bytes m.1) else line_start t bytes
          (lines_before t bytes m.1 + 1)) k
      go true = edge (lines_before t bytes m.1)
      go false = edge (lines_before t bytes m.1 + 1)

  -- a line is within a block if it starts there
  pub within-block : (i : ℕ) (m : ℕ × ℕ) → i < length (lines t bytes)
      → (nat_le (block_start t bytes m) (line_start t bytes i)
      && nat_le (line_start t bytes (i + 1)) (block_end t bytes m))
      ≡ (nat_le (block_start t bytes m) (line_start t bytes i) && nat_lt (line_start t bytes i)
      (block_end t bytes m))
  within-block i m here = grind (arith, block_end-edge, same-tests, rises, line_start-le, cases_lt)

  -- a later position has no fewer lines before it
  lines_before-le : (p q : ℕ) → p ≤ q → lines_before t bytes p ≤ lines_before t bytes q
  lines_before-le p q low =
      let sum : p + (q - p) ≡ q = omega arith in
      let cut : take q bytes ≡ take p bytes ++ take (q - p) (drop p bytes) =
      ap (λ n. take n bytes) (sym sum) ∙ take-add p (q - p) bytes in
      rw cut (rw (sum_by-append (λ b. cond (b == t) 1 0) (take p bytes)) (omega arith))

  -- so of two matches the one that starts later has no earlier block
  pub block_start-le : (m o : ℕ × ℕ) → m.0 ≤ o.0 → block_start t bytes m ≤ block_start t bytes o
  block_start-le m o low = line_start-le t bytes (lines_before t bytes m.0)
      (lines_before t bytes o.0) (lines_before-le m.0 o.0 low)

  -- a block starts no later than its match
  pub block_start-low : (m : ℕ × ℕ) → m.0 < length bytes → block_start t bytes m ≤ m.0
  block_start-low m below =
      let line = holder t bytes m.0 below in
      omega (arith, block_start-line t bytes m line.0 line.1 line.2 line.3)

  -- a match that starts before a line start and ends no later has its block before it
  pub block_end-within : (m : ℕ × ℕ) (e k : ℕ) → IsLineStart t bytes e k → e ≤ length bytes → m.0
      < e → m.0 ≤ m.1 → m.1 ≤ e → block_end t bytes m ≤ e
  block_end-within m e k here within low order high = ⊎_elim (λ some.
      let line = holder t bytes (m.1 - 1) (omega arith) in
      let last = block_end-line t bytes m line.0 some line.1 (omega arith) (omega arith) in
      omega (arith, next line.0 (omega (arith, line.2)))) (λ none.
      let line = holder t bytes m.0 (omega arith) in
      let same : m.1 ≡ m.0 = omega arith in
      omega (
        arith,
        block_end-empty t bytes m.0 line.0 line.1 line.2 line.3,
        ap (λ x. block_end t bytes (m.0, x)) same,
        next line.0 (omega arith),
      )) (cases_lt m.0 m.1)
    where
      next : (b : ℕ) → line_start t bytes b < e → line_start t bytes (b + 1) ≤ e
      next b low = ⊎_elim
          (λ less. omega (arith, line_start-le t bytes (b + 1) k (omega (arith, less))))
          (λ more. absurd (omega (arith, line_start-le t bytes k b more))) (cases_lt b k)

  -- a block that doesn't start at the end has a line
  pub block-some : (m : ℕ × ℕ) → m.0 ≤ m.1 → block_start t bytes m ≤ m.0 → m.1 ≤ block_end t bytes m
      → block_start t bytes m < length bytes → block_start t bytes m < block_end t bytes m
  block-some m order low high below = ⊎_elim (λ some. some) (λ none.
      let line = holder t bytes m.0 (omega arith) in
      let same : m.1 ≡ m.0 = omega arith in
      absurd (omega (
        arith,
        block_end-empty t bytes m.0 line.0 line.1 line.2 line.3,
        ap (λ x. block_end t bytes (m.0, x)) same,
      ))) (cases_lt (block_start t bytes m) (block_end t bytes m))

  -- the bytes from a line on
  module _ (e a : ℕ) (here : IsLineStart t bytes e a) (below : e < length bytes) where
    line_start-part : (k : ℕ) → line_start t bytes (a + k) ≡ e + line_start t (drop e bytes) k
    line_start-part k = grind (arith, IsAt-start, take-add, concat-append, length-append)

    lines_before-part : (p : ℕ) → e ≤ p → lines_before t bytes p ≡ a + lines_before t (drop e bytes)
        (p - e)
    lines_before-part p low =
        let at = IsAt-start t bytes e a here in
        let sum : e + (p - e) ≡ p = omega arith in
        let cut : take p bytes ≡ take e bytes ++ take (p - e) (drop e bytes) =
        ap (λ n. take n bytes) (sym sum) ∙ take-add e (p - e) bytes in
        rw (cut, sum_by-append (λ b. cond (b == t) 1 0) (take e bytes), at.counted below) refl

    -- the block of a match that starts there or later
    pub block_start-part : (m o : ℕ × ℕ) → e ≤ m.0 → o.0 ≡ m.0 - e → e
        + block_start t (drop e bytes) o ≡ block_start t bytes m
    block_start-part m o low is = grind (arith, line_start-part, lines_before-part)

    -- and of one that ends there or later
    pub block_end-part : (m o : ℕ × ℕ) → e ≤ m.1 → (m.0 < m.1 → e < m.1) → o.1 ≡ m.1 - e
        → nat_lt o.0 o.1 ≡ nat_lt m.0 m.1 → e + block_end t (drop e bytes) o ≡ block_end t bytes m
    block_end-part m o low inner is alike =
        ap (λ b. e + edge_of t (drop e bytes) o.1 b) closed
        ∙ moved (nat_lt m.0 m.1 && slice_index bytes (m.1 - 1) == t)
      where
        edge_of : (t : ℕ) (bytes : List ℕ) → ℕ → Bool → ℕ
        edge_of t bytes p b = if b then line_start t bytes (lines_before t bytes p)
            else line_start t bytes
            (lines_before t bytes p + 1)

        closed : (nat_lt o.0 o.1 && slice_index (drop e bytes) (o.1 - 1) == t)
            ≡ (nat_lt m.0 m.1 && slice_index bytes (m.1 - 1) == t)
        closed = ⊎_elim (λ some.
            let sum : e + (o.1 - 1) ≡ m.1 - 1 = omega (arith, inner some) in
            let byte : slice_index (drop e bytes) (o.1 - 1) ≡ slice_index bytes (m.1 - 1) =
            get_or-drop e bytes (o.1 - 1) 0 ∙ ap (slice_index bytes) sum in
            rw (alike, byte) refl) (λ none. let no = le-ltb m.0 m.1 none in rw (alike, no) refl)
            (cases_lt m.0 m.1)

        moved : (b : Bool) → e + edge_of t (drop e bytes) o.1 b ≡ edge_of t bytes m.1 b
        moved true =
            sym (line_start-part (lines_before t (drop e bytes) o.1))
            ∙ (ap (λ p. line_start t bytes (a + lines_before t (drop e bytes) p)) is
            ∙ ap (line_start t bytes) (sym (lines_before-part m.1 low)))
        moved false =
            let sum : a + (lines_before t (drop e bytes) (m.1 - e) + 1) ≡ lines_before t bytes m.1
            + 1 =
            omega (arith, lines_before-part m.1 low) in
            sym (line_start-part (lines_before t (drop e bytes) o.1 + 1))
            ∙ (ap (λ p. line_start t bytes (a + (lines_before t (drop e bytes) p + 1))) is
            ∙ ap (line_start t bytes) sum)
