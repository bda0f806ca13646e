-- The lines one after another, by the positions at which they start.
use Rattle.std.proofs.Common.{◌≡◌, ℕ, zero, suc, ◌+◌, ◌-◌, ◌<◌, ◌≤◌, ◌==◌, cond, List, [], ◌∷◌}
use Rattle.std.proofs.Common.{◌++◌, length, take, drop, slice_index, get_or, refl, sym, ◌∙◌, ap}
use Rattle.std.proofs.Common.{subst, arith, ⊎_elim, length-append, length-take, length-drop}
use Rattle.std.proofs.Common.{take_all, ap₂}
use Rattle.std.proofs.lemmas.Bool.{cases_lt}
use Rattle.std.proofs.lemmas.List.{take_more, drop_more, drop_all, take-take, drop-take, drop-drop}
use Rattle.std.proofs.lemmas.List.{get_or-drop}
use Rattle.std.proofs.lemmas.List.Folds.{concat-append}
use Rattle.std.proofs.lemmas.List.Sums.{sum_by-append}
use Rattle.std.proofs.Math.Seq.{take-add}
use Rattle.std.specs.List.{concat}
use Rattle.grep_matcher.specs.Lines.{lines, line_start}
use Rattle.grep_lines.specs.FirstLine.{IsFirstLine, IsLastStart}
use Rattle.std.specs.Prelude.{slice_range}
use Rattle.grep_lines.specs.Positions.{IsLineStart, IsLine}
use Rattle.grep_matcher.proofs.LineLemmas.{count}
use Rattle.grep_lines.proofs.LawLemmas.{first_line, lines-first, count-first_line}

-- the element of a list at a position, if the rest of the list is known
drop-here : {X : Type 0} (xs : List X) (i : ℕ) (x : X) (later : List X) (d : X) → drop i xs ≡ x
    ∷ later → (i < length xs) × (get_or xs i d ≡ x) × (drop (i + 1) xs ≡ later)
drop-here xs i x later d is =
    let inside : i < length xs = omega (arith, length-drop i xs, ap length is) in
    let more = drop_more xs i d inside in
    (inside, cc, cc)

module _ (t : ℕ) (bytes : List ℕ) where
  -- line i starts at a position: what comes before the position, and which lines follow
  pub record IsAt (position i : ℕ) : Type 0 where
    pub inside : position ≤ length bytes
    pub rest : drop i (lines t bytes) ≡ lines t (drop position bytes)
    pub start : line_start t bytes i ≡ position
    pub counted : position < length bytes → count t (take position bytes) ≡ i
    pub closed : 0 < position → position < length bytes → slice_index bytes (position - 1) ≡ t
    pub few : i ≤ position
    pub listed : i ≤ length (lines t bytes)

  -- a step over line i
  pub record IsStep (position end i : ℕ) : Type 0 where
    pub at : IsAt position i
    pub above : position < end
    pub is_first : IsFirstLine t (drop position bytes) (end - position)
    pub inside : i < length (lines t bytes)
    pub line : get_or (lines t bytes) i [] ≡ slice_range bytes position end
    pub next : IsAt end (i + 1)

  -- line 0 starts at 0
  IsAt-none : IsAt 0 0
  IsAt-none = record {
    inside = omega arith;
    rest = refl;
    start = refl;
    counted = λ _. refl;
    closed = λ above _. absurd (omega arith);
    few = omega arith;
    listed = omega arith;
  }

  -- a step over a line, by its first and last position
  IsStep-first : (position end i : ℕ) → IsAt position i → position < end → end ≤ length bytes
      → IsFirstLine t (drop position bytes) (end - position) → IsStep position end i
  IsStep-first position end i walked above within is_first =
      let sum : position + (end - position) ≡ end = omega arith in
      let later : drop (end - position) (drop position bytes) ≡ drop end bytes =
      drop-drop (end - position) position bytes ∙ ap (λ n. drop n bytes) sum in
      let here = drop-here (lines t bytes) i _ _ [] (walked.rest
      ∙ (lines-first t (drop position bytes) (end - position) is_first
      ∙ ap (λ bs. slice_range bytes position end ∷ lines t bs) later)) in
      let begin : line_start t bytes (i + 1) ≡ end =
      rw (
        take_more (lines t bytes) i [] here.0,
        concat-append (take i (lines t bytes)) (get_or (lines t bytes) i [] ∷ []),
        here.1,
      )
      (omega (
        arith,
        length-append (concat (take i (lines t bytes))) (slice_range bytes position end ++ []),
        length-append (slice_range bytes position end) [],
        length-take (end - position) (drop position bytes),
        length-drop position bytes,
      )) in
      record {
        at = walked;
        above = above;
        is_first = is_first;
        inside = here.0;
        line = here.1;
        next = record {
          inside = within;
          rest = here.2;
          start = begin;
          counted = λ below.
              let cut : take end bytes ≡ take position bytes
              ++ slice_range bytes position end = ap (λ n. take n bytes) (sym sum)
              ∙ take-add position (end - position) bytes in
              let one = count-first_line t (drop position bytes) (end - position) is_first
              (omega (arith, length-drop position bytes)) in
              rw (
                cut,
                sum_by-append (λ b. cond (b == t) 1 0) (take position bytes),
                walked.counted (omega arith),
                one,
              ) refl;
          closed = λ _ below.
              let shut = is_first.closed (omega (arith, length-drop position bytes)) in
              let at : position + ((end - position) - 1) ≡ end - 1 = omega arith in
              sym (get_or-drop position bytes ((end - position) - 1) 0
              ∙ ap (λ n. get_or bytes n 0) at) ∙ shut;
          few = omega arith;
          listed = omega arith;
        };
      }

  -- at the end of the bytes all lines are passed
  pub all_passed : (position i : ℕ) → IsAt position i → length bytes ≤ position → i
      ≡ length (lines t bytes)
  all_passed position i here over =
      omega (
        arith,
        length-drop i (lines t bytes),
        ap length (here.rest ∙ ap (lines t) (drop_all position bytes over)),
      )

  -- a step over a line that exists
  IsStep-any : (position i : ℕ) → IsAt position i → i < length (lines t bytes)
      → (end : ℕ) × IsStep position end i
  IsStep-any position i here inside =
      let below : position < length bytes =
      ⊎_elim (λ less. less) (λ past. absurd (omega (arith, all_passed position i here past)))
      (cases_lt position (length bytes)) in
      let line = first_line t (drop position bytes) (omega (arith, length-drop position bytes)) in
      let sum : (position + suc line.0) - position ≡ suc line.0 = omega arith in
      let is_first = rw (← sum) at line.1 in (
        position + suc line.0,
        IsStep-first position (position + suc line.0) i here (omega arith)
            (omega (arith, line.1.within, length-drop position bytes)) is_first,
      )

  -- each line starts somewhere
  IsAt-any : (i : ℕ) → i ≤ length (lines t bytes) → IsAt (line_start t bytes i) i
  IsAt-any zero inside = IsAt-none
  IsAt-any (suc i) inside =
      let step = IsStep-any _ i (IsAt-any i (omega arith)) (omega arith) in
      let one : i + 1 ≡ suc i = omega arith in
      let next = rw one at step.1.next in
      subst (λ position. IsAt position (suc i)) (sym next.start) next

  -- what is known of a position at which a line starts
  pub IsAt-start : (position i : ℕ) → IsLineStart t bytes position i → IsAt position i
  IsAt-start position i h = subst (λ p. IsAt p i) h.begins (IsAt-any i h.listed)

  -- a step over a line that exists, to the start of the next one
  pub IsStep-line : (i : ℕ) → i < length (lines t bytes)
      → IsStep (line_start t bytes i) (line_start t bytes (i + 1)) i
  IsStep-line i inside =
      let step = IsStep-any (line_start t bytes i) i (IsAt-any i (omega arith)) inside in
      subst (λ end. IsStep (line_start t bytes i) end i) (sym step.1.next.start) step.1

  -- as many t come before a line as there are lines before it
  pub lines-numbered : (i : ℕ) → i < length (lines t bytes)
      → count t (take (line_start t bytes i) bytes) ≡ i
  lines-numbered i inside = let step = IsStep-line i inside in step.at.counted (omega arith)

  -- there are at most as many lines as bytes
  pub lines-at-most : length (lines t bytes) ≤ length bytes
  lines-at-most = let end = IsAt-any (length (lines t bytes)) (omega arith) in
      omega arith

  -- the line that starts at a position
  IsLine-first : (position i end : ℕ) → IsLineStart t bytes position i → position < end
      → end ≤ length bytes
      → IsFirstLine t (drop position bytes) (end - position) → IsLine t bytes i position end
  IsLine-first position i end h above within is_first =
      let here = IsAt-start position i h in
      let step = IsStep-first position end i here above within is_first in
      record {
        listed = step.inside;
        begins = here.start;
        ends = step.next.start;
        line = step.line;
        number = here.counted (omega arith);
        few = here.few;
        above = above;
        within = within;
      }

  -- the start of a line is the last line start up to any of the line's positions
  pub IsLastStart-line : (i position : ℕ) → i < length (lines t bytes)
      → line_start t bytes i ≤ position
      → position < line_start t bytes (i + 1) → IsLastStart t bytes position (line_start t bytes i)
  IsLastStart-line i position inside low high =
      let start = line_start t bytes i in
      let step = IsStep-line i inside in
      record {
        high = low;
        inner = λ j from below same.
            let sum : start + (j - start) ≡ j = omega arith in
            step.is_first.inner (j - start) (omega arith)
            (get_or-drop start bytes (j - start) 0 ∙ (ap (λ n. get_or bytes n 0) sum ∙ same));
        closed = λ some. step.at.closed some (omega arith);
      }

  -- the first line of the bytes from a position up to another
  pub slice-first : (start end e : ℕ) → IsFirstLine t (slice_range bytes start end) e
      → lines t (slice_range bytes start end) ≡ slice_range bytes start (start + e)
      ∷ lines t (slice_range bytes (start + e) end)
  slice-first start end e is_first =
      let short : e ≤ end - start =
      omega (arith, is_first.within, length-take (end - start) (drop start bytes)) in
      let size : (start + e) - start ≡ e = omega arith in
      let rest : end - start ≡ e + (end - (start + e)) = omega arith in
      let line = take-take e (end - start) (drop start bytes) short
      ∙ ap (λ n. take n (drop start bytes)) (sym size) in
      let later = ap (λ n. drop e (take n (drop start bytes))) rest
      ∙ (drop-take e (end - (start + e)) (drop start bytes)
      ∙ ap (take (end - (start + e))) (drop-drop e start bytes)) in
      lines-first t (slice_range bytes start end) e is_first ∙ ap₂ ◌∷◌ line (ap (lines t) later)

  -- the line that starts at a position, by the first line of the bytes from there on
  pub IsLine-slice : (start end e i : ℕ) → end ≡ length bytes
      → IsFirstLine t (slice_range bytes start end) e
      → IsLineStart t bytes start i → IsLine t bytes i start (start + e)
  IsLine-slice start end e i all is_first here =
      let same : slice_range bytes start end ≡ drop start bytes =
      take_all (end - start) (drop start bytes) (omega (arith, length-drop start bytes)) in
      let size : e ≡ (start + e) - start = omega arith in
      let first : IsFirstLine t (drop start bytes) ((start + e) - start) =
      subst (IsFirstLine t (drop start bytes)) size (subst (λ bs. IsFirstLine t bs e) same is_first)
      in
      IsLine-first start i (start + e) here (omega (arith, is_first.above)) (omega (
        arith,
        is_first.above,
        is_first.within,
        length-take (end - start) (drop start bytes),
        length-drop start bytes,
      )) first
