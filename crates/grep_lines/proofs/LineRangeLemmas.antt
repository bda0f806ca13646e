-- Lines by their indices: where a line is, and how many lines there are between two positions.
use Rattle.std.proofs.Common.{◌≡◌, ℕ, ◌+◌, ◌-◌, ◌<◌, ◌≤◌, List, [], ◌∷◌, ◌++◌, length, drop, get_or}
use Rattle.std.proofs.Common.{refl}
use Rattle.std.proofs.Common.{sym, ◌∙◌, ap, arith, subst, ⊎_elim, length-take, length-drop}
use Rattle.std.proofs.Common.{length-append}
use Rattle.std.proofs.lemmas.Bool.{cases_lt}
use Rattle.std.proofs.lemmas.List.{take-append-drop, get_or-drop, get_or-take, drop-drop, take_all}
use Rattle.grep_matcher.proofs.LineLemmas.{lines-append, lines-joined, IsClosed}
use Rattle.grep_lines.proofs.LineStepLemmas.{IsAt-start, IsStep-line, all_passed, slice-first}
use Rattle.grep_lines.specs.FirstLine.{IsFirstLine}
use Rattle.std.specs.List.{concat}
use Rattle.std.specs.Prelude.{slice_range}
use Rattle.grep_lines.specs.Positions.{IsLine, IsLineStart}
use Rattle.grep_matcher.specs.Lines.{lines, line_start}
use Rattle.grep_matcher.proofs.LineStartLemmas.{line_start-ascends, line_start-last, line_start-le}

-- some bytes have a line
pub some-lines : (t : ℕ) (bytes : List ℕ) → 0 < length bytes
    → (line : List ℕ) × (later : List (List ℕ)) × (lines t bytes ≡ line ∷ later)
some-lines t bytes some = go (lines t bytes) refl
  where
    go : (ls : List (List ℕ)) → lines t bytes ≡ ls
        → (line : List ℕ) × (later : List (List ℕ)) × (lines t bytes ≡ line ∷ later)
    go [] is =
        let none = ap length (sym (lines-joined t bytes) ∙ ap concat is) in
        absurd (omega (arith, none))
    go (line ∷ later) is = (line, later, is)

-- how many lines there are between the starts of two
pub lines-between : (t : ℕ) (window : List ℕ) (p q i j : ℕ) → IsLineStart t window p i
    → IsLineStart t window q j → p ≤ q → q ≤ length window
    → i ≤ j → length (lines t (slice_range window p q)) ≡ j - i
lines-between t window p q i j from to low within ordered =
    ⊎_elim inner outer (cases_lt q (length window))
  where
    a : drop i (lines t window) ≡ lines t (drop p window)
    a = (IsAt-start t window p i from).rest

    b : drop j (lines t window) ≡ lines t (drop q window)
    b = (IsAt-start t window q j to).rest

    rest : q < length window → drop q window ≡ drop (q - p) (drop p window)
    rest less = let sum : p + (q - p) ≡ q = omega arith in
        ap (λ n. drop n window) (sym sum) ∙ sym (drop-drop (q - p) p window)

    closed : q < length window → IsClosed t (slice_range window p q)
    closed less some =
        let size = length-take (q - p) (drop p window) in
        let count : length (slice_range window p q) ≡ q - p = omega (arith, length-drop p window) in
        let last : p + ((q - p) - 1) ≡ q - 1 = omega arith in
        ap (λ n. get_or (slice_range window p q) (n - 1) 0) count
        ∙ (get_or-take (q - p) (drop p window) ((q - p) - 1) 0 (omega arith)
        ∙ (get_or-drop p window ((q - p) - 1) 0
        ∙ (ap (λ n. get_or window n 0) last ∙ (IsAt-start t window q j to).closed (omega arith)
        less)))

    outer : length window ≤ q → length (lines t (slice_range window p q)) ≡ j - i
    outer over =
        let all = all_passed t window q j (IsAt-start t window q j to) over in
        let whole = take_all (q - p) (drop p window) (omega (arith, length-drop p window)) in
        omega (
          arith,
          ap (λ xs. length (lines t xs)) whole,
          ap length a,
          length-drop i (lines t window),
        )

    inner : q < length window → length (lines t (slice_range window p q)) ≡ j - i
    inner less =
        let size = length-take (q - p) (drop p window) in
        let split : slice_range window p q ++ drop q window ≡ drop p window =
        ap (λ xs. slice_range window p q ++ xs) (rest less)
        ∙ take-append-drop (q - p) (drop p window) in
        let both = ap (lines t) (sym split) ∙ lines-append t (slice_range window p q)
        (drop q window) (closed less) in
        omega (
          arith,
          ap length a,
          ap length b,
          ap length both,
          length-append (lines t (slice_range window p q)) (lines t (drop q window)),
          length-drop i (lines t window),
          length-drop j (lines t window),
        )

-- a line by its index
pub line-at : (t : ℕ) (window : List ℕ) (i : ℕ) → i < length (lines t window)
    → IsLine t window i (line_start t window i) (line_start t window (i + 1))
line-at t window i listed =
    let here = IsStep-line t window i listed in
    record {
      listed = listed;
      begins = refl;
      ends = refl;
      line = here.line;
      number = here.at.counted (omega arith);
      few = here.at.few;
      above = here.above;
      within = here.next.inside;
    }

-- the end of the bytes is where a line after the last would start
pub end-start : (t : ℕ) (bytes : List ℕ) → IsLineStart t bytes (length bytes)
    (length (lines t bytes))
end-start t bytes = record { listed = omega arith; begins = line_start-last t bytes }

-- where lines start, against the start of one of them
module _ {t : ℕ} {bytes : List ℕ} {p i : ℕ} (there : IsLineStart t bytes p i) where
  -- a line before it starts before it
  pub starts-before : (j : ℕ) → j < i → line_start t bytes j < p
  starts-before j less = omega (
    arith,
    line_start-ascends t bytes j (omega arith),
    line_start-le t bytes (j + 1) i (omega arith),
  )

  pub starts-until : (j : ℕ) → j ≤ i → line_start t bytes j ≤ p
  starts-until j low = omega (arith, line_start-le t bytes j i low)

  -- it and the lines after it don't
  pub starts-from : (j : ℕ) → i ≤ j → p ≤ line_start t bytes j
  starts-from j low = omega (arith, line_start-le t bytes i j low)

  -- a line that starts before it comes before it
  pub comes-before : (j : ℕ) → line_start t bytes j < p → j < i
  comes-before j less = ⊎_elim (λ yes. yes) (λ no. absurd (omega (arith, starts-from j no)))
      (cases_lt j i)

  -- and one that doesn't comes no earlier
  pub comes-from : (j : ℕ) → p ≤ line_start t bytes j → i ≤ j
  comes-from j low = ⊎_elim (λ no. absurd (omega (arith, starts-before j no))) (λ yes. yes)
      (cases_lt j i)

-- the lines from one position up to the start of another begin with the line that is there
pub line-first : (t : ℕ) (bytes : List ℕ) (i p e q : ℕ) → IsLine t bytes i p e → e ≤ q
    → q ≤ length bytes → lines t (slice_range bytes p q)
    ≡ slice_range bytes p e ∷ lines t (slice_range bytes e q)
line-first t bytes i p e q line low within =
    let own = subst (λ a. IsFirstLine t (drop a bytes) (line_start t bytes (i + 1) - a)) line.begins
    (IsStep-line t bytes i line.listed).is_first in
    let there = subst (λ b. IsFirstLine t (drop p bytes) (b - p)) line.ends own in
    let part : IsFirstLine t (slice_range bytes p q) (e - p) = record {
      above = omega (arith, line.above);
      within = omega (arith, length-take (q - p) (drop p bytes), length-drop p bytes, line.above);
      inner = λ j less same. there.inner j less
          (sym (get_or-take (q - p) (drop p bytes) j 0 (omega arith)) ∙ same);
      closed = λ more. get_or-take (q - p) (drop p bytes) ((e - p) - 1) 0
          (omega (arith, line.above))
          ∙ there.closed (omega (arith, more, length-take (q - p) (drop p bytes)));
    } in
    let sum : p + (e - p) ≡ e = omega (arith, line.above) in
    subst (λ a. lines t (slice_range bytes p q)
    ≡ slice_range bytes p a ∷ lines t (slice_range bytes a q)) sum
    (slice-first t bytes p q (e - p) part)

-- two lines that start at one position are the same
pub start-same : {t : ℕ} {bytes : List ℕ} {p i j : ℕ} → IsLineStart t bytes p i
    → IsLineStart t bytes p j → i ≡ j
start-same {t} {bytes} {p} {i} {j} first second =
    omega (arith, comes-from first j (omega arith), comes-from second i (omega arith))

-- from where a line starts up to where the next one does it is that line
pub line-from : {t : ℕ} {bytes : List ℕ} {p q i : ℕ} → IsLineStart t bytes p i
    → IsLineStart t bytes q (i + 1) → IsLine t bytes i p q
line-from {t} {bytes} {p} {q} {i} from to = subst (λ a. IsLine t bytes i a q) from.begins
    (subst (IsLine t bytes i (line_start t bytes i)) to.begins (line-at t bytes i (omega arith)))
