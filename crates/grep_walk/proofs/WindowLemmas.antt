-- A window of an input: where its lines are in the input, and which of them are kept when the next
-- window is shown.
use Rattle.std.proofs.Common.{◌≡◌, ℕ, ◌+◌, ◌-◌, ◌<◌, ◌≤◌, min, List, [], ◌∷◌, ◌++◌, length, take}
use Rattle.std.proofs.Common.{drop, arith, refl, sym, ◌∙◌, ap, subst, ⊎_elim, append-nil}
use Rattle.std.proofs.Common.{append_assoc, length-append, length-drop, slice_index}
use Rattle.std.proofs.Math.Seq.{drop-append-add}
use Rattle.std.proofs.lemmas.Bool.{cases_lt}
use Rattle.std.proofs.lemmas.List.{take-append-drop, take-append-le, drop-append-le, length-take-le}
use Rattle.std.proofs.lemmas.List.{drop_all}
use Rattle.std.specs.Prelude.{slice_range}
use Rattle.grep_matcher.specs.Lines.{byte_of, lines}
use Rattle.grep_lines.specs.Positions.{IsLine, IsLineStart}
use Rattle.grep_matcher.proofs.LineLemmas.{lines-append}
use Rattle.grep_definitions.specs.Plans.{Settings}
use Rattle.grep_definitions.proofs.FrontLemmas.{closed-append, closed-drop, closed-take}
use Rattle.grep_definitions.proofs.FrontLemmas.{count-after, start-after, start-there}
use Rattle.grep_lines.proofs.LineRangeLemmas.{end-start, line-from, start-same}
use Rattle.grep_walk.specs.declared.walk.Walk.{Walk}
use Rattle.grep_definitions.specs.Searches.{IsClosed}
use Rattle.grep_walk.specs.Windows.{IsWindow, IsLineIn, IsInWindow}

-- the whole input is a window of itself
pub own-window : (t : ℕ) (bytes : List ℕ) → IsWindow t [] bytes bytes
own-window t bytes = grind (arith, append-nil)

-- bytes of a window are bytes of the input
pub slice-in : (gone window after input : List ℕ) → input ≡ gone ++ (window ++ after) → (p q : ℕ)
    → p ≤ q → q ≤ length window
    → slice_range input (length gone + p) (length gone + q) ≡ slice_range window p q
slice-in gone window after input whole p q low high =
    grind (arith, drop-append-add, drop-append-le, take-append-le, length-drop)

-- a line of the input that extends from p up to q of the window
module _ (k : Settings) (gone window input : List ℕ) (i p q : ℕ) (at : IsLineIn k gone window p i)
    (line : (j : ℕ) → IsLineStart (byte_of k.line_terminator) window p j
    → IsLine (byte_of k.line_terminator) window j p q) where
  abbrev before : ℕ
  before = length (lines (byte_of k.line_terminator) gone)

  own : IsLine (byte_of k.line_terminator) window (i - before) p q
  own = line (i - before) at.begins

  pub input-line : IsWindow (byte_of k.line_terminator) gone window input
      → IsLine (byte_of k.line_terminator) input i (length gone + p) (length gone + q)
  input-line shown =
      let sum : before + (i - before) ≡ i = omega arith in
      subst (λ j. IsLine (byte_of k.line_terminator) input j (length gone + p) (length gone + q))
      sum (shown.line (i - before) p q own)

  -- the line after it
  pub next-line : IsLineIn k gone window q (i + 1)
  next-line = grind arith

-- lines on both sides of a position
module _ {t : ℕ} (window : List ℕ) (r : ℕ) where
  -- how many are before it
  start-count : {i : ℕ} → r ≤ length window → IsClosed t (take r window) → IsLineStart t window r i
      → length (lines t (take r window)) ≡ i
  start-count within shut here = start-same
      (subst (λ bs. IsLineStart t bs r (length (lines t (take r window))))
      (take-append-drop r window) (subst (λ p. IsLineStart t (take r window ++ drop r window) p
      (length (lines t (take r window))))
      (length-take-le r window within) (start-there t (take r window) (drop r window) shut))) here

  -- and how many there are in all
  split-count : IsClosed t (take r window)
      → length (lines t window) ≡ length (lines t (take r window))
      + length (lines t (drop r window))
  split-count shut = ap (λ bs. length (lines t bs)) (sym (take-append-drop r window))
      ∙ count-after t (take r window) (drop r window) shut

  -- from a position `near` lines before the end there are no more lines than that
  pub rest-few : (near : ℕ) → r ≤ length window
      → (0 < r → r < length window → slice_index window (r - 1) ≡ t)
      → ((i : ℕ) → IsLineStart t window (length window) i → IsLineStart t window r (i - near))
      → length (lines t (drop r window)) ≤ near
  rest-few near within ends back = ⊎_elim (λ less.
      let shut = closed-take t window r within (λ some. ends some less) in
      let count = start-count within shut (back _ (end-start t window)) in
      omega (arith, split-count shut))
      (λ over. let none = ap (λ bs. length (lines t bs)) (drop_all r window over) in omega arith)
      (cases_lt r (length window))

-- between closed bytes, or before the end of the input, a window shows lines of the input
module _ (t : ℕ) (gone window after : List ℕ) (opens : IsClosed t gone) (closes : 0 < length after
    → IsClosed t window)
  where
    abbrev input : List ℕ
    input = gone ++ (window ++ after)

    both : lines t (window ++ after) ≡ lines t window ++ lines t after
    both = go after closes
      where
        go : (after : List ℕ) → (0 < length after → IsClosed t window)
            → lines t (window ++ after) ≡ lines t window ++ lines t after
        go [] closes = ap (lines t) (append-nil window) ∙ sym (append-nil (lines t window))
        go (b ∷ after) closes = lines-append t window (b ∷ after) (closes (omega arith))

    start-in : (position i : ℕ) → IsLineStart t window position i
        → IsLineStart t input (length gone + position) (length (lines t gone) + i)
    start-in position i here =
        grind (arith, count-after, both, length-append, start-after, take-append-le)

    line-in : (i p q : ℕ) → IsLine t window i p q
        → IsLine t input (length (lines t gone) + i) (length gone + p) (length gone + q)
    line-in i p q line =
        let next : length (lines t gone) + (i + 1) ≡ (length (lines t gone) + i) + 1 =
        omega arith in
        line-from (start-in p i (record { listed = omega arith; begins = line.begins }))
        (subst (IsLineStart t input (length gone + q)) next
        (start-in q (i + 1) (record { listed = omega arith; begins = line.ends })))

    pub shown : IsWindow t gone window input
    shown = record { after = after; whole = refl; line = line-in }

-- a roll takes no byte from the input
pub roll-input : (gone window more after : List ℕ) (r : ℕ) → gone ++ (window ++ (more ++ after))
    ≡ (gone ++ take r window) ++ ((drop r window ++ more) ++ after)
roll-input gone window more after r =
    ap (λ xs. gone ++ (xs ++ (more ++ after))) (sym (take-append-drop r window))
    ∙ (ap (λ xs. gone ++ xs) (append_assoc (take r window) (drop r window) (more ++ after)
    ∙ ap (λ xs. take r window ++ xs) (sym (append_assoc (drop r window) more after)))
    ∙ sym (append_assoc gone (take r window) ((drop r window ++ more) ++ after)))

-- the next window, if lines are kept from a position `near` lines before the end
module _ (k : Settings) (gone window : List ℕ) (r near : ℕ) (within : r ≤ length window)
    (ends : 0 < r → r < length window → slice_index window (r - 1) ≡ byte_of k.line_terminator)
    (opens : IsClosed (byte_of k.line_terminator) gone)
    (closed : IsClosed (byte_of k.line_terminator) window) where
  abbrev t : ℕ
  t = byte_of k.line_terminator

  abbrev front : List ℕ
  front = take r window

  abbrev rest : List ℕ
  rest = drop r window

  shut : IsClosed t front
  shut = closed-take t window r within (λ some. ⊎_elim (ends some)
      (λ over. let all : r ≡ length window = omega arith in
      ap (λ n. slice_index window (n - 1)) all ∙ closed (omega arith)) (cases_lt r (length window)))

  pub gone-closed : IsClosed t (gone ++ front)
  gone-closed = closed-append t gone front opens shut

  pub rolled : (more after : List ℕ) (w : Walk) → near
      ≡ min k.before_context (w.line - w.next_unreported)
      → (0 < length after → IsClosed t (rest ++ more))
      → ((i : ℕ) → IsLineStart t window (length window) i → IsLineStart t window r (i - near))
      → IsInWindow k gone window (gone ++ (window ++ (more ++ after))) (length window) w
      → IsInWindow k (gone ++ front) (rest ++ more) (gone ++ (window ++ (more ++ after)))
      (length window - r) w
  rolled more after w is closes back inside =
      let before = length (lines t gone) in
      let all = start-same inside.line.begins (end-start t window) in
      let count = start-count window r within shut (back (w.line - before) inside.line.begins) in
      let split = split-count window r shut in
      let gone_lines = count-after t gone front opens in
      let index : length (lines t rest) ≡ w.line - length (lines t (gone ++ front)) =
      omega arith in
      record {
        shown = subst (IsWindow t (gone ++ front) (rest ++ more))
            (sym (roll-input gone window more after r))
            (shown t (gone ++ front) (rest ++ more) after gone-closed closes);
        at = omega (arith, length-append gone front, length-take-le r window within);
        line = record {
          low = omega arith;
          begins = subst (λ p. IsLineStart t (rest ++ more) p
              (w.line - length (lines t (gone ++ front)))) (length-drop r window)
              (subst (IsLineStart t (rest ++ more) (length rest)) index
              (start-there t rest more (closed-drop t window r closed)));
        };
        kept = omega arith;
      }
