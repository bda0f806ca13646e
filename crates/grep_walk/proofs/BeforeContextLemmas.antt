-- The lines before a chosen one, reported one after another.
use Rattle.std.proofs.Common.{length, ◌≡◌, ℕ, ◌+◌, ◌-◌, ◌<◌, ◌≤◌, min, List, [], ◌++◌, refl, sym}
use Rattle.std.proofs.Common.{◌∙◌, ap, subst, arith}
use Rattle.std.proofs.lemmas.Bool.{lt-leb}
use Rattle.std.specs.Prelude.{slice_range}
use Rattle.grep_matcher.specs.Lines.{byte_of, lines}
use Rattle.grep_lines.specs.Positions.{IsLine, IsLineStart}
use Rattle.grep_definitions.specs.Plans.{Settings, Planned, Steps, Outcome, all_true, AreMade}
use Rattle.grep_definitions.specs.Plans.{joined_from}
use Rattle.grep_definitions.specs.LineCalls.{before_calls, listed_calls, pending_calls}
use Rattle.grep_definitions.specs.SearchLaws.{number_of}
use Rattle.grep_definitions.proofs.BelowLemmas.{joined_from-add, joined_from-more, joined_from-none}
use Rattle.grep_definitions.proofs.SinkRunLemmas.{AreMade-append, AreMade-ended}
use Rattle.grep_walk.specs.declared.walk.Walk.{Walk}
use Rattle.grep_walk.specs.Windows.{IsInWindow, IsLineIn}
use Rattle.grep_walk.proofs.WindowLemmas as windows

module _ (k : Settings) (bytes : List ℕ) (v i end : ℕ) where
  abbrev pub t : ℕ
  t = byte_of k.line_terminator

  -- the calls of line q
  abbrev at_line : ℕ → List Planned
  at_line = listed_calls k bytes v i end

  -- a line as the walk sees it
  here-is : (q start next : ℕ) → IsLine t bytes q start next
      → before_calls k v q i (number_of k q) start end (slice_range bytes start next) ≡ at_line q
  here-is q start next line = grind arith

  -- the lines that the context doesn't reach have no calls
  pub pending-near : (a : ℕ) → v ≤ i → a ≡ i - min k.before_context (i - v)
      → pending_calls k bytes v i end v (i - v) ≡ pending_calls k bytes v i end a (i - a)
  pending-near a low is =
      let sum : i - v ≡ (a - v) + (i - a) = omega arith in
      let first : v + (a - v) ≡ a = omega arith in
      ap (λ m. joined_from at_line v m) sum ∙ (joined_from-add at_line v (a - v) (i - a)
      ∙ (ap (λ xs. xs ++ joined_from at_line (v + (a - v)) (i - a))
      (joined_from-none at_line v (a - v) silent) ∙ ap (λ m. joined_from at_line m (i - a)) first))
    where
      silent : (q : ℕ) → v ≤ q → q < v + (a - v) → at_line q ≡ []
      silent q from below = let far = lt-leb (i - q) k.before_context (omega arith) in rw far refl

  -- if it reaches none, there are no calls
  pub pending-none : v ≤ i → min k.before_context (i - v) ≡ 0 → pending_calls k bytes v i end v
      (i - v) ≡ []
  pending-none low none =
      let rest : i - i ≡ 0 = omega arith in
      pending-near i low (omega arith) ∙ ap (λ m. joined_from at_line i m) rest

  -- and no step makes them
  pub reported-none : {S E : Type 0} (step : Steps S E) (old : S) → v ≤ i
      → min k.before_context (i - v) ≡ 0
      → AreMade step k old (pending_calls k bytes v i end v (i - v)) all_true old
  reported-none step old low none =
      subst (λ calls. AreMade step k old calls all_true old) (sym (pending-none low none))
      (refl, refl)

  module _ {S E : Type 0} (step : Steps S E) (old mid new : S) (first q start next offset : ℕ)
      (line : IsLine t bytes q start next) (own : List ℕ) (bytes_same : slice_range bytes start next
      ≡ own) (same : offset ≡ start) (low : first ≤ q)
      (before : AreMade step k old (pending_calls k bytes v i end first (q - first)) all_true mid)
      (outcome : Outcome E)
      (here : AreMade step k mid (before_calls k v q i (number_of k q) offset end own) outcome new)
    where
      through : AreMade step k old (pending_calls k bytes v i end first ((q - first) + 1)) outcome
          new
      through = grind (arith, joined_from-more, AreMade-append, here-is)

      -- one more line
      pub reported-more : AreMade step k old (pending_calls k bytes v i end first ((q + 1) - first))
          outcome new
      reported-more = grind (arith, through)

      -- a line whose calls end early ends them all
      pub reported-ended : q < i → (outcome ≡ all_true → ⊥)
          → AreMade step k old (pending_calls k bytes v i end first (i - first)) outcome new
      reported-ended less over =
          let sum : i - first ≡ ((q - first) + 1) + (i - (q + 1)) = omega arith in
          let split = ap (λ m. joined_from at_line first m) sum
          ∙ joined_from-add at_line first ((q - first) + 1) (i - (q + 1)) in
          subst (λ calls. AreMade step k old calls outcome new) (sym split)
          (AreMade-ended step k (joined_from at_line first ((q - first) + 1))
          (joined_from at_line (first + ((q - first) + 1)) (i - (q + 1))) old outcome new over
          through)

-- what the calls of the lines before come to after a line of a window, for the walk at `start`
module _ (k : Settings) (gone window input : List ℕ) (w : Walk) (start : ℕ)
    (inside : IsInWindow k gone window input start w)
    (end : ℕ) {S E : Type 0} (step : Steps S E) (old mid new : S) (first q p next offset : ℕ)
    (at : IsLineIn k gone window p q)
    (line : (j : ℕ) → IsLineStart (byte_of k.line_terminator) window p j
    → IsLine (byte_of k.line_terminator) window j p next)
    (same : offset + start ≡ w.offset + p) (low : first ≤ q)
    (before : AreMade step k old (pending_calls k input w.next_unreported w.line end first
    (q - first)) all_true mid) (outcome : Outcome E) (here : AreMade step k mid
    (before_calls k w.next_unreported q w.line (number_of k q) offset end
    (slice_range window p next)) outcome new) where
  own_line : IsLine (byte_of k.line_terminator) window
      (q - length (lines (byte_of k.line_terminator) gone)) p next
  own_line = line (q - length (lines (byte_of k.line_terminator) gone)) at.begins

  shown_line : IsLine (byte_of k.line_terminator) input q (length gone + p) (length gone + next)
  shown_line = windows.input-line k gone window input q p next at line inside.shown

  shown_bytes : slice_range input (length gone + p) (length gone + next) ≡ slice_range window p next
  shown_bytes = windows.slice-in gone window inside.shown.after input inside.shown.whole p next
      (omega (arith, own_line.above)) own_line.within

  pub window-more : AreMade step k old (pending_calls k input w.next_unreported w.line end first
      ((q + 1) - first)) outcome new
  window-more = grind (arith, reported-more, shown_line, shown_bytes)

  pub window-ended : q < w.line → (outcome ≡ all_true → ⊥)
      → AreMade step k old (pending_calls k input w.next_unreported w.line end first
      (w.line - first)) outcome new
  window-ended = grind (arith, reported-ended, shown_line, shown_bytes)

-- a window that has the lines before a walk does not end among them
pub window-short : (k : Settings) (gone window input : List ℕ) (w : Walk) (start : ℕ)
    → IsInWindow k gone window input start w
    → {S E : Type 0} (step : Steps S E) (old new : S) (calls : List Planned) (outcome : Outcome E)
    (q p : ℕ) → IsLineIn k gone window p q
    → ((i : ℕ) → IsLineStart (byte_of k.line_terminator) window p i → i
    ≡ length (lines (byte_of k.line_terminator) window))
    → q < w.line → AreMade step k old calls outcome new
window-short k gone window input w start inside step old new calls outcome q p at last below =
    grind arith
