-- The front of an input, by whole lines, bytes that end in the terminator, and how many bytes the
-- line after them has.
use Rattle.std.proofs.Common.{◌≡◌, ◌≢◌, ℕ, ◌+◌, ◌-◌, ◌<◌, ◌≤◌, List, [], ◌∷◌, ◌++◌, length, take}
use Rattle.std.proofs.Common.{drop, get_or, inl, inr, refl, sym, ◌∙◌, ap, subst, arith, ⊎_elim}
use Rattle.std.proofs.Common.{append-nil, append_assoc, length-append, length-drop}
use Rattle.std.proofs.Math.Seq.{take-append-add, get_or-append_right}
use Rattle.std.proofs.Math.Bool.{and-false}
use Rattle.std.proofs.lemmas.Bool.{cases_Bool, cases_lt, ltb-true, and_parts}
use Rattle.std.proofs.lemmas.List.{take-append-le, take-append-drop, take_all, take_at}
use Rattle.std.proofs.lemmas.List.{get_or-append-add, get_or-drop, get_or-take, length-take-le}
use Rattle.std.proofs.lemmas.List.{nil_from_length}
use Rattle.std.proofs.lemmas.List.Elements.{All-get_or, All-weaker}
use Rattle.std.proofs.lemmas.List.Folds.{concat-append}
use Rattle.std.specs.List.{concat}
use Rattle.std.specs.Prelude.{All, false, slice_index}
use Rattle.std.specs.Prelude.{slice_index_or}
use Rattle.grep_matcher.specs.Lines.{byte_of, lines, line_start}
use Rattle.grep_matcher.specs.Meanings.{Meaning}
use Rattle.grep_matcher.proofs.LineLemmas.{AreLines-lines, lines-append}
use Rattle.grep_lines.specs.Positions.{IsLineStart}
use Rattle.grep_definitions.specs.Plans.{line_plan, is_reported, line_count}
use Rattle.grep_definitions.specs.Plans.{reports_end, selected_lines, Settings}
use Rattle.grep_definitions.specs.Searches.{IsBelowLimit, IsClosed, IsCrowded, IsFront, IsTooLong}
use Rattle.grep_definitions.specs.LineWalks.{IsNear}
use Rattle.grep_definitions.proofs.BelowLemmas.{some_below-find}
use Rattle.grep_definitions.proofs.BoolLemmas.{clash}
use Rattle.grep_matcher.proofs.LineLengthLemmas.{lines-within, lines-end, first-long, first-open}
use Rattle.grep_definitions.proofs.SearchLawLemmas as laws
use Rattle.grep_lines.proofs.LineRangeLemmas.{comes-from}

module _ (t : ℕ) where
  -- two closed parts are closed
  pub closed-append : (front back : List ℕ) → IsClosed t front → IsClosed t back
      → IsClosed t (front ++ back)
  closed-append front [] shut closed = grind (arith, append-nil)
  closed-append front (b ∷ back) shut closed = grind (arith, length-append, get_or-append_right)

  -- so is what follows a position in closed bytes
  pub closed-drop : (bytes : List ℕ) (r : ℕ) → IsClosed t bytes → IsClosed t (drop r bytes)
  closed-drop bytes r closed = grind (arith, length-drop, get_or-drop)

  -- and what comes before a position right after the terminator
  pub closed-take : (bytes : List ℕ) (r : ℕ) → r ≤ length bytes
      → (0 < r → slice_index bytes (r - 1) ≡ t) → IsClosed t (take r bytes)
  closed-take bytes r within ends = grind (arith, length-take-le, get_or-take)

-- of two ways to cut a list the longer front begins with the shorter one
pub longer-front : (front back whole rest : List ℕ) → front ++ back ≡ whole ++ rest → length front
    ≤ length whole → whole ≡ front ++ drop (length front) whole
longer-front front back whole rest same long =
    let first : take (length front) whole ≡ front =
    sym (take-append-le (length front) whole rest long)
    ∙ (ap (take (length front)) (sym same) ∙ take_at front back (length front) refl) in
    sym (take-append-drop (length front) whole) ∙ ap (λ xs. xs ++ drop (length front) whole) first

-- no line of some bytes is too long for a buffer that holds them, if it ends or leaves room
pub lines-fit : (t size : ℕ) (bytes : List ℕ) → length bytes ≤ size
    → (length bytes ≡ size → IsClosed t bytes)
    → All (λ line. IsTooLong t size line → ⊥) (lines t bytes)
lines-fit t size bytes within full = grind (arith, lines-within, lines-end)

module _ (t : ℕ) (front back : List ℕ) (closed : IsClosed t front) where
  -- where the lines after a front begin
  pub start-after : (i : ℕ) → line_start t (front ++ back) (length (lines t front) + i)
      ≡ length front + line_start t back i
  start-after i =
      grind (arith, lines-append, take-append-add, concat-append, length-append, AreLines-lines)

  -- how many there are
  pub count-after : length (lines t (front ++ back)) ≡ length (lines t front)
      + length (lines t back)
  count-after = ap length (lines-append t front back closed) ∙ length-append (lines t front)
      (lines t back)

  -- where they begin
  pub start-there : IsLineStart t (front ++ back) (length front) (length (lines t front))
  start-there =
      let none : length (lines t front) ≡ length (lines t front) + 0 = omega arith in
      record {
        listed = omega (arith, count-after);
        begins = ap (line_start t (front ++ back)) none ∙ (start-after 0 ∙ omega arith);
      }

  -- the first of them
  pub line-after : slice_index_or (lines t (front ++ back)) (length (lines t front)) []
      ≡ slice_index_or (lines t back) 0 []
  line-after = grind (arith, lines-append, get_or-append-add)

-- a list with something at its front isn't empty
some-first : (ls : List (List ℕ)) → 0 < length (get_or ls 0 []) → 0 < length ls
some-first [] some = absurd (omega arith)
some-first (line ∷ ls) some = omega arith

-- bytes without lines are none
no-lines : (t : ℕ) (bytes : List ℕ) → length (lines t bytes) ≡ 0 → bytes ≡ []
no-lines t bytes none = sym (AreLines-lines t bytes).joined
    ∙ ap concat (nil_from_length (lines t bytes) none)

-- bytes that don't end a line begin one that is too long for a buffer of so many
open-long : (t least : ℕ) (tail more : List ℕ) → All (λ b. b ≢ t) tail → 0 < least → least
    ≤ length tail → IsTooLong t least (slice_index_or (lines t (tail ++ more)) 0 [])
open-long t least tail more lacks some enough =
    go (slice_index_or (lines t (tail ++ more)) 0 []) (first-open t tail more lacks)
  where
    go : (line : List ℕ) → (take (length tail) line ≡ tail) × (length tail ≤ length line)
        → IsTooLong t least line
    go line (begins, long) = ⊎_elim inl (λ same.
        let all : line ≡ tail = sym (take_all (length tail) line (omega arith)) ∙ begins in
        inr (
          omega arith,
          subst (λ xs. slice_index xs (least - 1) ≢ t) (sym all)
              (All-get_or (λ b. b ≢ t) tail (least - 1) 0 (omega arith) lacks),
        )) (cases_lt least (length line))

-- lines that a walk has passed to the end of some bytes aren't reported by the calls for them
pub unreported-passed : (k : Settings) (meaning : Meaning) (bytes : List ℕ) (v left : ℕ)
    → IsNear k bytes (selected_lines k meaning bytes) v (line_count k bytes) left → (i : ℕ) → v ≤ i
    → i < line_count k bytes → is_reported k bytes (selected_lines k meaning bytes) i ≡ false
unreported-passed k meaning bytes v left near i low below =
    grind (arith, cases_Bool, and-false, some_below-find, and_parts, ltb-true, clash)

-- a buffer that shows some lines after those that are gone, and holds bytes after them that end
-- none, can't hold the next line
pub crowded : (k : Settings) (meaning : Meaning) (gone shown tail later : List ℕ) (least : ℕ)
    → IsClosed (byte_of k.line_terminator) gone → IsClosed (byte_of k.line_terminator) shown
    → ((i : ℕ) → length (lines (byte_of k.line_terminator) gone) ≤ i
    → i < length (lines (byte_of k.line_terminator) (gone ++ shown))
    → is_reported k (gone ++ shown) (selected_lines k meaning (gone ++ shown)) i ≡ false)
    → All (λ b. b ≢ byte_of k.line_terminator) tail
    → length (lines (byte_of k.line_terminator) shown) ≤ k.before_context → 0 < least
    → least ≤ length shown + length tail
    → IsCrowded k meaning ((gone ++ shown) ++ (tail ++ later)) (gone ++ shown) least
crowded k meaning gone shown tail later least opens shut unreported lacks few some enough =
    let seen_closed = closed-append t gone shown opens shut in
    let count : length (lines t (gone ++ shown)) ≡ length (lines t gone) + length (lines t shown) =
    count-after t gone shown opens in
    let first = start-after t gone (shown ++ (tail ++ later)) opens 0 in
    let none : length (lines t gone) + 0 ≡ length (lines t (gone ++ shown))
    - length (lines t shown) =
    omega arith in
    let from : line_start t ((gone ++ shown) ++ (tail ++ later))
    (length (lines t (gone ++ shown)) - length (lines t shown))
    ≡ length gone + 0 = ap (line_start t ((gone ++ shown) ++ (tail ++ later))) (sym none)
    ∙ (ap (λ xs. line_start t xs (length (lines t gone) + 0))
    (append_assoc gone shown (tail ++ later)) ∙ first) in
    let next = start-after t (gone ++ shown) (tail ++ later) seen_closed 1 in
    let long = first-long t tail later lacks in
    record {
      kept = length (lines t shown);
      passed = omega arith;
      near = few;
      unreported = λ i low below. unreported i (omega (arith, low)) below;
      full = omega (arith, length-append gone shown);
      alone = λ single.
          let empty = no-lines t shown single in
          let all : least ≤ length tail = omega (arith, ap length empty) in
          let broken = first-open t tail later lacks in
          let lines_after = some-first (lines t (tail ++ later)) (omega arith) in (
            omega (arith, count-after t (gone ++ shown) (tail ++ later) seen_closed),
            subst (IsTooLong t least)
                (sym (line-after t (gone ++ shown) (tail ++ later) seen_closed))
                (open-long t least tail later lacks some all),
          );
    }
  where
    t : ℕ
    t = byte_of k.line_terminator

-- if the byte count is within the lines that were seen, each line that may be reported was seen
pub calls-within : (k : Settings) (meaning : Meaning) (seen back : List ℕ)
    → (0 < length back → IsClosed (byte_of k.line_terminator) seen)
    → (line_plan k meaning (seen ++ back)).finish.count ≤ length seen
    → reports_end k meaning (seen ++ back) ≤ length (lines (byte_of k.line_terminator) seen)
calls-within k meaning seen back closed within = go back closed within
  where
    t : ℕ
    t = byte_of k.line_terminator

    few : (bytes : List ℕ) → reports_end k meaning bytes ≤ length (lines t bytes)
    few bytes = laws.reports_end-le k meaning bytes

    above : (bytes : List ℕ) (m : ℕ) → line_start t bytes m ≡ length seen
        → (line_plan k meaning bytes).finish.count ≤ length seen → reports_end k meaning bytes ≤ m
    above bytes m is within = comes-from {t = t} {bytes = bytes} (record {
      listed = few bytes;
      begins = refl;
    }) m (omega arith)

    go : (back : List ℕ) → (0 < length back → IsClosed t seen)
        → (line_plan k meaning (seen ++ back)).finish.count ≤ length seen
        → reports_end k meaning (seen ++ back) ≤ length (lines t seen)
    go [] closed within = subst (λ xs. reports_end k meaning xs ≤ length (lines t seen))
        (sym (append-nil seen)) (few seen)
    go (b ∷ back) closed within =
        let shut = closed (omega arith) in
        let last = start-after t seen (b ∷ back) shut 0 in
        let none : length (lines t seen) + 0 ≡ length (lines t seen) = omega arith in
        above (seen ++ (b ∷ back)) (length (lines t seen))
        (sym (ap (line_start t (seen ++ (b ∷ back))) none) ∙ (last ∙ omega arith)) within

-- no lines are at the front of every input
pub front-none : {k : Settings} {bytes : List ℕ} → IsFront k bytes []
front-none {bytes} = grind arith

-- bytes below the heap limit are a front of themselves: no line of theirs is too long
pub front-whole : (k : Settings) (bytes : List ℕ) → IsBelowLimit k bytes → IsFront k bytes bytes
front-whole k bytes below = grind (arith, append-nil, All-weaker, lines-within)
