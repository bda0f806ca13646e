-- A walk that passes lines which aren't chosen: it skips those that don't match, or under inversion
-- passes those that do.
use Rattle.std.proofs.Common.{◌≡◌, ℕ, zero, suc, ◌+◌, ◌-◌, ◌<◌, ◌≤◌, true, false, ◌||◌}
use Rattle.std.proofs.Common.{List, length, drop, refl, sym, ◌∙◌, ap}
use Rattle.std.proofs.Common.{subst, arith, length-take, length-drop}
use Rattle.std.proofs.lemmas.Bool.Decides.{nat_tests}
use Rattle.std.specs.Prelude.{nat_lt, IfSome, slice_range}
use Rattle.grep_lines.specs.Positions.{IsLine, IsLineStart}
use Rattle.grep_matcher.specs.Lines.{lines, line_start, byte_of}
use Rattle.grep_matcher.specs.Meanings.{Meaning, MatcherFacts}
use Rattle.grep_definitions.specs.Plans.{stops_next, Settings, Steps, all_true, AreMade, has_room}
use Rattle.grep_definitions.specs.Plans.{hits_if}
use Rattle.grep_definitions.specs.LineCalls.{matches_line}
use Rattle.grep_report.specs.ErrorMakers.{ErrorMakers}
use Rattle.grep_walk.specs.WalkFaults.{IsWalkFault}
use Rattle.grep_walk.specs.declared.line_run.LineRun.{LineRun}
use Rattle.grep_walk.specs.declared.look_ahead.Ahead.{Ahead}
use Rattle.grep_walk.specs.declared.walk.Walk.{Walk}
use Rattle.grep_walk.specs.LineRuns.{AreAlike, after_passed}
use Rattle.grep_walk.specs.LookAheads.{IsKnown, MayAskAhead, known_at, passes_unchosen, skips}
use Rattle.grep_walk.specs.Walks.{IsDecided, is_over, line_calls, after_line, skip_lines}
use Rattle.grep_walk.specs.Windows.{HasWalked}
use Rattle.grep_lines.proofs.LineRangeLemmas.{lines-between, comes-before, comes-from, end-start}
use Rattle.grep_lines.proofs.LineRangeLemmas.{line-from, start-same, starts-until}
use Rattle.grep_walk.proofs.WalkLemmas.{Bare}
use Rattle.grep_walk.proofs.WindowSearchLemmas.{asked-ahead, failed-matcher, line-comes}
use Rattle.grep_walk.specs.Origins.{Origin}
use Rattle.grep_report.specs.SinkReports.{no_surroundings}

-- what a walk that passes lines which aren't chosen has
pub record IsPassing (k : Settings) (w : Walk) : Type 0 where
  pub selects : k.passthru ≡ false
  pub none_left : w.after_context_left ≡ 0
  pub unstopped : stops_next k (nat_lt 0 w.match_count) ≡ false

pub is_passing : (k : Settings) (w : Walk) → passes_unchosen k w ≡ true → IsPassing k w
is_passing k w passes = grind arith

module _ (k : Settings) (meaning : Meaning) (window : List ℕ) where
  -- at first nothing is known
  pub known-nothing : (p : ℕ) → IsKnown k meaning window p (record { candidate = 0; match_end = 0; asked_end = 0 })
  known-nothing p = grind arith

  -- what is known from a position on is known from a later one on
  pub known-later : (p r : ℕ) (a : Ahead) → p ≤ r → IsKnown k meaning window p a
      → IsKnown k meaning window r a
  known-later p r a low known = grind arith

  -- and is so of the line there
  pub known-line : (a : Ahead) (i p q : ℕ) → IsKnown k meaning window p a
      → IsLine (byte_of k.line_terminator) window i p q
      → IfSome (known_at a p) (λ matches. matches ≡ matches_line k meaning (slice_range window p q))
  known-line a i p q known line = grind arith

module _ {S E : Type 0} (step : Steps S E) (k : Settings) (meaning : Meaning)
    (gone window input : List ℕ) (first : Origin S) (now : S) (bare : Bare k meaning input) where
  abbrev t : ℕ
  t = byte_of k.line_terminator

  abbrev Walked : ℕ → Walk → Type 0
  Walked p w = HasWalked step k meaning gone window input first p w now

  -- the lines from one position up to another don't hit
  abbrev AllMiss : ℕ → ℕ → Type 0
  AllMiss p q = (i a b : ℕ) → IsLine t window i a b → p ≤ a → a < q
      → hits_if k (matches_line k meaning (slice_range window a b)) ≡ false

  -- the line that a walk is at
  line-there : (w : Walk) (p : ℕ) → Walked p w → p < length window
      → (q : ℕ) × (p < q) × (q ≤ length window)
      × ((i : ℕ) → IsLineStart t window p i → IsLine t window i p q)
  line-there w p so_far less =
      let i = w.line - length (lines t gone) in
      let from = so_far.inside.line.begins in
      let listed = comes-before (end-start t window) i (omega arith) in
      let line = line-from from (record { listed = omega arith; begins = refl }) in (
        line_start t window (i + 1),
        line.above,
        line.within,
        λ j start. subst (λ m. IsLine t window m p (line_start t window (i + 1)))
            (start-same from start) line,
      )

  -- one line is passed
  walked-one : (w : Walk) (p q i : ℕ) → Walked p w → IsPassing k w → IsLine t window i p q
      → hits_if k (matches_line k meaning (slice_range window p q)) ≡ false → Walked q (after_passed w (q - p) 1)
  walked-one w p q i so_far passing line missed = subst (Walked q) same
      ((line-comes so_far line.within there bare value all_true now silent).1 goes_on)
    where
      here : List ℕ
      here = slice_range window p q

      there : (j : ℕ) → IsLineStart t window p j → IsLine t window j p q
      there j start = subst (λ m. IsLine t window m p q)
          (start-same (record { listed = omega arith; begins = line.begins }) start) line

      value : IsDecided k meaning w here false false
      value = record {
        chosen_is = grind (arith, missed);
        trailing_is = λ some. grind (arith, missed);
      }

      none_left : nat_lt 0 w.after_context_left ≡ false
      none_left = grind (arith, nat_tests, passing.none_left)

      silent : AreMade step k now (line_calls k input w here no_surroundings false false) all_true now
      silent = rw (none_left, passing.selects) (refl, refl)

      room : has_room k w.match_count ≡ true
      room = grind (arith, so_far.reported.walk.opened.filled passing.selects, passing.none_left)

      goes_on : is_over k (after_line k w here false) false ≡ false
      goes_on = grind (arith, nat_tests, passing.unstopped, room)

      same : after_line k w here false ≡ after_passed w (q - p) 1
      same = grind (
        arith,
        length-take (q - p) (drop p window),
        length-drop p window,
        line.above,
        line.within,
        none_left,
        passing.none_left,
        passing.selects,
      )

  -- many lines are passed
  walked-lines : (n : ℕ) (w : Walk) (p q i : ℕ) → Walked p w → IsPassing k w
      → IsLineStart t window p i
      → IsLineStart t window q (i + n) → AllMiss p q → Walked q (after_passed w (q - p) n)
  walked-lines zero w p q i so_far passing from to misses =
      let plain : i ≡ i + zero = omega arith in
      let same : p ≡ q = sym from.begins ∙ (ap (line_start t window) plain ∙ to.begins) in
      subst (λ r. Walked r (after_passed w (q - p) zero)) same
      (subst (Walked p) (grind (arith, same)) so_far)
  walked-lines (suc n) w p q i so_far passing from to misses =
      let end = line_start t window (i + 1) in
      let line = line-from from (record { listed = omega arith; begins = refl }) in
      let within : end ≤ q = starts-until to (i + 1) (omega arith) in
      let one = walked-one w p end i so_far passing line
      (misses i p end line (omega arith) (omega arith)) in
      let sum : (i + 1) + n ≡ i + suc n = omega arith in
      let later = walked-lines n (after_passed w (end - p) 1) end q (i + 1) one
      (record {
        selects = passing.selects;
        none_left = passing.none_left;
        unstopped = passing.unstopped;
      }) (record { listed = omega arith; begins = refl })
      (subst (IsLineStart t window q) (sym sum) to)
      (λ j a b line low high. misses j a b line (omega arith) high) in
      subst (Walked q) (grind (arith, line.above, within)) later

  -- the lines that don't match are passed, if the walk may skip them
  pub walked-past : (w : Walk) (p : ℕ) (a : Ahead) → Walked p w → a.candidate ≤ length window
      → IsKnown k meaning window p a → skips k w p a.candidate ≡ true
      → Walked a.candidate (skip_lines k w (slice_range window p a.candidate))
  walked-past w p a so_far within known is =
      let less : p < a.candidate = grind (arith, nat_tests, is) in
      let plain : hits_if k false ≡ false = grind (arith, is) in
      let i = w.line - length (lines t gone) in
      let from = so_far.inside.line.begins in
      let ordered = comes-from from known.index (omega arith) in
      let sum : i + (known.index - i) ≡ known.index = omega arith in
      let many = lines-between t window p a.candidate i known.index from known.at (omega arith)
      within ordered in
      subst (Walked a.candidate)
      (grind (
        arith,
        length-take (a.candidate - p) (drop p window),
        length-drop p window,
        many,
        within,
      ))
      (walked-lines (known.index - i) w p a.candidate i so_far (is_passing k w (grind (arith, is)))
      from (subst (IsLineStart t window a.candidate) (sym sum) known.at)
      (λ j x y line after early. ap (hits_if k) (known.miss j x y line after early) ∙ plain))

  -- the lines that match are passed under inversion
  pub walked-over : (w : Walk) (p : ℕ) (run : LineRun) → Walked p w → passes_unchosen k w ≡ true
      → hits_if k true ≡ false
      → AreAlike k meaning window p (w.line - length (lines t gone)) true run
      → Walked run.end (after_passed w (run.end - p) run.count)
  walked-over w p run so_far passes inverted alike = walked-lines run.count w p run.end
      (w.line - length (lines t gone)) so_far (is_passing k w passes) so_far.inside.line.begins
      alike.at
      (λ j x y line after early. ap (hits_if k) (alike.all j x y line after early) ∙ inverted)

-- the matcher's error for the lines from where a walk is on
pub failed-ahead : {S E F : Type 0} {step : Steps S E} {k : Settings} {gone window input : List ℕ}
    {first : Origin S}
    {p : ℕ} {w : Walk} {now : S} (errors : ErrorMakers F E) (matcher : MatcherFacts F)
    → Bare k matcher.meaning input
    → HasWalked step k matcher.meaning gone window input first p w now → p < length window
    → MayAskAhead k matcher.meaning w → (error : F) (e : E) → errors.is_message error e
    → matcher.fails (drop p window) error → IsWalkFault step errors matcher k input first e now
failed-ahead {w = w} errors matcher bare so_far less may error e message fails =
    let there = line-there _ _ _ _ _ _ _ _ bare w _ so_far less in
    failed-matcher errors matcher bare so_far there.2 there.3
    (ap (λ room. room || nat_lt 0 w.after_context_left) may.room) _ error e
    (asked-ahead so_far there.2 there.3 may) message fails
