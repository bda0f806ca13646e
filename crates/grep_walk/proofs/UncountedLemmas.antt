-- A walk that may have skipped lines uncounted, against the calls that are defined for the input:
-- where lines aren't counted, no call depends on their count.
use Rattle.std.proofs.Common.{◌≡◌, ℕ, ◌+◌, ◌-◌, ◌<◌, ◌≤◌, min, Bool, true, false, if◌then◌else◌}
use Rattle.std.proofs.Common.{List, [], ◌++◌, length, drop, Option, refl, sym, ◌∙◌, ap, ap₂}
use Rattle.std.proofs.Common.{arith, subst, ⊎_elim}
use Rattle.std.proofs.lemmas.Bool.Decides.{nat_tests}
use Rattle.std.proofs.lemmas.Bool.{cases_lt}
use Rattle.std.specs.Prelude.{IfSome, slice_range}
use Rattle.grep_lines.specs.Positions.{IsLine, IsLineStart}
use Rattle.grep_matcher.specs.Lines.{lines, strip, byte_of}
use Rattle.grep_definitions.specs.Plans.{joined_from, Settings, Steps, Outcome, AreMade}
use Rattle.grep_definitions.specs.Plans.{IsLawful}
use Rattle.grep_definitions.specs.LineCalls.{listed_calls, selected_calls, matches_line}
use Rattle.grep_definitions.specs.LineCalls.{pending_calls}
use Rattle.grep_report.specs.ErrorMakers.{ErrorMakers}
use Rattle.grep_matcher.specs.Meanings.{Meaning, MatcherFacts}
use Rattle.grep_walk.specs.WalkFaults.{IsWalkFault}
use Rattle.grep_walk.specs.declared.line_run.LineRun.{LineRun}
use Rattle.grep_walk.specs.declared.look_ahead.Ahead.{Ahead}
use Rattle.grep_walk.specs.declared.walk.Walk.{Walk}
use Rattle.grep_walk.specs.LineRuns.{ArePassed, after_passed}
use Rattle.grep_walk.specs.LookAheads.{IsBounded, IsExact, IsKnown, MayAskAhead}
use Rattle.grep_walk.specs.LookAheads.{known_at, skips}
use Rattle.grep_walk.specs.Walks.{AreCounts, IsDecided, can_hit, counts_lines, is_over, line_end}
use Rattle.grep_walk.specs.Walks.{line_calls, after_line, with_counts, reports_line, skip_unmatched}
use Rattle.grep_walk.specs.Windows.{HasSearched, HasWalked, IsInWindow}
use Rattle.grep_walk.proofs.BeforeContextLemmas.{pending-none}
use Rattle.grep_walk.proofs.SkipLemmas as skips
use Rattle.grep_walk.proofs.SkipLemmas.{known-later, known-line}
use Rattle.grep_walk.proofs.WalkLemmas.{Bare, Comes, comes-on}
use Rattle.grep_walk.specs.Origins.{Origin}
use Rattle.grep_walk.proofs.WindowSearchLemmas as search
use Rattle.grep_report.specs.SinkReports.{no_surroundings}

-- what no search has that doesn't count lines
record IsUncounted (k : Settings) : Type 0 where
  unnumbered : k.line_number ≡ false
  none_after : k.after_context ≡ 0
  none_before : k.before_context ≡ 0

is_uncounted : (k : Settings) → counts_lines k ≡ false → IsUncounted k
is_uncounted k un = record {
  unnumbered = grind (arith, nat_tests);
  none_after = grind (arith, nat_tests);
  none_before = grind (arith, nat_tests);
}

-- with lines before a match they are counted
pub counts-before : (k : Settings) → 0 < k.before_context → counts_lines k ≡ true
counts-before k some = grind (arith, nat_tests)

module _ (k : Settings) (w : Walk) (line next_unreported : ℕ)
    (counts : AreCounts k w line next_unreported) where
  -- as many lines are near
  pub near-same : min k.before_context (line - next_unreported)
      ≡ min k.before_context (w.line - w.next_unreported)
  near-same = go (counts_lines k) refl
    where
      go : (b : Bool) → counts_lines k ≡ b → min k.before_context (line - next_unreported)
          ≡ min k.before_context (w.line - w.next_unreported)
      go true is = ap₂ (λ a b. min k.before_context (a - b)) (counts is).0 (counts is).1
      go false is = omega (arith, (is_uncounted k is).none_before)

  -- no line before a chosen one has a call
  pending-silent : IsUncounted k → (input : List ℕ) (v i end : ℕ) → pending_calls k input v i end v
      (i - v) ≡ []
  pending-silent un input v i end = ⊎_elim (λ less.
      let none : i - v ≡ 0 = omega arith in
      ap (λ n. joined_from (listed_calls k input v i end) v n) none)
      (λ low. pending-none k input v i end low (omega arith)) (cases_lt i v)

  match-same : IsUncounted k → (end : ℕ) (here : List ℕ)
      → selected_calls k next_unreported line w.offset end here no_surroundings
      ≡ selected_calls k w.next_unreported w.line w.offset end here no_surroundings
  match-same un end here = rw (un.none_after, un.unnumbered) refl

  -- the calls of a line are the ones of the recounted walk
  pub calls-same : (input here : List ℕ) (chosen trailing : Bool)
      → line_calls k input w here no_surroundings chosen trailing
      ≡ line_calls k input (with_counts w line next_unreported) here no_surroundings chosen trailing
  calls-same input here chosen trailing = go (counts_lines k) refl
    where
      uncounted : IsUncounted k → (c t : Bool) (left : ℕ)
          → line_calls k input (record w { after_context_left = left }) here no_surroundings c t
          ≡ line_calls k input (record w {
            line = line;
            next_unreported = next_unreported;
            after_context_left = left;
          }) here no_surroundings c t
      uncounted un true t left = ap₂ (λ xs ys. xs ++ ys)
          (pending-silent un input w.next_unreported w.line (line_end w here)
          ∙ sym (pending-silent un input next_unreported line (line_end w here)))
          (sym (match-same un (line_end w here) here))
      uncounted un false t left = rw (un.none_after, un.unnumbered) refl

      go : (b : Bool) → counts_lines k ≡ b → line_calls k input w here no_surroundings chosen trailing
          ≡ line_calls k input (with_counts w line next_unreported) here no_surroundings chosen trailing
      go true is = ap₂ (λ l v. line_calls k input (with_counts w l v) here no_surroundings chosen trailing)
          (sym (counts is).0) (sym (counts is).1)
      go false is = uncounted (is_uncounted k is) chosen trailing w.after_context_left

  -- the next walk's counts
  pub counts-next : (here : List ℕ) (chosen : Bool) → AreCounts k (after_line k w here chosen)
      (line + 1) (if reports_line k w chosen then line + 1 else next_unreported)
  counts-next here chosen is = (
    ap (λ n. n + 1) (counts is).0,
    ap₂ (λ l v. if reports_line k w chosen then l + 1 else v) (counts is).0 (counts is).1,
  )

  -- the counts after lines that were skipped
  pub counts-past : (passed : List ℕ) → AreCounts k (skip_unmatched k w passed)
      (line + length (lines (byte_of k.line_terminator) passed)) next_unreported
  counts-past passed is = (
    ap (λ n. n + length (lines (byte_of k.line_terminator) passed)) (counts is).0
        ∙ sym (ap (λ b. if b then w.line + length (lines (byte_of k.line_terminator) passed)
        else w.line) is),
    (counts is).1,
  )

-- where lines are counted, the walk is in the window as it is
pub inside-counted : {S E : Type 0} {step : Steps S E} {k : Settings} {meaning : Meaning}
    {gone window input : List ℕ}
    {first : Origin S} {p : ℕ} {w : Walk} {now : S} → HasSearched step k meaning gone window input
    first p w now → counts_lines k ≡ true → IsInWindow k gone window input p w
inside-counted {k = k} {gone = gone} {window = window} {input = input} {p = p} {w = w} so_far is =
    let counts = so_far.counts is in
    subst (λ v. IsInWindow k gone window input p (with_counts w w.line v)) counts.1
    (subst (λ l. IsInWindow k gone window input p (with_counts w l so_far.next_unreported)) counts.0
    so_far.walked.inside)

-- what a step of a walk has of the line from p up to q that it decides
pub record HasLine {S E : Type 0} (step : Steps S E) (k : Settings) (meaning : Meaning)
    (gone window input : List ℕ)
    (first : Origin S) (p q : ℕ) (w : Walk) (now : S) (known : Option Bool) : Type 0 where
  pub here : HasSearched step k meaning gone window input first p w now
  pub line : (i : ℕ) → IsLineStart (byte_of k.line_terminator) window p i
      → IsLine (byte_of k.line_terminator) window i p q
  pub agrees : IfSome known (λ matches. matches ≡ matches_line k meaning (slice_range window p q))

-- the matcher's error for that line
pub failed-asked : {S E F : Type 0} {step : Steps S E} {k : Settings} {gone window input : List ℕ}
    {first : Origin S}
    {p q : ℕ} {w : Walk} {now : S} {known : Option Bool} (errors : ErrorMakers F E)
    (matcher : MatcherFacts F)
    → Bare k matcher.meaning input → HasLine step k matcher.meaning gone window input first p q w
    now known
    → q ≤ length window → can_hit k w ≡ true → (error : F) (e : E) → errors.is_message error e
    → matcher.fails (strip k.line_terminator (slice_range window p q)) error
    → IsWalkFault step errors matcher k input first e now
failed-asked errors matcher bare call within can error e message fails =
    search.failed-matcher errors matcher bare call.here.walked within call.line can _ error e
    (search.asked-line call.here.walked within call.line) message fails

-- what comes of its calls
pub line-comes : {S E : Type 0} {step : Steps S E} {k : Settings} {meaning : Meaning}
    {gone window input : List ℕ}
    {first : Origin S} {p q : ℕ} {w : Walk} {now : S} {known : Option Bool} → Bare k meaning input
    → HasLine step k meaning gone window input first p q w now known → q ≤ length window
    → {chosen trailing : Bool} → IsDecided k meaning w (slice_range window p q) chosen trailing
    → (outcome : Outcome E) (new : S)
    → AreMade step k now (line_calls k input w (slice_range window p q) no_surroundings chosen trailing) outcome new
    → Comes k meaning input step first (line_end w (slice_range window p q))
    (is_over k (after_line k w (slice_range window p q) chosen) chosen)
    (HasSearched step k meaning gone window input first q
    (after_line k w (slice_range window p q) chosen)) outcome new
line-comes {step = step} {k = k} {meaning = meaning} {gone = gone} {window = window} {input = input}
    {first = first}
    {p = p} {q = q} {w = w} {now = now} bare call within {chosen} {trailing} decided outcome new
    made =
    comes-on k meaning input step first (line_end w here)
    (is_over k (after_line k w here chosen) chosen)
    (HasWalked step k meaning gone window input first q
    (after_line k (with_counts w line next_unreported) here chosen))
    (HasSearched step k meaning gone window input first q (after_line k w here chosen))
    (λ new walked. record {
      line = line + 1;
      next_unreported = if reports_line k w chosen then line + 1 else next_unreported;
      counts = counts-next k w line next_unreported call.here.counts here chosen;
      walked = walked;
    }) outcome new (search.line-comes call.here.walked within call.line bare
    (record { chosen_is = decided.chosen_is; trailing_is = decided.trailing_is }) outcome new
    (subst (λ calls. AreMade step k now calls outcome new)
    (calls-same k w line next_unreported call.here.counts input here chosen trailing) made))
  where
    here : List ℕ
    here = slice_range window p q

    line : ℕ
    line = call.here.line

    next_unreported : ℕ
    next_unreported = call.here.next_unreported

-- the matcher's error for the lines from a position on
pub failed-ahead : {S E F : Type 0} {step : Steps S E} {k : Settings} {gone window input : List ℕ}
    {first : Origin S}
    {p : ℕ} {w : Walk} {now : S} (errors : ErrorMakers F E) (matcher : MatcherFacts F)
    → Bare k matcher.meaning input
    → HasSearched step k matcher.meaning gone window input first p w now → p < length window
    → MayAskAhead k matcher.meaning w → (error : F) (e : E) → errors.is_message error e
    → matcher.fails (drop p window) error → IsWalkFault step errors matcher k input first e now
failed-ahead errors matcher bare so_far less may = skips.failed-ahead errors matcher bare
    so_far.walked less
    (record { allowed = may.allowed; room = may.room; unstopped = may.unstopped })

module _ {S E : Type 0} {step : Steps S E} {k : Settings} {meaning : Meaning}
    {gone window input : List ℕ}
    {first : Origin S} {p : ℕ} {w : Walk} {now : S} {a : Ahead} (bare : Bare k meaning input)
    (so_far : HasSearched step k meaning gone window input first p w now)
    (bounded : IsBounded window a)
    (known : IsKnown k meaning window p a) where
  -- the lines that don't match are skipped, if the walk may skip them
  pub searched-on : {r : ℕ} {next : Walk} → r ≡ (if skips k w p a.candidate then a.candidate else p)
      → next ≡ (if skips k w p a.candidate
      then skip_unmatched k w (slice_range window p a.candidate) else w)
      → HasSearched step k meaning gone window input first r next now
  searched-on {r} {next} is_r is_next =
      subst (λ q. HasSearched step k meaning gone window input first q next now) (sym is_r)
      (subst (λ v. HasSearched step k meaning gone window input first (if skips k w p a.candidate
      then a.candidate else p)
      v now) (sym is_next) (go (skips k w p a.candidate) refl))
    where
      go : (b : Bool) → skips k w p a.candidate ≡ b
          → HasSearched step k meaning gone window input first (if b then a.candidate else p)
          (if b then skip_unmatched k w (slice_range window p a.candidate) else w) now
      go false is = so_far
      go true is = record {
        line = so_far.line + length
            (lines (byte_of k.line_terminator) (slice_range window p a.candidate));
        next_unreported = so_far.next_unreported;
        counts = counts-past k w so_far.line so_far.next_unreported so_far.counts
            (slice_range window p a.candidate);
        walked = skips.walked-past step k meaning gone window input first now bare
            (with_counts w so_far.line so_far.next_unreported) p a so_far.walked
            (omega (arith, bounded.ordered, bounded.within)) known is;
      }

  -- the line that the walk decides after that
  pub line-reached : {r q b : ℕ} {next : Walk} {o : Option Bool} → p ≤ r
      → r ≡ (if skips k w p a.candidate then a.candidate else p)
      → next ≡ (if skips k w p a.candidate
      then skip_unmatched k w (slice_range window p a.candidate) else w)
      → b ≡ byte_of k.line_terminator
      → (IsExact b window a → (i : ℕ) → IsLineStart b window r i → IsLine b window i r q)
      → o ≡ known_at a r → HasLine step k meaning gone window input first r q next now o
  line-reached {r} {q} low is_r is_next is_b ends is_o =
      let here = searched-on is_r is_next in
      let line = subst (λ b. IsExact b window a → (i : ℕ) → IsLineStart b window r i
      → IsLine b window i r q) is_b ends known.exact in
      record {
        here = here;
        line = line;
        agrees = subst (λ o. IfSome o (λ m. m ≡ matches_line k meaning (slice_range window r q)))
            (sym is_o)
            (known-line k meaning window a _ r q (known-later k meaning window p r a low known)
            (line _ here.walked.inside.line.begins));
      }

-- lines that match are passed under inversion
pub passed-on : {S E F : Type 0} {step : Steps S E} {k : Settings} {facts : MatcherFacts F}
    {gone window input : List ℕ} {first : Origin S} {p : ℕ} {w : Walk} {now : S} {a : Ahead}
    {run : LineRun} → Bare k facts.meaning input
    → HasSearched step k facts.meaning gone window input first p w now
    → IsLawful facts k → IsKnown k facts.meaning window p a
    → ArePassed k facts window p a w run
    → HasSearched step k facts.meaning gone window input first run.end
    (after_passed w (run.end - p) run.count) now
passed-on {step = step} {k = k} {facts = facts} {gone = gone} {window = window} {input = input}
    {first = first} {p = p} {w = w} {now = now} {run = run} bare so_far lawful known passed =
    let counted = with_counts w so_far.line so_far.next_unreported in
    record {
      line = so_far.line + run.count;
      next_unreported = so_far.next_unreported;
      counts = λ is. (ap (λ n. n + run.count) (so_far.counts is).0, (so_far.counts is).1);
      walked = skips.walked-over step k facts.meaning gone window input first now bare counted p run
          so_far.walked passed.unchosen passed.inverted
          (passed.run.alike lawful _ so_far.walked.inside.line.begins known);
    }
