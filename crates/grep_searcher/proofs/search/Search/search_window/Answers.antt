use Rattle.std.proofs.Common.{Err, None, Ok, Some, rules, ◌≡◌, ◌∙◌, ℕ, length, refl, ap, sym, subst, arith, true, false}
use Rattle.std.proofs.Common.{length-take, length-drop, ◌-◌, drop, ◌+◌, List}
use Rattle.std.proofs.lemmas.Bool.{false≢true}
use Rattle.std.proofs.lemmas.Result.{err_from_is_err_and}
use Rattle.std.specs.Prelude.{IfSome, slice_range}
use Rattle.grep_lines.specs.Positions.{IsLineStart}
use Rattle.grep_matcher.specs.Lines.{lines}
use Rattle.grep_definitions.specs.Plans.{IsLawful, all_true, failed, stopped, counted}
use Rattle.grep_walk.specs.Origins.{Origin}
use Rattle.grep_walk.specs.Windows.{HasSearched}
use Rattle.grep_walk.specs.Walks.{chooses, is_over, line_end, after_line}
use Rattle.grep_walk.proofs.SkipLemmas as skips
use Rattle.grep_walk.proofs.WindowSearchLemmas as search
use Rattle.grep_walk.proofs.WindowSearchLemmas.{ordered-next}
use Rattle.grep_walk.proofs.UncountedLemmas as uncounted
use Rattle.grep_walk.specs.WalkFaults.{at_call}
use Rattle.grep_walk.specs.LookAheads.{HasFailedAt, IsKnown}
use Rattle.grep_walk.specs.declared.line_run.LineRun.{LineRun}
use Rattle.grep_walk.specs.declared.walk.Walk.{Walk}
use Rattle.grep_walk.specs.ChosenLines.{AreChosen, after_chosen, chosen_calls}
use Rattle.grep_walk.proofs.ChosenLineLemmas.{LinesCome, chosen-come}
use Rattle.grep_definitions.specs.CallOrder.{HasCalled}
use Rattle.grep_definitions.specs.Plans.{AreMade, Outcome}
use Rattle.grep_searcher.proofs.OrderLemmas.{called-matches}
use Rattle.grep_searcher.proofs.search.Search.search_window.Given.{Over}
use Rattle.grep_definitions.specs.CallOrder.{of_call, of_question}
use Rattle.grep_definitions.proofs.CallOrderLemmas.{called-none, called-then}
use Rattle.grep_searcher.proofs.search.Search.search_window.Goals as goal
use Rattle.grep_searcher.proofs.search.Search.search_window.Goals.{After-known_at-known}
use Rattle.grep_searcher.proofs.search.Search.search_window.Goals.{After-sink_chosen_lines}
use Rattle.grep_searcher.proofs.search.Search.search_window.Goals.{After-sink_one_by_one, In-Declined}
use Rattle.grep_searcher.proofs.search.Search.search_window.Goals.{In-Taken}
use Rattle.grep_searcher.proofs.ReportedLineLemmas.{failed-after, failed-past}
use Rattle.grep_searcher.specs.ReportedLines.{IsOffered, outcome_at}
use Rattle.grep_searcher.specs.declared.search.chosen_lines.Offered.TheVariants.{Declined, Taken}

-- lines that weren't taken at once have had no call
untaken : (g : Over) (c : goal.After-known_at-known g)
    → c.sink_chosen_lines.new.sink ≡ c.lines.sink
untaken g c = search rules

called : (g : Over) (c : goal.After-known_at-known g)
    → HasCalled g.S.Sink.step c.args.self.now.config 0 c.args.sink.now all_true
    c.sink_chosen_lines.new.sink
called g c = subst (HasCalled g.S.Sink.step c.args.self.now.config 0 c.args.sink.now all_true)
    (sym (untaken g c)) c.lines.invariant.called

-- the line that a walk decides, after those that it skipped
reached : (g : Over) (c : goal.After-known_at-known g)
    → IsLawful (g.M.Matcher.facts c.args.matcher.now) c.args.self.now.config
    → (gone input : List ℕ) (first : Origin g.row.S.Denot)
    → HasSearched g.S.Sink.step c.args.self.now.config
    (g.M.Matcher.facts c.args.matcher.now).meaning gone c.args.window.now input
    first c.args.start c.args.walk.now c.args.sink.now
    → uncounted.HasLine g.S.Sink.step c.args.self.now.config
    (g.M.Matcher.facts c.args.matcher.now).meaning gone
    c.args.window.now input first c.skip_unmatched-start.result c.in-Some-line_end.end
    c.skip_unmatched-start.new.walk c.sink_chosen_lines.new.sink c.known_at-known.result
reached g c lawful gone input first so_far = subst (λ sink. uncounted.HasLine g.S.Sink.step
    c.args.self.now.config (g.M.Matcher.facts c.args.matcher.now).meaning gone c.args.window.now
    input first c.skip_unmatched-start.result c.in-Some-line_end.end
    c.skip_unmatched-start.new.walk sink c.known_at-known.result) (sym (untaken g c)) (
    let now = c.lines.invariant.searched lawful gone input first so_far in
    uncounted.line-reached c.args.self.now.bare now c.in-Ok.ensures.bounded
    (c.in-Ok.ensures.known lawful _ now.walked.inside.line.begins
    (c.lines.invariant.known lawful gone input first so_far)) c.skip_unmatched-start.ensures.low
    c.skip_unmatched-start.ensures.position c.skip_unmatched-start.ensures.walk
    c.terminator-terminator.ensures c.in-Some-line_end.ensures.line c.known_at-known.ensures)

-- where the walk is after the lines that are skipped, and what is known there
here : (g : Over) (c : After-sink_chosen_lines g)
    → IsLawful (g.M.Matcher.facts c.args.matcher.now) c.args.self.now.config
    → (gone input : List ℕ) (first : Origin g.row.S.Denot)
    → HasSearched g.S.Sink.step c.args.self.now.config
    (g.M.Matcher.facts c.args.matcher.now).meaning gone c.args.window.now input
    first c.args.start c.args.walk.now c.args.sink.now
    → HasSearched g.S.Sink.step c.args.self.now.config
    (g.M.Matcher.facts c.args.matcher.now).meaning gone c.args.window.now input
    first c.skip_unmatched-start.result c.skip_unmatched-start.new.walk c.lines.sink
    × IsKnown c.args.self.now.config (g.M.Matcher.facts c.args.matcher.now).meaning
    c.args.window.now c.skip_unmatched-start.result c.in-Ok.ahead
here g c lawful gone input first so_far =
    let now = c.lines.invariant.searched lawful gone input first so_far in
    let known = c.in-Ok.ensures.known lawful _ now.walked.inside.line.begins
    (c.lines.invariant.known lawful gone input first so_far) in
    let skipped = c.skip_unmatched-start.ensures in (
      uncounted.searched-on c.args.self.now.bare now c.in-Ok.ensures.bounded known
          skipped.position skipped.walk,
      skips.known-later _ _ _ _ _ _ skipped.low known,
    )

-- what comes of lines that are chosen one after another
chosen : (g : Over) (c : After-sink_chosen_lines g)
    → IsLawful (g.M.Matcher.facts c.args.matcher.now) c.args.self.now.config
    → (gone input : List ℕ) (first : Origin g.row.S.Denot)
    → HasSearched g.S.Sink.step c.args.self.now.config
    (g.M.Matcher.facts c.args.matcher.now).meaning gone c.args.window.now input
    first c.args.start c.args.walk.now c.args.sink.now
    → (lines : LineRun) → AreChosen c.args.self.now.config
    (g.M.Matcher.facts c.args.matcher.now) c.args.window.now c.skip_unmatched-start.result
    c.in-Ok.ahead c.skip_unmatched-start.new.walk lines
    → (outcome : Outcome g.row.S-Error.Denot) (new : g.row.S.Denot)
    → AreMade g.S.Sink.step c.args.self.now.config c.lines.sink
    (chosen_calls c.args.self.now.config c.args.window.now c.skip_unmatched-start.result lines.end
    c.skip_unmatched-start.new.walk) outcome new
    → LinesCome g.S.Sink.step c.args.self.now.config
    (g.M.Matcher.facts c.args.matcher.now).meaning gone c.args.window.now input first
    c.args.self.now.bare (HasSearched g.S.Sink.step c.args.self.now.config
    (g.M.Matcher.facts c.args.matcher.now).meaning gone c.args.window.now input first lines.end
    (after_chosen c.args.self.now.config c.skip_unmatched-start.new.walk
    (lines.end - c.skip_unmatched-start.result) lines.count)) outcome new
chosen g c lawful gone input first so_far lines are outcome new made =
    let at = here g c lawful gone input first so_far in
    let begins = at.0.walked.inside.line.begins in
    chosen-come _ _ _ gone _ input first c.args.self.now.bare
    c.skip_unmatched-start.new.walk c.skip_unmatched-start.result _ are.matches lines c.lines.sink
    at.0 begins (are.run.alike lawful _ begins at.1) are.hits are.run.some are.run.within are.alone
    outcome new made

pub lines-init : goal.lines-init
lines-init g c = record {
  within = c.requires.inside;
  same = refl;
  ahead = omega arith;
  ordered = c.requires.ordered;
  bounded = record {
    ordered = omega arith;
    within = omega arith;
    asked = omega arith;
    sure = λ some. absurd (omega arith);
  };
  pending = tt;
  further = tt;
  known = λ lawful gone input first so_far. skips.known-nothing _ _ _ _;
  searched = λ lawful gone input first so_far. so_far;
  called = called-none _ _ _;
  may_call = c.requires.may_call;
}

pub returns-in-Err-clause-fault : goal.returns-in-Err-clause-fault
returns-in-Err-clause-fault g c =
    let ahead = c.in-Err.ensures in
    λ lawful gone input first so_far. uncounted.failed-ahead _ _
    (λ passthru. absurd (false≢true (sym ahead.allowed.allowed.selects ∙ passthru)))
    (c.lines.invariant.searched lawful gone input first so_far) ahead.some ahead.allowed
    c.in-Err.error _ c.error_message.ensures ahead.fault

pub returns-in_default-line_end-clause-goes_on : goal.returns-in_default-line_end-clause-goes_on
returns-in_default-line_end-clause-goes_on g c = λ lawful goes gone input first so_far.
    let same : c.sink_chosen_lines.new.sink ≡ c.lines.sink = search rules in
    let learns = c.in-Ok.ensures.known in
    let position = c.skip_unmatched-start.ensures.position in
    let skipped = c.skip_unmatched-start.ensures.walk in
    let bare = c.args.self.now.bare in
    let now = c.lines.invariant.searched lawful gone input first so_far in
    let known = learns lawful _ now.walked.inside.line.begins
    (c.lines.invariant.known lawful gone input first so_far) in
    let here = uncounted.searched-on bare now c.in-Ok.ensures.bounded known position skipped in
    let terminator = c.terminator-terminator.ensures in
    search.passed-all _ _ _ _ _ _ _ _ _ _ (subst (HasSearched g.S.Sink.step
    c.args.self.now.config (g.M.Matcher.facts c.args.matcher.now).meaning gone c.args.window.now
    input first c.skip_unmatched-start.result c.skip_unmatched-start.new.walk) (sym same) here)
    c.in_default-line_end.ensures.end
    (subst (λ b. (i : ℕ) → IsLineStart b c.args.window.now c.skip_unmatched-start.result i → i
    ≡ length (lines b c.args.window.now)) terminator c.in_default-line_end.ensures.last)

pub returns-in-Err-judge-clause-fault : goal.returns-in-Err-judge-clause-fault
returns-in-Err-judge-clause-fault g c =
    let below = c.in-Err-judge.ensures.open in
    λ lawful gone input first so_far.
    let call = reached g (goal.at.returns-in-Err-judge-clause-fault g c).After-known_at-known lawful
    _ _ _ so_far in
    uncounted.failed-asked _ _ c.args.self.now.bare call c.in-Some-line_end.ensures.within.1 below
    c.in-Err-judge.error _ c.error_message-in-Err-judge.ensures c.in-Err-judge.ensures.fault

pub returns-in_err-sink_line-clause-fault : goal.returns-in_err-sink_line-clause-fault
returns-in_err-sink_line-clause-fault g c =
    let decided = c.in-Ok-judge.ensures.decided in
    let p = err_from_is_err_and c.from_residual-in_err-sink_line.result c.from_residual-in_err-sink_line.ensures.1 in
    rw (p.1, p.2) (λ lawful gone input first so_far.
    let call = reached g (goal.at.returns-in_err-sink_line-clause-fault g c).After-known_at-known
    lawful _ _ _ so_far in
    at_call (uncounted.line-comes c.args.self.now.bare call c.in-Some-line_end.ensures.within.1
    (decided call.agrees) (failed _) _ (c.in_err-sink_line.ensures.reported gone input
    (uncounted.inside-counted call.here))))

pub returns-then-not-branch-clause-ends : goal.returns-then-not-branch-clause-ends
returns-then-not-branch-clause-ends g c = λ lawful ends.
    let decided = c.in-Ok-judge.ensures.decided in
    let stops : c.in_ok-sink_line.field-0 ≡ false = search rules in
    let reported = rw stops at c.in_ok-sink_line.ensures.reported in (
      stopped (counted (line_end c.skip_unmatched-start.new.walk
          (slice_range c.args.window.now c.skip_unmatched-start.result c.in-Some-line_end.end))),
      λ gone input first so_far.
          let call = reached g
          (goal.at.returns-then-not-branch-clause-ends g c).After-known_at-known lawful _ _ _
          so_far in
          uncounted.line-comes c.args.self.now.bare call c.in-Some-line_end.ensures.within.1
          (decided call.agrees)
          (stopped _) _ (reported gone input (uncounted.inside-counted call.here)) refl,
    )

pub returns-then-is_over-clause-ends : goal.returns-then-is_over-clause-ends
returns-then-is_over-clause-ends g c = λ lawful ends.
    let decided = c.in-Ok-judge.ensures.decided in
    let chosen = c.is_chosen-chosen.ensures in
    let next = c.after_line.ensures
    ∙ ap (after_line c.args.self.now.config c.skip_unmatched-start.new.walk
    (slice_range c.args.window.now c.skip_unmatched-start.result c.in-Some-line_end.end)) chosen in
    let over_is = c.is_over.ensures in
    let goes : c.in_ok-sink_line.field-0 ≡ true = search rules in
    let reported = rw goes at c.in_ok-sink_line.ensures.reported in
    let over = ap (λ p. is_over c.args.self.now.config p (chooses c.in-Ok-judge.verdict)) (sym next)
    ∙ (ap (is_over c.args.self.now.config c.after_line.result) (sym chosen)
    ∙ rw over_is at c.if-is_over.true) in
    rw next (
      all_true,
      λ gone input first so_far.
          let call = reached g (goal.at.returns-then-is_over-clause-ends g c).After-known_at-known
          lawful _ _ _ so_far in
          (uncounted.line-comes c.args.self.now.bare call c.in-Some-line_end.ensures.within.1
          (decided call.agrees)
          all_true _ (reported gone input (uncounted.inside-counted call.here))).0 over,
    )

pub lines-preserved : goal.lines-preserved
lines-preserved g c =
    let learns = c.in-Ok.ensures.known in
    let decided = c.in-Ok-judge.ensures.decided in
    let chosen = c.is_chosen-chosen.ensures in
    let next = c.after_line.ensures
    ∙ ap (after_line c.args.self.now.config c.skip_unmatched-start.new.walk
    (slice_range c.args.window.now c.skip_unmatched-start.result c.in-Some-line_end.end)) chosen in
    let over_is = c.is_over.ensures in
    let goes : c.in_ok-sink_line.field-0 ≡ true = search rules in
    let reported = rw goes at c.in_ok-sink_line.ensures.reported in
    let here = rw goes at c.in_ok-sink_line.ensures.called in
    let on = ap (λ p. is_over c.args.self.now.config p (chooses c.in-Ok-judge.verdict)) (sym next)
    ∙ (ap (is_over c.args.self.now.config c.after_line.result) (sym chosen)
    ∙ rw over_is at c.if-is_over.false) in
    let size = length-take (c.in-Some-line_end.end - c.skip_unmatched-start.result)
    (drop c.skip_unmatched-start.result c.args.window.now) in
    rw next (record {
      within = c.in-Some-line_end.ensures.within.1;
      same = omega (
        arith,
        size,
        length-drop c.skip_unmatched-start.result c.args.window.now,
        c.in-Some-line_end.ensures.within.0,
        c.in-Some-line_end.ensures.within.1,
        c.skip_unmatched-start.ensures.moved,
        c.lines.invariant.same,
      );
      ahead = omega (
        arith,
        c.lines.invariant.ahead,
        c.skip_unmatched-start.ensures.low,
        c.in-Some-line_end.ensures.within.0,
      );
      ordered = ordered-next c.args.self.now.config _ c.skip_unmatched-start.result
          c.in-Some-line_end.end c.args.window.now
          (chooses c.in-Ok-judge.verdict) c.in-Some-line_end.ensures.within.0 c.in-Some-line_end.ensures.within.1
          c.skip_unmatched-start.ensures.ordered;
      bounded = c.in-Ok.ensures.bounded;
      pending = search rules;
      further = c.lines.invariant.further;
      known = λ lawful gone input first so_far.
          let now = c.lines.invariant.searched lawful gone input first so_far in
          skips.known-later _ _ _ _
          _ _ (omega (arith, c.skip_unmatched-start.ensures.low, c.in-Some-line_end.ensures.within.0))
          (learns lawful _ now.walked.inside.line.begins
          (c.lines.invariant.known lawful gone input first so_far));
      searched = λ lawful gone input first so_far.
          let call = reached g (goal.at.lines-preserved g c).After-known_at-known lawful _ _ _
          so_far in
          (uncounted.line-comes c.args.self.now.bare call c.in-Some-line_end.ensures.within.1
          (decided call.agrees)
          all_true _ (reported gone input (uncounted.inside-counted call.here))).1 on;
      called = called-then _ _ _ _ _ _ (called g (goal.at.lines-preserved g c).After-known_at-known) (here 0);
      may_call = c.in_ok-sink_line.ensures.may_call;
    })

pub returns-in-Err-clause-in_order : goal.returns-in-Err-clause-in_order
returns-in-Err-clause-in_order g c =
    of_question _ c.in-Err.error c.in-Err.ensures.fault c.error_message.ensures
    c.lines.invariant.called

pub returns-in-Err-judge-clause-in_order : goal.returns-in-Err-judge-clause-in_order
returns-in-Err-judge-clause-in_order g c =
    of_question _ c.in-Err-judge.error c.in-Err-judge.ensures.fault
    c.error_message-in-Err-judge.ensures (called g (goal.at.returns-in-Err-judge-clause-in_order g c).After-known_at-known)

pub returns-in_err-sink_line-clause-in_order : goal.returns-in_err-sink_line-clause-in_order
returns-in_err-sink_line-clause-in_order g c =
    let p = err_from_is_err_and c.from_residual-in_err-sink_line.result c.from_residual-in_err-sink_line.ensures.1 in
    rw (p.1, p.2) (of_call (called-then _ _ _ _ _
    _ (called g (goal.at.returns-in_err-sink_line-clause-in_order g c).After-known_at-known) (c.in_err-sink_line.ensures.called 0)))

pub returns-then-not-branch-clause-in_order : goal.returns-then-not-branch-clause-in_order
returns-then-not-branch-clause-in_order g c =
    let stops : c.in_ok-sink_line.field-0 ≡ false = search rules in
    let here = rw stops at c.in_ok-sink_line.ensures.called in
    record {
      outcome = stopped (counted (c.skip_unmatched-start.new.walk.offset + length
          (slice_range c.args.window.now c.skip_unmatched-start.result c.in-Some-line_end.end)));
      ends = refl;
      called = called-then _ _ _ _ _ _ (called g (goal.at.returns-then-not-branch-clause-in_order g c).After-known_at-known) (here _);
    }

pub returns-then-is_over-clause-in_order : goal.returns-then-is_over-clause-in_order
returns-then-is_over-clause-in_order g c =
    let goes : c.in_ok-sink_line.field-0 ≡ true = search rules in
    let here = rw goes at c.in_ok-sink_line.ensures.called in
    record {
      outcome = all_true;
      ends = tt;
      called = called-then _ _ _ _ _ _ (called g (goal.at.returns-then-is_over-clause-in_order g c).After-known_at-known) (here 0);
    }

pub returns-in_err-sink_chosen_lines-clause-fault :
    goal.returns-in_err-sink_chosen_lines-clause-fault
returns-in_err-sink_chosen_lines-clause-fault g c =
    let p = err_from_is_err_and c.from_residual.result c.from_residual.ensures.1 in
    let failed-at = c.in_err-sink_chosen_lines.ensures.error in
    rw (p.1, p.2) (λ lawful gone input first so_far. at_call (chosen g
    (goal.at.returns-in_err-sink_chosen_lines-clause-fault g c).After-sink_chosen_lines lawful gone
    input first so_far failed-at.0 failed-at.1 (failed _) _ failed-at.2))

pub returns-in_err-sink_chosen_lines-clause-in_order :
    goal.returns-in_err-sink_chosen_lines-clause-in_order
returns-in_err-sink_chosen_lines-clause-in_order g c =
    let p = err_from_is_err_and c.from_residual.result c.from_residual.ensures.1 in
    rw (p.1, p.2) (of_call (called-then _ _ _ _ _ _ c.lines.invariant.called
    (called-matches _ _ _ _ _ _ _ _ _ c.in_err-sink_chosen_lines.ensures.error.2)))

-- the lines that the sink took
taken : (g : Over) (c : In-Taken g)
    → IsOffered c.args.self.now.config (g.M.Matcher.facts c.args.matcher.now) c.args.window.now
    c.skip_unmatched-start.result c.in-Ok.ahead c.skip_unmatched-start.new.walk
    c.sink_chosen_lines.new.failure g.S.Sink.step c.lines.sink (Taken c.in-Taken.lines)
    c.sink_chosen_lines.new.sink
taken g c = subst (λ offered. IsOffered c.args.self.now.config
    (g.M.Matcher.facts c.args.matcher.now) c.args.window.now c.skip_unmatched-start.result
    c.in-Ok.ahead c.skip_unmatched-start.new.walk c.sink_chosen_lines.new.failure
    g.S.Sink.step c.lines.sink offered c.sink_chosen_lines.new.sink) c.in-Taken.is
    c.in_ok-sink_chosen_lines.ensures.offered

-- those that it declined
declined : (g : Over) (c : In-Declined g)
    → IsOffered c.args.self.now.config (g.M.Matcher.facts c.args.matcher.now) c.args.window.now
    c.skip_unmatched-start.result c.in-Ok.ahead c.skip_unmatched-start.new.walk
    c.sink_chosen_lines.new.failure g.S.Sink.step c.lines.sink (Declined c.in-Declined.lines)
    c.sink_chosen_lines.new.sink
declined g c = subst (λ offered. IsOffered c.args.self.now.config
    (g.M.Matcher.facts c.args.matcher.now) c.args.window.now c.skip_unmatched-start.result
    c.in-Ok.ahead c.skip_unmatched-start.new.walk c.sink_chosen_lines.new.failure
    g.S.Sink.step c.lines.sink offered c.sink_chosen_lines.new.sink) c.in-Declined.is
    c.in_ok-sink_chosen_lines.ensures.offered

-- the calls that report these one by one
one-by-one : (g : Over) (c : After-sink_one_by_one g)
    → AreMade g.S.Sink.step c.args.self.now.config c.lines.sink
    (chosen_calls c.args.self.now.config c.args.window.now c.skip_unmatched-start.result
    c.in-Declined.lines.end c.skip_unmatched-start.new.walk)
    (outcome_at c.sink_one_by_one.result) c.sink_one_by_one.new.sink
one-by-one g c =
    let same : c.sink_chosen_lines.new.sink ≡ c.lines.sink = search rules in
    rw same at c.sink_one_by_one.ensures.reported

pub returns-in_err-offset-in-Declined-clause-fault : goal.returns-in_err-offset-in-Declined-clause-fault
returns-in_err-offset-in-Declined-clause-fault g c =
    let there = goal.at.returns-in_err-offset-in-Declined-clause-fault g c in
    let p = err_from_is_err_and c.from_residual-in_err-offset-in-Declined.result
    c.from_residual-in_err-offset-in-Declined.ensures.1 in
    let told = declined g there.In-Declined in
    let fails : c.sink_one_by_one.result ≡ Err c.in_err-offset-in-Declined.field-0.0 = search rules in
    let made = rw fails at (one-by-one g there.After-sink_one_by_one) in
    rw (p.1, p.2) (λ lawful gone input first so_far. at_call (chosen g there.After-sink_chosen_lines
    lawful gone input first so_far c.in-Declined.lines told.0.chosen (failed _) _ made))

pub returns-in_err-offset-in-Declined-clause-in_order :
    goal.returns-in_err-offset-in-Declined-clause-in_order
returns-in_err-offset-in-Declined-clause-in_order g c =
    let there = goal.at.returns-in_err-offset-in-Declined-clause-in_order g c in
    let p = err_from_is_err_and c.from_residual-in_err-offset-in-Declined.result
    c.from_residual-in_err-offset-in-Declined.ensures.1 in
    let fails : c.sink_one_by_one.result ≡ Err c.in_err-offset-in-Declined.field-0.0 = search rules in
    let made = rw fails at (one-by-one g there.After-sink_one_by_one) in
    rw (p.1, p.2) (of_call (called-then _ _ _ _ _ _ c.lines.invariant.called
    (called-matches _ _ _ _ _ _ _ _ _ made)))

pub returns-in-Some-clause-ends : goal.returns-in-Some-clause-ends
returns-in-Some-clause-ends g c = λ lawful ends.
    let there = goal.at.returns-in-Some-clause-ends g c in
    let told = declined g there.In-Declined in
    let stops : c.sink_one_by_one.result ≡ Ok (Some c.in-Some.offset) = search rules in
    let made = rw stops at (one-by-one g there.After-sink_one_by_one) in (
      stopped (counted c.in-Some.offset),
      λ gone input first so_far. chosen g there.After-sink_chosen_lines lawful gone input first so_far
          c.in-Declined.lines told.0.chosen (stopped (counted c.in-Some.offset)) _ made,
    )

pub returns-in-Some-clause-in_order : goal.returns-in-Some-clause-in_order
returns-in-Some-clause-in_order g c =
    let there = goal.at.returns-in-Some-clause-in_order g c in
    let stops : c.sink_one_by_one.result ≡ Ok (Some c.in-Some.offset) = search rules in
    let made = rw stops at (one-by-one g there.After-sink_one_by_one) in record {
      outcome = stopped (counted c.in-Some.offset);
      ends = refl;
      called = called-then _ _ _ _ _ _ c.lines.invariant.called
          (called-matches _ _ _ _ _ _ _ _ _ made);
    }

pub lines-preserved-in-Taken : goal.lines-preserved-in-Taken
lines-preserved-in-Taken g c =
    let there = goal.at.lines-preserved-in-Taken g c in
    let told = taken g there.In-Taken in
    let some = told.0.chosen in
    let size = length-take (c.in-Taken.lines.end - c.skip_unmatched-start.result)
    (drop c.skip_unmatched-start.result c.args.window.now) in
    let at = there.After-sink_chosen_lines in
    record {
      within = some.run.within;
      same = omega (
        arith,
        size,
        length-drop c.skip_unmatched-start.result c.args.window.now,
        some.run.some,
        some.run.within,
        c.skip_unmatched-start.ensures.moved,
        c.lines.invariant.same,
        ap (λ (w : Walk). w.offset) c.after_chosen.ensures.walk,
      );
      ahead = omega (
        arith,
        c.lines.invariant.ahead,
        c.skip_unmatched-start.ensures.low,
        some.run.some,
      );
      ordered = c.after_chosen.ensures.ordered;
      bounded = some.run.bounded;
      pending = failed-after _ _ _ _ _ _ c.after_chosen.result _ _ told.0;
      further = c.questions_after_chosen-many.ensures (g.M.Matcher.facts c.args.matcher.now).meaning
          c.requires.questions;
      known = λ lawful gone input first so_far.
          let now = here g at lawful gone input first so_far in
          (some.run.alike lawful _ now.0.walked.inside.line.begins now.1).known;
      searched = λ lawful gone input first so_far. subst (λ w. HasSearched g.S.Sink.step
          c.args.self.now.config (g.M.Matcher.facts c.args.matcher.now).meaning gone
          c.args.window.now input first c.in-Taken.lines.end w c.sink_chosen_lines.new.sink)
          (sym c.after_chosen.ensures.walk)
          (chosen g at lawful gone input first so_far c.in-Taken.lines some all_true _ told.1);
      called = called-then _ _ _ _ _ _ c.lines.invariant.called
          (called-matches _ _ _ _ _ _ _ _ _ told.1);
      may_call = c.sink_chosen_lines.ensures.may_call;
    }

pub lines-preserved-in-Declined : goal.lines-preserved-in-Declined
lines-preserved-in-Declined g c =
    let there = goal.at.lines-preserved-in-Declined g c in
    let told = declined g there.In-Declined in
    let all : c.sink_one_by_one.result ≡ Ok None = search rules in
    let made = rw all at (one-by-one g there.After-sink_one_by_one) in
    let some = told.0.chosen in
    let size = length-take (c.in-Declined.lines.end - c.skip_unmatched-start.result)
    (drop c.skip_unmatched-start.result c.args.window.now) in
    let at = there.After-sink_chosen_lines in
    record {
      within = some.run.within;
      same = omega (
        arith,
        size,
        length-drop c.skip_unmatched-start.result c.args.window.now,
        some.run.some,
        some.run.within,
        c.skip_unmatched-start.ensures.moved,
        c.lines.invariant.same,
        ap (λ (w : Walk). w.offset) c.after_chosen-in-Declined.ensures.walk,
      );
      ahead = omega (
        arith,
        c.lines.invariant.ahead,
        c.skip_unmatched-start.ensures.low,
        some.run.some,
      );
      ordered = c.after_chosen-in-Declined.ensures.ordered;
      bounded = some.run.bounded;
      pending = failed-after _ _ _ _ _ _ c.after_chosen-in-Declined.result _ _ told.0;
      further = tt;
      known = λ lawful gone input first so_far.
          let now = here g at lawful gone input first so_far in
          (some.run.alike lawful _ now.0.walked.inside.line.begins now.1).known;
      searched = λ lawful gone input first so_far. subst (λ w. HasSearched g.S.Sink.step
          c.args.self.now.config (g.M.Matcher.facts c.args.matcher.now).meaning gone
          c.args.window.now input first c.in-Declined.lines.end w c.sink_one_by_one.new.sink)
          (sym c.after_chosen-in-Declined.ensures.walk)
          (chosen g at lawful gone input first so_far c.in-Declined.lines some all_true _ made);
      called = called-then _ _ _ _ _ _ c.lines.invariant.called
          (called-matches _ _ _ _ _ _ _ _ _ made);
      may_call = c.sink_one_by_one.ensures.may_call;
    }

pub lines-preserved-in-Some-passed_lines : goal.lines-preserved-in-Some-passed_lines
lines-preserved-in-Some-passed_lines g c =
    let passed = c.in-Some-passed_lines.ensures.passed in
    let at = (goal.at.lines-preserved-in-Some-passed_lines g c).After-sink_chosen_lines in
    let untaken : c.sink_chosen_lines.new.sink ≡ c.lines.sink = search rules in
    rw untaken (record {
      within = passed.run.within;
      same = omega (
        arith,
        passed.run.some,
        passed.run.within,
        c.skip_unmatched-start.ensures.moved,
        c.lines.invariant.same,
        ap (λ (w : Walk). w.offset) c.after_passed.ensures.walk,
      );
      ahead = omega (
        arith,
        c.lines.invariant.ahead,
        c.skip_unmatched-start.ensures.low,
        passed.run.some,
      );
      ordered = c.after_passed.ensures.ordered;
      bounded = passed.run.bounded;
      pending = subst (λ w. IfSome c.passed_lines.new.failure
          (HasFailedAt c.args.self.now.config (g.M.Matcher.facts c.args.matcher.now)
          c.args.window.now c.in-Some-passed_lines.lines.end w c.in-Some-passed_lines.lines.ahead))
          (sym c.after_passed.ensures.walk)
          (failed-past _ _ _ c.skip_unmatched-start.new.walk _ _ _ _ c.in-Some-passed_lines.ensures.failed);
      further = c.lines.invariant.further;
      known = λ lawful gone input first so_far.
          let now = here g at lawful gone input first so_far in
          (passed.run.alike lawful _ now.0.walked.inside.line.begins now.1).known;
      searched = λ lawful gone input first so_far.
          let now = here g at lawful gone input first so_far in
          subst (λ w. HasSearched g.S.Sink.step c.args.self.now.config
          (g.M.Matcher.facts c.args.matcher.now).meaning gone c.args.window.now input first
          c.in-Some-passed_lines.lines.end w c.lines.sink) (sym c.after_passed.ensures.walk)
          (uncounted.passed-on c.args.self.now.bare now.0 lawful now.1 passed);
      called = c.lines.invariant.called;
      may_call = c.lines.invariant.may_call;
    })
