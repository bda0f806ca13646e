use Rattle.std.proofs.Common.{rules, ◌≡◌, arith, sym, subst, refl, true, false, [], ◌-◌, drop}
use Rattle.std.proofs.Common.{length-take, length-drop}
use Rattle.std.proofs.lemmas.Result.{err_from_is_err_and}
use Rattle.grep_matcher.specs.Lines.{byte_of}
use Rattle.std.specs.Prelude.{slice_range}
use Rattle.grep_lines.specs.Positions.{IsLineStart}
use Rattle.grep_definitions.specs.Plans.{all_true, failed, stopped, counted}
use Rattle.grep_walk.specs.Walks.{line_end}
use Rattle.grep_walk.proofs.AcrossEndLemmas as ends
use Rattle.grep_walk.proofs.AcrossStepLemmas as steps
use Rattle.grep_walk.proofs.AcrossLoopLemmas as calls
use Rattle.grep_walk.proofs.AcrossUnitLemmas as units
use Rattle.grep_definitions.specs.CallOrder.{of_call, of_question}
use Rattle.grep_definitions.proofs.CallOrderLemmas.{called-none, called-then}
use Rattle.grep_searcher.proofs.search.Search.byte_count_of_units.Goals as goal

pub returns-in-Err-clause-fault : goal.returns-in-Err-clause-fault
returns-in-Err-clause-fault g c =
    let fault = c.in-Err.ensures.fault in
    λ first begun. ends.fault-first _ _ _ _ _ _ _
    begun _ _ _ fault.1 fault.2 c.error_message.ensures

pub returns-in-Err-unit_at-clause-fault : goal.returns-in-Err-unit_at-clause-fault
returns-in-Err-unit_at-clause-fault g c =
    let fault = c.in-Err-unit_at.ensures.fault in
    λ first begun. ends.fault-matcher _ _ _ _ _ first _
    _ c.lines.invariant.walk (c.lines.invariant.reported first begun)
    _ _ _ fault.1 c.in-Err-unit_at.ensures.open fault.2 c.error_message-in-Err-unit_at.ensures

pub returns-then-next-bytes-clause-reported : goal.returns-then-next-bytes-clause-reported
returns-then-next-bytes-clause-reported g c = λ first begun.
    let k = c.args.self.now.config in
    let at = subst (λ o. IsLineStart (byte_of k.line_terminator) c.args.bytes.now o
    c.lines.walk.line) c.lines.invariant.same c.lines.invariant.walk.placed.at in
    let next = subst (units.IsNext k (g.M.Matcher.facts c.args.matcher.now).meaning c.args.bytes.now
    c.lines.walk c.lines.start) (sym c.next_chosen-next.ensures)
    (units.next-is c.lines.invariant.walk at c.in-Ok-unit_at.ensures.ready c.lines-test.true
    c.in-Ok-unit_at.ensures.ahead) in
    let plain : k.passthru ≡ false = search rules in (
      all_true,
      ends.counted-past k _ _ _ first _ _ _
          c.lines.invariant.same c.lines.invariant.walk next c.if-next-bytes.true plain
          c.if-walk-eq0.true _ (c.lines.invariant.reported first begun),
    )

pub lines-preserved-then-walk-eq0 : goal.lines-preserved-then-walk-eq0
lines-preserved-then-walk-eq0 g c =
    let k = c.args.self.now.config in
    let past = c.skip_lines-walk.ensures.walk in
    let at = subst (λ o. IsLineStart (byte_of k.line_terminator) c.args.bytes.now o
    c.lines.walk.line) c.lines.invariant.same c.lines.invariant.walk.placed.at in
    let next = subst (units.IsNext k (g.M.Matcher.facts c.args.matcher.now).meaning c.args.bytes.now
    c.lines.walk c.lines.start) (sym c.next_chosen-next.ensures)
    (units.next-is c.lines.invariant.walk at c.in-Ok-unit_at.ensures.ready c.lines-test.true
    c.in-Ok-unit_at.ensures.ahead) in
    let plain : k.passthru ≡ false = search rules in
    rw past (record {
      within = next.within;
      same = omega (
        arith,
        c.lines.invariant.same,
        next.from,
        next.within,
        length-take (c.next_chosen-next.result - c.lines.start)
            (drop c.lines.start c.args.bytes.now),
        length-drop c.lines.start c.args.bytes.now,
      );
      ordered = rw past at c.skip_lines-walk.ensures.ordered;
      ready = units.ready-past
          c.lines.invariant.walk at c.in-Ok-unit_at.ensures.ready c.lines-test.true
          c.in-Ok-unit_at.ensures.ahead _ c.next_chosen-next.result c.next_chosen-next.ensures refl;
      walk = steps.across-past c.lines.invariant.same
          c.lines.invariant.walk next plain c.if-walk-eq0.true;
      reported = c.lines.invariant.reported;
      called = c.lines.invariant.called;
      may_call = c.lines.invariant.may_call;
    })

pub returns-in_err-sink_line-clause-fault : goal.returns-in_err-sink_line-clause-fault
returns-in_err-sink_line-clause-fault g c =
    let k = c.args.self.now.config in
    let reported = rw (c.of-verdict.ensures.chosen, c.of-verdict.ensures.trailing) at
    c.in_err-sink_line.ensures.reported in
    let p = err_from_is_err_and c.from_residual.result c.from_residual.ensures.1 in
    let reportable = calls.reportable c.args.self.now.bare c.lines.invariant.walk
    c.lines.invariant.same
    c.in-Ok-unit_at.ensures.ready c.in-Ok-unit_at.ensures.ahead c.next_chosen-next.ensures
    c.end_across-end.ensures.low
    c.end_across-end.ensures.within _ refl c.end_across-end.ensures.unit
    c.end_across-end.ensures.line in
    rw (p.1, p.2) (λ first begun. ends.fault-sink _ _ _ k _ first _ _ _ reportable.across
    (ends.reported-next k (g.M.Matcher.facts c.args.matcher.now).meaning _ g.S.Sink.step first
    c.lines.walk _ _ c.lines.sink reportable.front
    (c.lines.invariant.reported first begun) (failed _) _ (reported [] c.args.bytes.now
    (λ _. calls.in-window k _ _ _ _ c.lines.invariant.same c.lines.invariant.walk))))

pub returns-then-not-branch-clause-reported : goal.returns-then-not-branch-clause-reported
returns-then-not-branch-clause-reported g c = λ first begun.
    let k = c.args.self.now.config in
    let stops : c.in_ok-sink_line.field-0 ≡ false = search rules in
    let reported = rw (c.of-verdict.ensures.chosen, c.of-verdict.ensures.trailing, stops) at
    c.in_ok-sink_line.ensures.reported in
    let reportable = calls.reportable c.args.self.now.bare c.lines.invariant.walk
    c.lines.invariant.same
    c.in-Ok-unit_at.ensures.ready c.in-Ok-unit_at.ensures.ahead c.next_chosen-next.ensures
    c.end_across-end.ensures.low
    c.end_across-end.ensures.within _ refl c.end_across-end.ensures.unit
    c.end_across-end.ensures.line in
    let stop = line_end c.lines.walk
    (slice_range c.args.bytes.now c.lines.start c.end_across-end.result) in (
      stopped (counted stop),
      ends.counted-stopped k _ _ _ first _ _ _ _ reportable.across (sym reportable.end_is)
          (ends.reported-next k (g.M.Matcher.facts c.args.matcher.now).meaning _ g.S.Sink.step
          first c.lines.walk _ _ c.lines.sink reportable.front
          (c.lines.invariant.reported first begun) (stopped (counted stop)) _
          (reported [] c.args.bytes.now (λ _. calls.in-window k _ _ _ _ c.lines.invariant.same
          c.lines.invariant.walk))),
    )

pub lines-preserved : goal.lines-preserved
lines-preserved g c =
    let k = c.args.self.now.config in
    let after = c.after_lines-walk.ensures in
    let goes : c.in_ok-sink_line.field-0 ≡ true = search rules in
    let reported = rw (c.of-verdict.ensures.chosen, c.of-verdict.ensures.trailing, goes) at
    c.in_ok-sink_line.ensures.reported in
    let here = rw goes at c.in_ok-sink_line.ensures.called in
    let reportable = calls.reportable c.args.self.now.bare c.lines.invariant.walk
    c.lines.invariant.same
    c.in-Ok-unit_at.ensures.ready c.in-Ok-unit_at.ensures.ahead c.next_chosen-next.ensures
    c.end_across-end.ensures.low
    c.end_across-end.ensures.within _ refl c.end_across-end.ensures.unit
    c.end_across-end.ensures.line in
    rw after (record {
      within = c.end_across-end.ensures.within;
      same = reportable.offset;
      ordered = calls.ordered-across k _ _ _ reportable.across;
      ready = reportable.ready;
      walk = reportable.across;
      reported = λ first begun. ends.reported-next k (g.M.Matcher.facts c.args.matcher.now).meaning
          _ g.S.Sink.step first c.lines.walk _ _ c.lines.sink
          reportable.front (c.lines.invariant.reported first begun) all_true _
          (reported [] c.args.bytes.now (λ _. calls.in-window k _ _ _ _ c.lines.invariant.same
          c.lines.invariant.walk));
      called = called-then _ k _ _ _ _ c.lines.invariant.called (here 0);
      may_call = c.in_ok-sink_line.ensures.may_call;
    })

pub returns-clause-reported : goal.returns-clause-reported
returns-clause-reported g c = λ first begun. (
  all_true,
  ends.counted-end _ _ _ _ first _ _ c.lines.invariant.walk
      (omega (arith, c.lines.invariant.within, c.lines.invariant.same, c.lines-test.false))
      (c.lines.invariant.reported first begun),
)

pub returns-in-Err-clause-in_order : goal.returns-in-Err-clause-in_order
returns-in-Err-clause-in_order g c =
    of_question _ c.in-Err.error c.in-Err.ensures.fault.2 c.error_message.ensures
    (called-none _ _ _)

pub returns-in-Err-unit_at-clause-in_order : goal.returns-in-Err-unit_at-clause-in_order
returns-in-Err-unit_at-clause-in_order g c =
    of_question _ c.in-Err-unit_at.error c.in-Err-unit_at.ensures.fault.2
    c.error_message-in-Err-unit_at.ensures c.lines.invariant.called

pub returns-then-next-bytes-clause-in_order : goal.returns-then-next-bytes-clause-in_order
returns-then-next-bytes-clause-in_order g c = record {
  outcome = all_true;
  ends = tt;
  called =
      c.lines.invariant.called;
}

pub returns-in_err-sink_line-clause-in_order : goal.returns-in_err-sink_line-clause-in_order
returns-in_err-sink_line-clause-in_order g c =
    let p = err_from_is_err_and c.from_residual.result c.from_residual.ensures.1 in
    rw (p.1, p.2) (of_call (called-then _ _ _ _ _
    _ c.lines.invariant.called (c.in_err-sink_line.ensures.called 0)))

pub returns-then-not-branch-clause-in_order : goal.returns-then-not-branch-clause-in_order
returns-then-not-branch-clause-in_order g c =
    let stops : c.in_ok-sink_line.field-0 ≡ false = search rules in
    let here = rw stops at c.in_ok-sink_line.ensures.called in
    record {
      outcome = stopped (counted c.end_across-end.result);
      ends = refl;
      called = called-then _ _ _ _ _ _ c.lines.invariant.called (here c.end_across-end.result);
    }

pub returns-clause-in_order : goal.returns-clause-in_order
returns-clause-in_order g c = record {
  outcome = all_true;
  ends = tt;
  called = c.lines.invariant.called;
}
