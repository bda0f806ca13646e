use Rattle.std.proofs.Common.{rules, arith, ◌≡◌, ◌-◌, subst, drop, length-take, length-drop, true}
use Rattle.std.proofs.Common.{false}
use Rattle.std.proofs.lemmas.Result.{err_from_is_err_and}
use Rattle.grep_definitions.specs.LineCalls.{pending_calls}
use Rattle.grep_definitions.specs.Plans.{AreMade, all_true, stopped, failed, counted}
use Rattle.grep_walk.proofs.BeforeContextLemmas as before
use Rattle.grep_walk.proofs.WindowLemmas as windows
use Rattle.grep_definitions.proofs.CallOrderLemmas.{called-before, called-then}
use Rattle.grep_searcher.proofs.search.Search.sink_before_lines.Goals as goal

pub returns-in_err-sink_before_line-clause-reported :
    goal.returns-in_err-sink_before_line-clause-reported
returns-in_err-sink_before_line-clause-reported g c =
    let p = err_from_is_err_and c.from_residual.result c.from_residual.ensures.1 in
    let line = c.in-Some.ensures.line in
    rw (p.1, p.2) (λ gone input inside from end.
    let k = c.args.self.now.config in
    let window = c.args.window.now in
    let w = c.args.walk.now in
    before.window-ended k _ _ _ w _ inside end g.S.Sink.step c.args.sink.now c.loop-at.sink
    c.sink_before_line.new.sink
    c.args.index _ _ _ c.loop-at.offset (c.loop-at.invariant.at gone from) line
    c.loop-at.invariant.same c.loop-at.invariant.low
    (c.loop-at.invariant.reported gone input inside from end)
    (failed _) (c.in_err-sink_before_line.ensures.reported end) c.loop-at-test.true (λ x. cc))

pub returns-then-not-branch-clause-reported : goal.returns-then-not-branch-clause-reported
returns-then-not-branch-clause-reported g c =
    let stops : c.in_ok-sink_before_line.field-0 ≡ false = search rules in
    let here = rw stops at c.in_ok-sink_before_line.ensures.reported in
    let line = c.in-Some.ensures.line in
    λ gone input inside from end.
    let k = c.args.self.now.config in
    let window = c.args.window.now in
    let w = c.args.walk.now in
    before.window-ended k _ _ _ w _ inside end g.S.Sink.step c.args.sink.now c.loop-at.sink
    c.sink_before_line.new.sink _ _ _ _ _ (c.loop-at.invariant.at gone from) line
    c.loop-at.invariant.same c.loop-at.invariant.low
    (c.loop-at.invariant.reported gone input inside from end)
    (stopped (counted end)) (here end) c.loop-at-test.true (λ x. cc)

pub returns-in_default-clause-reported : goal.returns-in_default-clause-reported
returns-in_default-clause-reported g c = λ gone input inside from end.
    let last = c.in_default.ensures.last in
    before.window-short _ _ _ _ _ _ inside g.S.Sink.step c.args.sink.now
    c.loop-at.sink _ all_true _ _ (c.loop-at.invariant.at gone from) last c.loop-at-test.true

pub returns-clause-reported : goal.returns-clause-reported
returns-clause-reported g c = λ gone input inside from end.
    let w = c.args.walk.now in
    let all : c.loop-at.at ≡ w.line =
    omega (arith, c.loop-at.invariant.below, c.loop-at-test.false) in
    subst (λ m. AreMade g.S.Sink.step c.args.self.now.config c.args.sink.now
    (pending_calls c.args.self.now.config input w.next_unreported w.line end c.args.index
    (m - c.args.index)) all_true c.loop-at.sink) all
    (c.loop-at.invariant.reported gone input inside from end)

pub loop-at-preserved : goal.loop-at-preserved
loop-at-preserved g c =
    let k = c.args.self.now.config in
    let window = c.args.window.now in
    let w = c.args.walk.now in
    let goes : c.in_ok-sink_before_line.field-0 ≡ true = search rules in
    let here = rw goes at c.in_ok-sink_before_line.ensures.reported in
    let line = c.in-Some.ensures.line in
    record {
      inside = c.in-Some.ensures.within.1;
      same = omega (
        arith,
        length-take (c.in-Some.next - c.loop-at.position) (drop c.loop-at.position window),
        length-drop c.loop-at.position window,
        c.in-Some.ensures.within.0,
        c.in-Some.ensures.within.1,
        c.loop-at.invariant.same,
      );
      low = omega (arith, c.loop-at.invariant.low);
      below = omega (arith, c.loop-at-test.true);
      at = λ gone from. windows.next-line k _ _ window _ _ _
          (c.loop-at.invariant.at gone from) line;
      reported = λ gone input inside from end. before.window-more k _ _ _ w _ inside end
          g.S.Sink.step c.args.sink.now c.loop-at.sink c.sink_before_line.new.sink _ _ _ _ _
          (c.loop-at.invariant.at gone from) line c.loop-at.invariant.same c.loop-at.invariant.low
          (c.loop-at.invariant.reported gone input inside from end) all_true (here end);
      called = called-then _ k _ _ _ _ c.loop-at.invariant.called (called-before _ k _ _ _ _
          _ 0 _ _ _ _ (here 0));
      may_call = c.in_ok-sink_before_line.ensures.may_call;
    }

pub returns-in_err-sink_before_line-clause-called :
    goal.returns-in_err-sink_before_line-clause-called
returns-in_err-sink_before_line-clause-called g c =
    let p = err_from_is_err_and c.from_residual.result c.from_residual.ensures.1 in
    rw (p.1, p.2) (λ end. called-then _ _ _ _ _ _ c.loop-at.invariant.called (called-before _ _
    _ _ _ _ _ end _ _ _ _ (c.in_err-sink_before_line.ensures.reported end)))

pub returns-then-not-branch-clause-called : goal.returns-then-not-branch-clause-called
returns-then-not-branch-clause-called g c = λ end.
    let stops : c.in_ok-sink_before_line.field-0 ≡ false = search rules in
    let here = rw stops at c.in_ok-sink_before_line.ensures.reported in
    called-then _ _ _ _ _ _ c.loop-at.invariant.called (called-before _ _ _ _ _ _ _ end _ _ _
    _ (here end))
