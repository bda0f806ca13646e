use Rattle.std.proofs.Common.{rules, ◌≡◌, ◌-◌, true, false, refl, Ok, Err}
use Rattle.std.proofs.lemmas.Result.{err_from_is_err_and}
use Rattle.std.specs.Prelude.{slice_range}
use Rattle.grep_definitions.specs.LineCalls.{pending_calls, selected_calls}
use Rattle.grep_definitions.specs.Plans.{failed, stopped, counted}
use Rattle.grep_definitions.specs.SinkRuns.{outcome_of}
use Rattle.grep_definitions.proofs.SinkRunLemmas.{AreMade-append, AreMade-ended}
use Rattle.grep_walk.specs.Walks.{chooses, line_end}
use Rattle.grep_definitions.proofs.CallOrderLemmas.{called-match, called-one, called-then}
use Rattle.grep_searcher.specs.ReportedLines.{around_in}
use Rattle.grep_searcher.proofs.search.Search.sink_line.Goals as goal

pub returns-in_err-sink_before_context-clause-reported :
    goal.returns-in_err-sink_before_context-clause-reported
returns-in_err-sink_before_context-clause-reported g c =
    let w = c.args.walk.now in
    let chosen : chooses c.args.verdict ≡ true = search rules in
    let here = slice_range c.args.window.now c.args.start c.args.end in
    let stop = line_end w here in
    let p = err_from_is_err_and c.from_residual.result c.from_residual.ensures.1 in
    rw (p.1, p.2, chosen) (λ gone input inside. AreMade-ended g.S.Sink.step c.args.self.now.config
    (pending_calls c.args.self.now.config input w.next_unreported w.line stop w.next_unreported
    (w.line - w.next_unreported))
    (selected_calls c.args.self.now.config w.next_unreported w.line w.offset stop here
    (around_in c.args.reach c.args.window.now c.args.start c.args.end))
    c.args.sink.now (failed c.in_err-sink_before_context.field-0.0)
    c.sink_before_context.new.sink (λ e. cc) (c.in_err-sink_before_context.ensures.reported gone
    input inside stop))

pub returns-then-not-branch-clause-reported : goal.returns-then-not-branch-clause-reported
returns-then-not-branch-clause-reported g c =
    let w = c.args.walk.now in
    let chosen : chooses c.args.verdict ≡ true = search rules in
    let here = slice_range c.args.window.now c.args.start c.args.end in
    let stop = line_end w here in
    let stops : c.in_ok-sink_before_context.field-0 ≡ false = search rules in
    let reported = rw stops at c.in_ok-sink_before_context.ensures.reported in
    rw chosen (λ gone input inside. AreMade-ended g.S.Sink.step c.args.self.now.config
    (pending_calls c.args.self.now.config input w.next_unreported w.line stop w.next_unreported
    (w.line - w.next_unreported))
    (selected_calls c.args.self.now.config w.next_unreported w.line w.offset stop here
    (around_in c.args.reach c.args.window.now c.args.start c.args.end))
    c.args.sink.now (stopped (counted stop))
    c.sink_before_context.new.sink (λ e. cc) (reported gone input inside stop))

pub returns-in-Ok-clause-reported : goal.returns-in-Ok-clause-reported
returns-in-Ok-clause-reported g c =
    let w = c.args.walk.now in
    let chosen : chooses c.args.verdict ≡ true = search rules in
    let here = slice_range c.args.window.now c.args.start c.args.end in
    let stop = line_end w here in
    let goes : c.in_ok-sink_before_context.field-0 ≡ true = search rules in
    let reported = rw goes at c.in_ok-sink_before_context.ensures.reported in
    rw chosen (λ gone input inside. AreMade-append g.S.Sink.step c.args.self.now.config _
    _ c.args.sink.now c.sink_before_context.new.sink
    (outcome_of stop (Ok c.in-Ok.goes_on)) c.sink_matched.new.sink (reported gone input inside stop)
    (c.in-Ok.ensures.reported stop))

pub returns-in-Err-clause-reported : goal.returns-in-Err-clause-reported
returns-in-Err-clause-reported g c =
    let w = c.args.walk.now in
    let chosen : chooses c.args.verdict ≡ true = search rules in
    let here = slice_range c.args.window.now c.args.start c.args.end in
    let stop = line_end w here in
    let goes : c.in_ok-sink_before_context.field-0 ≡ true = search rules in
    let reported = rw goes at c.in_ok-sink_before_context.ensures.reported in
    rw chosen (λ gone input inside. AreMade-append g.S.Sink.step c.args.self.now.config _
    _ c.args.sink.now c.sink_before_context.new.sink
    (outcome_of stop (Err c.in-Err.error)) c.sink_matched.new.sink (reported gone input inside stop)
    (c.in-Err.ensures.reported stop))

pub returns-then-not-branch-clause-called : goal.returns-then-not-branch-clause-called
returns-then-not-branch-clause-called g c =
    let stops : c.in_ok-sink_before_context.field-0 ≡ false = search rules in
    rw stops at c.in_ok-sink_before_context.ensures.called

pub returns-in-Ok-clause-called : goal.returns-in-Ok-clause-called
returns-in-Ok-clause-called g c = λ stop.
    let w = c.args.walk.now in
    let goes : c.in_ok-sink_before_context.field-0 ≡ true = search rules in
    let first = rw goes at c.in_ok-sink_before_context.ensures.called in
    called-then _ _ _ _ _ _ (first stop) (called-match _ _ w.next_unreported w.line
    w.offset stop (slice_range c.args.window.now c.args.start c.args.end) _ _ _
    _ (c.in-Ok.ensures.reported stop))

pub returns-in-Err-clause-called : goal.returns-in-Err-clause-called
returns-in-Err-clause-called g c = λ stop.
    let w = c.args.walk.now in
    let goes : c.in_ok-sink_before_context.field-0 ≡ true = search rules in
    let first = rw goes at c.in_ok-sink_before_context.ensures.called in
    called-then _ _ _ _ _ _ (first stop) (called-match _ _ w.next_unreported w.line
    w.offset stop (slice_range c.args.window.now c.args.start c.args.end) _ _ _
    _ (c.in-Err.ensures.reported stop))

pub returns-in-Ok-sink_context-clause-called : goal.returns-in-Ok-sink_context-clause-called
returns-in-Ok-sink_context-clause-called g c = λ stop. called-one _ _ _ stop _ _
    _ c.in-Ok-sink_context.ensures.step refl refl

pub returns-in-Err-sink_context-clause-called : goal.returns-in-Err-sink_context-clause-called
returns-in-Err-sink_context-clause-called g c = λ stop. called-one _ _ _ stop _ _
    _ c.in-Err-sink_context.ensures.step refl refl
