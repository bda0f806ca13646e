use Rattle.std.proofs.Common.{rules, ◌≡◌, ◌&&◌, true, false}
use Rattle.std.specs.Prelude.{nat_lt}
use Rattle.grep_definitions.specs.Plans.{stopped, counted}
use Rattle.grep_definitions.specs.LineCalls.{breaks_near}
use Rattle.grep_definitions.proofs.SinkRunLemmas.{AreMade-broken, AreMade-unbroken}
use Rattle.grep_searcher.proofs.search.Search.sink_matched.Goals as goal

pub returns-then-not-branch-clause-reported : goal.returns-then-not-branch-clause-reported
returns-then-not-branch-clause-reported g c =
    let w = c.args.walk.now in
    let gap = c.breaks_before_match-has_break.ensures in
    let stops : c.in_ok-sink_break.field-0 ≡ false = search rules in
    let reported = rw (stops, gap) at c.in_ok-sink_break.ensures.reported in
    λ stop. AreMade-unbroken g.S.Sink.step c.args.self.now.config _ _ stop
    c.args.sink.now (stopped (counted stop)) c.sink_break.new.sink (λ x. cc) (reported stop)

pub returns-in-Ok-clause-reported : goal.returns-in-Ok-clause-reported
returns-in-Ok-clause-reported g c =
    let w = c.args.walk.now in
    let gap = c.breaks_before_match-has_break.ensures in
    let goes : c.in_ok-sink_break.field-0 ≡ true = search rules in
    let reported = rw (goes, gap) at c.in_ok-sink_break.ensures.reported in
    let found = c.found-found.ensures in
    let step = rw (c.args.self.now.same, found.number, found.offset, found.bytes, found.around)
    at c.in-Ok.ensures.step in
    λ stop. AreMade-broken g.S.Sink.step _ (nat_lt 0 c.args.self.now.config.after_context
    && breaks_near c.args.self.now.config w.next_unreported w.line w.line) _ stop
    c.args.sink.now _ _ _ (reported stop) step

pub returns-in-Err-clause-reported : goal.returns-in-Err-clause-reported
returns-in-Err-clause-reported g c =
    let w = c.args.walk.now in
    let gap = c.breaks_before_match-has_break.ensures in
    let goes : c.in_ok-sink_break.field-0 ≡ true = search rules in
    let reported = rw (goes, gap) at c.in_ok-sink_break.ensures.reported in
    let found = c.found-found.ensures in
    let step = rw (c.args.self.now.same, found.number, found.offset, found.bytes, found.around)
    at c.in-Err.ensures.step in
    λ stop. AreMade-broken g.S.Sink.step _ (nat_lt 0 c.args.self.now.config.after_context
    && breaks_near c.args.self.now.config w.next_unreported w.line w.line) _ stop
    c.args.sink.now _ _ _ (reported stop) step
