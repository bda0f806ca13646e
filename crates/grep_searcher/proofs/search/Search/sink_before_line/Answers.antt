use Rattle.std.proofs.Common.{rules, ◌≡◌, ◌-◌, ℕ, true, false}
use Rattle.std.proofs.lemmas.Bool.{le-leb}
use Rattle.grep_definitions.specs.Plans.{AreMade, stopped, counted}
use Rattle.grep_definitions.specs.LineCalls.{before_calls, breaks_near}
use Rattle.grep_definitions.specs.SearchLaws.{number_of}
use Rattle.grep_definitions.specs.SinkRuns.{outcome_of}
use Rattle.grep_definitions.proofs.SinkRunLemmas.{AreMade-broken, AreMade-unbroken}
use Rattle.grep_searcher.proofs.search.Search.sink_before_line.Given.{Over}
use Rattle.grep_searcher.proofs.search.Search.sink_before_line.Goals as goal
use Rattle.grep_searcher.proofs.search.Search.sink_before_line.Goals.{After-sink_context}

pub returns-then-not-branch-clause-reported : goal.returns-then-not-branch-clause-reported
returns-then-not-branch-clause-reported g c =
    let w = c.args.walk.now in
    let gap = c.breaks_before-has_break.ensures in
    let near = le-leb (w.line - c.args.index) c.args.self.now.config.before_context
    c.requires.near in
    let stops : c.in_ok-sink_break.field-0 ≡ false = search rules in
    let reported = rw (stops, gap) at c.in_ok-sink_break.ensures.reported in
    rw near (λ end. AreMade-unbroken g.S.Sink.step c.args.self.now.config _ _ end c.args.sink.now
    (stopped (counted end)) c.sink_break.new.sink (λ x. cc) (reported end))

-- the calls for the line, after its break
line-made : (g : Over) (c : After-sink_context g) (end : ℕ)
    → AreMade g.S.Sink.step c.args.self.now.config c.args.sink.now
    (before_calls c.args.self.now.config c.args.walk.now.next_unreported c.args.index
    c.args.walk.now.line (number_of c.args.self.now.config c.args.index) c.args.offset end
    c.args.line.now) (outcome_of end c.sink_context.result) c.sink_context.new.sink
line-made g c =
    let w = c.args.walk.now in
    let gap = c.breaks_before-has_break.ensures in
    let near = le-leb (w.line - c.args.index) c.args.self.now.config.before_context
    c.requires.near in
    let goes : c.in_ok-sink_break.field-0 ≡ true = search rules in
    let reported = rw (goes, gap) at c.in_ok-sink_break.ensures.reported in
    rw near (λ end. AreMade-broken g.S.Sink.step _ (breaks_near c.args.self.now.config w.next_unreported
    c.args.index w.line) _ end c.args.sink.now _ _ _ (reported end) c.sink_context.ensures.step)

pub returns-in-Ok-clause-reported : goal.returns-in-Ok-clause-reported
returns-in-Ok-clause-reported g c = rw c.in-Ok.is at
    (line-made g (goal.at.returns-in-Ok-clause-reported g c).After-sink_context)

pub returns-in-Err-clause-reported : goal.returns-in-Err-clause-reported
returns-in-Err-clause-reported g c = rw c.in-Err.is at
    (line-made g (goal.at.returns-in-Err-clause-reported g c).After-sink_context)
