use Rattle.std.proofs.Common.{◌≡◌, ◌+◌, ◌-◌, Err, Ok, false, true, ap, arith, drop}
use Rattle.std.proofs.Common.{length-take, refl, rules, subst, ◌∙◌}
use Rattle.std.specs.Prelude.{slice_range}
use Rattle.grep_definitions.specs.Plans.{all_true, failed, matches}
use Rattle.grep_definitions.specs.SearchLaws.{number_of}
use Rattle.grep_lines.specs.Positions.{IsLine}
use Rattle.grep_matcher.specs.Lines.{byte_of}
use Rattle.grep_report.specs.SinkReports.{no_surroundings}
use Rattle.grep_walk.specs.ChosenLines.{chosen_calls}
use Rattle.grep_searcher.proofs.ReportedLineLemmas.{Completes, completes-end, completes-last, completes-next}
use Rattle.grep_searcher.proofs.search.Search.sink_one_by_one.Given.{Over}
use Rattle.grep_searcher.proofs.search.Search.sink_one_by_one.Goals as goal
use Rattle.grep_searcher.proofs.search.Search.sink_one_by_one.Goals.{After-matched}

-- the call of the line that the loop is at
called : (g : Over) (c : After-matched g) → g.S.Sink.step c.lines.sink c.args.self.now.config
    (matches (number_of c.args.self.now.config c.lines.walk.line) c.lines.walk.offset
    (slice_range c.args.window.now c.lines.start (c.lines.start + c.in-Some.len)) no_surroundings)
    c.matched.result c.matched.new.self
called g c =
    let found = c.found-found.ensures in
    rw (c.args.self.now.same, found.number, found.offset, found.bytes, found.around) at c.matched.ensures.step

own : (g : Over) (c : After-matched g) → IsLine (byte_of c.args.self.now.config.line_terminator)
    (slice_range c.args.window.now c.lines.start c.args.end) 0 0 c.in-Some.len
own g c = c.in-Some.ensures.line 0 (record { listed = omega arith; begins = refl })

-- it returned true: the lines after it are left
left : (g : Over) (c : After-matched g) → c.matched.result ≡ Ok true
    → Completes g.S.Sink.step c.args.self.now.config c.args.window.now c.args.end
    c.args.sink.now
    (chosen_calls c.args.self.now.config c.args.window.now c.args.start c.args.end c.args.walk)
    c.matched.new.self (c.lines.start + c.in-Some.len) (c.lines.walk.line + 1)
    (c.lines.walk.offset + c.in-Some.len)
left g c goes =
    let made = called g c in
    completes-next g.S.Sink.step c.args.self.now.config c.args.window.now c.args.end
    c.args.sink.now
    (chosen_calls c.args.self.now.config c.args.window.now c.args.start c.args.end c.args.walk)
    c.lines.sink c.lines.start c.in-Some.len c.lines.walk.line c.lines.walk.offset
    c.lines.invariant.made c.requires.within (own g c) c.matched.new.self (rw goes at made)

pub returns-in-Ok-false-clause-reported : goal.returns-in-Ok-false-clause-reported
returns-in-Ok-false-clause-reported g c =
    let there = (goal.at.returns-in-Ok-false-clause-reported g c).After-matched in
    let made = called g there in
    let stops : c.matched.result ≡ Ok false = search rules in
    completes-last g.S.Sink.step c.args.self.now.config c.args.window.now c.args.end
    c.args.sink.now
    (chosen_calls c.args.self.now.config c.args.window.now c.args.start c.args.end c.args.walk)
    c.lines.sink c.lines.start c.in-Some.len c.lines.walk.line c.lines.walk.offset
    c.lines.invariant.made c.requires.within (own g there) (Ok false) c.matched.new.self
    (rw stops at made) (λ goes. search rules)

pub returns-in-Err-clause-reported : goal.returns-in-Err-clause-reported
returns-in-Err-clause-reported g c =
    let there = (goal.at.returns-in-Err-clause-reported g c).After-matched in
    let made = called g there in
    let fails : c.matched.result ≡ Err c.in-Err.error = search rules in
    completes-last g.S.Sink.step c.args.self.now.config c.args.window.now c.args.end
    c.args.sink.now
    (chosen_calls c.args.self.now.config c.args.window.now c.args.start c.args.end c.args.walk)
    c.lines.sink c.lines.start c.in-Some.len c.lines.walk.line c.lines.walk.offset
    c.lines.invariant.made c.requires.within (own g there) (Err c.in-Err.error)
    c.matched.new.self (rw fails at made) (λ goes. search rules)

pub returns-then-start-end-clause-reported : goal.returns-then-start-end-clause-reported
returns-then-start-end-clause-reported g c =
    let there = (goal.at.returns-then-start-end-clause-reported g c).After-matched in
    let goes : c.matched.result ≡ Ok true = search rules in
    let end : c.lines.start + c.in-Some.len ≡ c.args.end = search rules in
    completes-end g.S.Sink.step c.args.self.now.config c.args.window.now c.args.end
    c.args.sink.now
    (chosen_calls c.args.self.now.config c.args.window.now c.args.start c.args.end c.args.walk)
    c.matched.new.self (c.lines.start + c.in-Some.len) (c.lines.walk.line + 1)
    (c.lines.walk.offset + c.in-Some.len) (left g there goes) (omega (
      arith,
      end,
      length-take (c.args.end - (c.lines.start + c.in-Some.len))
          (drop (c.lines.start + c.in-Some.len) c.args.window.now),
    ))

pub returns-in-Ok-true-sink_at_once-clause-reported :
    goal.returns-in-Ok-true-sink_at_once-clause-reported
returns-in-Ok-true-sink_at_once-clause-reported g c =
    let there = (goal.at.returns-in-Ok-true-sink_at_once-clause-reported g c).After-matched in
    let goes : c.matched.result ≡ Ok true = search rules in
    let taken : c.sink_at_once.result ≡ Ok true = search rules in
    left g there goes all_true c.sink_at_once.new.sink (rw taken at c.sink_at_once.ensures.taken)

pub returns-in-Err-sink_at_once-clause-reported : goal.returns-in-Err-sink_at_once-clause-reported
returns-in-Err-sink_at_once-clause-reported g c =
    let there = (goal.at.returns-in-Err-sink_at_once-clause-reported g c).After-matched in
    let goes : c.matched.result ≡ Ok true = search rules in
    let fails : c.sink_at_once.result ≡ Err c.in-Err-sink_at_once.error = search rules in
    left g there goes (failed c.in-Err-sink_at_once.error) c.sink_at_once.new.sink
    (rw fails at c.sink_at_once.ensures.taken)

pub lines-preserved : goal.lines-preserved
lines-preserved g c =
    let there = (goal.at.lines-preserved g c).After-matched in
    let goes : c.matched.result ≡ Ok true = search rules in
    let declined : c.sink_at_once.result ≡ Ok false = search rules in
    let same : c.sink_at_once.new.sink ≡ c.matched.new.self =
    rw declined at c.sink_at_once.ensures.taken in
    let size = length-take (c.args.end - c.lines.start) (drop c.lines.start c.args.window.now) in
    let within = c.in-Some.ensures.within in
    rw same (record {
      low = omega (arith, c.lines.invariant.low);
      high = omega (arith, within.1, size, c.lines.invariant.high);
      same = omega (arith, c.lines.invariant.same);
      counted = omega (arith, c.lines.invariant.counted, within.0);
      made = left g there goes;
      may_call = search rules;
    })
