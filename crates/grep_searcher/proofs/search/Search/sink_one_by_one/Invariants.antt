use Rattle.std.proofs.Common.{◌≡◌, ◌≤◌, ◌+◌, ◌-◌}
use Rattle.grep_walk.specs.ChosenLines.{chosen_calls}
use Rattle.grep_searcher.proofs.ReportedLineLemmas.{Completes}
use Rattle.grep_searcher.proofs.search.Search.sink_one_by_one.Given as goal

abbrev pub invariant-lines : goal.invariant-lines
invariant-lines g l = record {
  low : l.fn.start ≤ l.start;
  high : l.start ≤ l.end;
  same : l.walk.offset + l.fn.start ≡ l.fn.walk.offset + l.start;
  counted : l.walk.line ≤ l.walk.offset;
  made : Completes g.S.Sink.step l.self.config l.window l.end l.fn.sink
      (chosen_calls l.self.config l.window l.fn.start l.end l.fn.walk) l.sink l.start l.walk.line
      l.walk.offset;
  may_call : g.S.Sink.may_call l.sink;
}

abbrev pub decreases-lines : goal.decreases-lines
decreases-lines g l = l.end - l.start
