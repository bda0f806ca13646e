use Rattle.std.proofs.Common.{◌≡◌, ◌≤◌, ◌-◌, true, length}
use Rattle.std.specs.Prelude.{Ok}
use Rattle.grep_definitions.specs.CallOrder.{HasCalled}
use Rattle.grep_definitions.specs.Plans.{begins, calls_before, touched_lines, AreMade, all_true}
use Rattle.grep_walk.specs.AcrossWalks.{IsAcross, IsAtUnit}
use Rattle.grep_walk.specs.Walks.{IsOrdered}
use Rattle.grep_searcher.proofs.search.Search.byte_count_of_units.Given as goal

abbrev pub invariant-lines : goal.invariant-lines
invariant-lines g l = record {
  within : l.start ≤ length l.bytes;
  same : l.walk.offset ≡ l.start;
  ordered : IsOrdered l.walk;
  ready : IsAtUnit l.self.config (g.M.Matcher.facts l.matcher).meaning l.bytes l.start l.walk l.unit
      l.blocks;
  walk : IsAcross l.self.config (g.M.Matcher.facts l.matcher).meaning l.bytes l.walk;
  reported : (first : g.row.S.Denot) → g.S.Sink.step first l.self.config begins (Ok true)
      l.fn.sink → AreMade g.S.Sink.step l.self.config first (calls_before l.self.config l.bytes
      (touched_lines l.self.config (g.M.Matcher.facts l.matcher).meaning l.bytes)
      l.walk.next_unreported) all_true l.sink;
  called : HasCalled g.S.Sink.step l.self.config 0 l.fn.sink all_true l.sink;
  may_call : g.S.Sink.may_call l.sink;
}

abbrev pub decreases-lines : goal.decreases-lines
decreases-lines g l = length l.bytes - l.start
