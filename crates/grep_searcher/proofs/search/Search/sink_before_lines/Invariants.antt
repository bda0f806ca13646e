use Rattle.std.proofs.Common.{◌≡◌, ℕ, List, length, ◌+◌, ◌-◌, ◌≤◌}
use Rattle.grep_definitions.specs.CallOrder.{HasCalled}
use Rattle.grep_definitions.specs.Plans.{AreMade, all_true}
use Rattle.grep_definitions.specs.LineCalls.{pending_calls}
use Rattle.grep_walk.specs.Windows.{IsInWindow, IsLineIn}
use Rattle.grep_searcher.proofs.search.Search.sink_before_lines.Given as goal

abbrev pub invariant-loop-at : goal.invariant-loop-at
invariant-loop-at g l = record {
  inside : l.position ≤ length l.window;
  same : l.offset + l.start ≡ l.walk.offset + l.position;
  low : l.index ≤ l.at;
  below : l.at ≤ l.walk.line;
  at : (gone : List ℕ) → IsLineIn l.self.config gone l.window l.first l.index
      → IsLineIn l.self.config gone l.window l.position l.at;
  reported : (gone input : List ℕ) → IsInWindow l.self.config gone l.window input l.start l.walk
      → IsLineIn l.self.config gone l.window l.first l.index
      → (end : ℕ) → AreMade g.S.Sink.step l.self.config l.fn.sink
      (pending_calls l.self.config input l.walk.next_unreported l.walk.line end l.index
      (l.at - l.index)) all_true l.sink;
  called : HasCalled g.S.Sink.step l.self.config 0 l.fn.sink all_true l.sink;
  may_call : g.S.Sink.may_call l.sink;
}

abbrev pub decreases-loop-at : goal.decreases-loop-at
decreases-loop-at g l = l.walk.line - l.at
