use Rattle.std.proofs.Common.{◌≡◌, ◌≤◌, ◌+◌, ◌-◌, ℕ, List, length}
use Rattle.grep_definitions.specs.CallOrder.{HasCalled}
use Rattle.grep_definitions.specs.Plans.{all_true, IsLawful}
use Rattle.std.specs.Prelude.{IfSome}
use Rattle.grep_walk.specs.LookAheads.{AreAllowed, HasFailedAt, IsBounded, IsKnown}
use Rattle.grep_walk.specs.Origins.{Origin}
use Rattle.grep_walk.specs.Walks.{IsOrdered}
use Rattle.grep_walk.specs.Windows.{HasSearched}
use Rattle.grep_searcher.proofs.search.Search.search_window.Given as goal

abbrev pub invariant-lines : goal.invariant-lines
invariant-lines g l = record {
  within : l.start ≤ length l.window;
  same : l.walk.offset + l.fn.start ≡ l.fn.walk.offset + l.start;
  ahead : l.fn.start ≤ l.start;
  ordered : IsOrdered l.walk;
  bounded : IsBounded l.window l.ahead;
  pending : IfSome l.failure (HasFailedAt l.self.config (g.M.Matcher.facts l.matcher) l.window
      l.start l.walk l.ahead);
  further : AreAllowed l.self.config (g.M.Matcher.facts l.matcher).meaning l.further;
  known : IsLawful (g.M.Matcher.facts l.matcher) l.self.config
      → (gone input : List ℕ) (first : Origin g.row.S.Denot)
      → HasSearched g.S.Sink.step l.self.config (g.M.Matcher.facts l.matcher).meaning gone l.window
      input first l.fn.start l.fn.walk l.fn.sink
      → IsKnown l.self.config (g.M.Matcher.facts l.matcher).meaning l.window l.start l.ahead;
  searched : IsLawful (g.M.Matcher.facts l.matcher) l.self.config
      → (gone input : List ℕ) (first : Origin g.row.S.Denot)
      → HasSearched g.S.Sink.step l.self.config (g.M.Matcher.facts l.matcher).meaning gone l.window
      input first l.fn.start l.fn.walk l.fn.sink
      → HasSearched g.S.Sink.step l.self.config (g.M.Matcher.facts l.matcher).meaning gone l.window
      input first l.start l.walk l.sink;
  called : HasCalled g.S.Sink.step l.self.config 0 l.fn.sink all_true l.sink;
  may_call : g.S.Sink.may_call l.sink;
}

abbrev pub decreases-lines : goal.decreases-lines
decreases-lines g l = length l.window - l.start
