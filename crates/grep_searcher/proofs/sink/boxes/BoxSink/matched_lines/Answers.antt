use Rattle.std.specs.Box.{with_value}
use Rattle.grep_definitions.specs.MatchedLines.{calls_of_match}
use Rattle.grep_searcher.proofs.WrappedSinkLemmas.{taken-passed, never-passed}
use Rattle.grep_searcher.proofs.sink.boxes.BoxSink.matched_lines.Goals as goal

pub returns-clause-taken : goal.returns-clause-taken
returns-clause-taken g c = taken-passed g.S.Sink.step
    (λ s settings call result t. g.S.Sink.step s.value settings call result t.value)
    (with_value c.args.self.now)
    (λ old settings call result new made. made) c.args.searcher.now.settings
    (calls_of_match c.args.lines.now) _ _ _
    (rw c.deref_mut.ensures.value at c.matched_lines.ensures.taken)

pub returns-clause-succeeds : goal.returns-clause-succeeds
returns-clause-succeeds g c = λ never. c.matched_lines.ensures.succeeds
    (never-passed g.S.Sink.step
    (λ s settings call result t. g.S.Sink.step s.value settings call result t.value)
    (with_value c.args.self.now)
    (λ old settings call result new made. made) g.S.Sink.may_call _ (λ s may. may) never)
