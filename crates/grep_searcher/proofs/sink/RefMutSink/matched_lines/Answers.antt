use Rattle.std.proofs.Common.{◌≡◌, refl}
use Rattle.grep_definitions.specs.MatchedLines.{calls_of_match}
use Rattle.grep_searcher.proofs.WrappedSinkLemmas.{taken-passed, never-passed}
use Rattle.grep_searcher.proofs.sink.RefMutSink.matched_lines.Goals as goal

pub returns-clause-taken : goal.returns-clause-taken
returns-clause-taken g c = taken-passed g.S.Sink.step
    (λ s settings call result t. (t.ghost_name ≡ s.ghost_name)
    × g.S.Sink.step s.now settings call result t.now) (λ s. record c.args.self.now { now = s })
    (λ old settings call result new made. (refl, made)) c.args.searcher.now.settings
    (calls_of_match c.args.lines.now) _ _ _ c.matched_lines.ensures.taken

pub returns-clause-succeeds : goal.returns-clause-succeeds
returns-clause-succeeds g c = λ never. c.matched_lines.ensures.succeeds
    (never-passed g.S.Sink.step
    (λ s settings call result t. (t.ghost_name ≡ s.ghost_name)
    × g.S.Sink.step s.now settings call result t.now) (λ s. record c.args.self.now { now = s })
    (λ old settings call result new made. (refl, made)) g.S.Sink.may_call _ (λ s may. may) never)
