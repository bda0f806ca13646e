use Rattle.grep_matcher.proofs.LiteralLemmas.{start-is, start-within}
use Rattle.grep_matcher.proofs.literal.LiteralMatcher.find_start.Goals as goal

pub returns-clause-value : goal.returns-clause-value
returns-clause-value c =
    start-is c.args.haystack.now c.args.self.now c.first.result c.first.ensures

pub returns-clause-within : goal.returns-clause-within
returns-clause-within c =
    start-within c.args.haystack.now c.args.self.now c.first.result c.first.ensures
