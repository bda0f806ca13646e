use Rattle.grep_definitions.specs.MatchedLines.{calls_of_match}
use Rattle.grep_testing.proofs.OfferLemmas.{taken-any}
use Rattle.grep_testing.proofs.offers.OffersSink.matched_lines.Goals as goal

pub returns-clause-taken : goal.returns-clause-taken
returns-clause-taken g c =
    taken-any _ c.args._searcher.now.settings (calls_of_match c.args._lines.now) c.takes.result
