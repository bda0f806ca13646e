use Rattle.grep_matcher.proofs.FromLemmas.{found-from, none-from, rest-is}
use Rattle.grep_matcher.proofs.literal.LiteralMatcher.position_from.Goals as goal

pub returns-then-haystack-start-le-SHORT : goal.returns-then-haystack-start-le-SHORT
returns-then-haystack-start-le-SHORT c = rw c.self.view_is at c.find_from.ensures

pub returns-in-Some : goal.returns-in-Some
returns-in-Some c =
    found-from c.args.haystack.now c.args.self.now c.args.start c.requires c.in-Some.position
    (rw (rest-is c.args.haystack.now c.args.start) at c.in-Some.ensures)

pub returns-in-None : goal.returns-in-None
returns-in-None c =
    none-from c.args.haystack.now c.args.self.now c.args.start c.requires
    (rw (rest-is c.args.haystack.now c.args.start) at c.in-None.ensures)
