use Rattle.grep_matcher.proofs.FromLemmas.{found-from, none-from, rest-is}
use Rattle.grep_matcher.proofs.short.find_rest.Goals as goal

pub returns-in-Some : goal.returns-in-Some
returns-in-Some c =
    found-from c.args.haystack.now c.args.finder.now c.args.start c.requires c.in-Some.position
    (rw (rest-is c.args.haystack.now c.args.start) at c.in-Some.ensures)

pub returns-in-None : goal.returns-in-None
returns-in-None c =
    none-from c.args.haystack.now c.args.finder.now c.args.start c.requires
    (rw (rest-is c.args.haystack.now c.args.start) at c.in-None.ensures)
