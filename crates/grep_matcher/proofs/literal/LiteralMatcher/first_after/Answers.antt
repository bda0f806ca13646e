use Rattle.std.proofs.Common.{◌+◌, length, arith}
use Rattle.memchr.specs.Find.{OccursAt}
use Rattle.grep_matcher.proofs.FromLemmas.{finds-after}
use Rattle.grep_matcher.proofs.literal.LiteralMatcher.first_after.Goals as goal

pub find_after-requires-clause-passed : goal.find_after-requires-clause-passed
find_after-requires-clause-passed c = rw c.self.view_is c.requires.passed

pub returns-in-Some : goal.returns-in-Some
returns-in-Some c = rw c.self.view_is at c.find_after.ensures

pub returns-in-None : goal.returns-in-None
returns-in-None c =
    finds-after (OccursAt c.args.haystack.now c.args.self.now) 0 512
    (length c.args.haystack.now + 1) c.find_from.result (omega arith) c.requires.passed
    (rw c.self.view_is at c.find_from.ensures)
