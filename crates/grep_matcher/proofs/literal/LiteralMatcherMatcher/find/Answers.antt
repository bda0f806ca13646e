use Rattle.std.proofs.Common.{◌≡◌, length}
use Rattle.grep_matcher.specs.LiteralFirstMatches.{match-found, match-none}
use Rattle.grep_matcher.proofs.LiteralLemmas.{match-avoids}
use Rattle.grep_matcher.proofs.literal.LiteralMatcherMatcher.find.Goals as goal

pub returns-in-Some-clause-value : goal.returns-in-Some-clause-value
returns-in-Some-clause-value c =
    let size : length c.needle.result.now ≡ length c.args.self.now = cc in
    rw (c.new.ensures, size) (match-found c.args.haystack.now c.args.self.now c.in-Some.start
    c.in-Some.ensures)

pub returns-in-Some-clause-avoids : goal.returns-in-Some-clause-avoids
returns-in-Some-clause-avoids c =
    let size : length c.needle.result.now ≡ length c.args.self.now = cc in
    let found = c.in-Some.ensures in
    rw (c.new.ensures, size) (match-avoids c.args.haystack.now c.args.self.now c.in-Some.start
    found.1)

pub returns-in-None-clause-value : goal.returns-in-None-clause-value
returns-in-None-clause-value c = match-none c.args.haystack.now c.args.self.now c.in-None.ensures
