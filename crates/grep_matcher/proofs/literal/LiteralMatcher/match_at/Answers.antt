use Rattle.std.proofs.Common.{◌≡◌, arith, length}
use Rattle.grep_matcher.proofs.FromLemmas.{match-from, no-match-from}
use Rattle.grep_matcher.proofs.LiteralLemmas.{match-avoids}
use Rattle.grep_matcher.proofs.literal.LiteralMatcher.match_at.Goals as goal

pub returns-in-Some-clause-value : goal.returns-in-Some-clause-value
returns-in-Some-clause-value c =
    let size : length c.needle.result.now ≡ length c.args.self.now = cc in
    rw (c.new.ensures, size) (match-from c.args.haystack.now c.args.self.now c.args.start c.requires c.in-Some.at
    c.in-Some.ensures)

pub returns-in-Some-clause-within : goal.returns-in-Some-clause-within
returns-in-Some-clause-within c =
    let found = c.in-Some.ensures in
    let size : length c.needle.result.now ≡ length c.args.self.now = cc in
    rw c.new.ensures (found.0.low, (omega arith, omega (arith, found.1.fits, size)))

pub returns-in-Some-clause-avoids : goal.returns-in-Some-clause-avoids
returns-in-Some-clause-avoids c =
    let size : length c.needle.result.now ≡ length c.args.self.now = cc in
    let found = c.in-Some.ensures in
    rw (c.new.ensures, size) (match-avoids c.args.haystack.now c.args.self.now c.in-Some.at found.1)

pub returns-in-None-clause-value : goal.returns-in-None-clause-value
returns-in-None-clause-value c = no-match-from c.args.haystack.now c.args.self.now c.args.start c.requires
    c.in-None.ensures
