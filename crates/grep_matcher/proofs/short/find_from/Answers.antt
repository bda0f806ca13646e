use Rattle.std.proofs.Common.{◌+◌, length, ap}
use Rattle.memchr.specs.Find.{OccursAt}
use Rattle.grep_matcher.proofs.FromLemmas.{finds-after}
use Rattle.grep_matcher.specs.Probes.{position_of}
use Rattle.grep_matcher.proofs.short.find_from.Goals as goal

pub returns : goal.returns
returns c =
    let nearest = rw (c.needle.ensures) at c.nearest_from.ensures in
    finds-after (OccursAt c.args.haystack.now c.args.finder.now) c.args.start
    (position_of c.nearest_from.result) (length c.args.haystack.now + 1) c.find_nearest.result
    nearest.low nearest.passed c.find_nearest.ensures
