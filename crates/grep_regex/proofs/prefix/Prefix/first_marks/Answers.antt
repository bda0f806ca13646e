use Rattle.std.proofs.Common.{◌+◌, arith, refl}
use Rattle.grep_regex.specs.Choices.{items_of}
use Rattle.grep_regex.proofs.BucketLemmas.{more-marked}
use Rattle.grep_regex.proofs.prefix.Prefix.first_marks.Goals as goal

pub returns : goal.returns
returns g c =
    let s = c.args.self.now in
    more-marked (items_of s.choices.items) 0 1 c.args.haystack.now s.buckets.first.low s.buckets.first.high
    c.args.at (c.args.at + 1) c.load-bytes.result c.second_marks.result.0 c.second_marks.result.1 c.either.result
    c.lanes.result (omega arith) refl (λ i inside. omega (arith, s.sized i inside, c.requires.some, c.requires.sets))
    (omega (arith, c.requires.room, c.requires.some)) s.first_in_buckets c.load-bytes.ensures c.second_marks.ensures
    c.either.ensures c.lanes.ensures
