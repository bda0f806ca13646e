use Rattle.std.proofs.Common.{◌+◌, arith, refl}
use Rattle.grep_regex.specs.Choices.{items_of}
use Rattle.grep_regex.proofs.BucketLemmas.{all-marked, more-marked}
use Rattle.grep_regex.proofs.prefix.Prefix.second_marks.Goals as goal

pub returns-then-this-lt2 : goal.returns-then-this-lt2
returns-then-this-lt2 g c = all-marked _ _ _ _ _ _ c.none_set.ensures c.all_set.ensures

pub returns : goal.returns
returns g c =
    let s = c.args.self.now in
    more-marked (items_of s.choices.items) 1 2 c.args.haystack.now s.buckets.second.low s.buckets.second.high
    c.args.at (c.args.at + 1) c.load-bytes.result c.third_marks.result.0 c.third_marks.result.1 c.either.result
    c.lanes.result (omega arith) refl
    (λ i inside. omega (arith, s.sized i inside, c.if-this-lt2.false, c.requires.sets))
    (omega (arith, c.requires.room, c.if-this-lt2.false)) s.second_in_buckets c.load-bytes.ensures c.third_marks.ensures
    c.either.ensures c.lanes.ensures
