use Rattle.std.proofs.Common.{arith}
use Rattle.grep_regex.specs.Choices.{items_of}
use Rattle.grep_regex.proofs.BucketLemmas.{all-marked, last-marked}
use Rattle.grep_regex.proofs.prefix.Prefix.third_marks.Goals as goal

pub returns-then-this-lt3 : goal.returns-then-this-lt3
returns-then-this-lt3 g c = all-marked _ _ _ _ _ _ c.none_set.ensures c.all_set.ensures

pub returns : goal.returns
returns g c =
    let s = c.args.self.now in
    last-marked (items_of s.choices.items) 2 c.args.haystack.now s.buckets.third.low s.buckets.third.high
    c.args.at c.load-bytes.result c.all_set-2.result c.lanes.result
    (λ i inside. omega (arith, s.sized i inside, c.if-this-lt3.false, c.requires.sets))
    (omega (arith, c.requires.room, c.if-this-lt3.false)) s.third_in_buckets c.load-bytes.ensures c.all_set-2.ensures
    c.lanes.ensures
