use Rattle.std.proofs.Common.{◌<◌, ◌%◌, [], Bool, List, length, get_or, subst, arith}
use Rattle.std.proofs.lemmas.List.{length-map}
use Rattle.std.specs.Global.{Global}
use Rattle.std.specs.Prelude.{Vec}
use Rattle.grep_matcher.specs.declared.byte_set.ByteSet.{ByteSet}
use Rattle.grep_regex.specs.Buckets.{HasInBucket}
use Rattle.grep_regex.proofs.BucketLemmas.{buckets-more}
use Rattle.grep_regex.proofs.buckets.BucketTable.has_all.Goals as goal

pub loop-i-preserved : goal.loop-i-preserved
loop-i-preserved c =
    let t = c.args.self.now in
    buckets-more c.args.choices.now c.args.position t.low t.high c.loop-i.i c.index-choices-i.result c.loop-i-test.true
    c.index-choices-i.is c.loop-i.invariant
    (subst (λ (s : List (List Bool)). c.args.position < length s
    → HasInBucket (get_or s c.args.position []) (c.loop-i.i % 8) t.low t.high)
    c.deref.ensures.value (c.has_at.ensures c.if-not-has_at.false))

pub returns : goal.returns
returns c = λ _ i inside within. c.loop-i.invariant i
    (omega (arith, inside, c.loop-i-test.false, length-map c.args.choices.now (λ (s : Vec ByteSet Global). s.items)))
    within
