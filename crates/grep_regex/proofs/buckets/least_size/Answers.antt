use Rattle.std.proofs.Common.{arith}
use Rattle.std.proofs.lemmas.List.{length-map}
use Rattle.std.specs.Global.{Global}
use Rattle.std.specs.Prelude.{Vec}
use Rattle.grep_matcher.specs.declared.byte_set.ByteSet.{ByteSet}
use Rattle.grep_regex.proofs.BucketLemmas.{least-more}
use Rattle.grep_regex.proofs.buckets.least_size.Goals as goal

pub loop-i-preserved : goal.loop-i-preserved
loop-i-preserved c = record {
  few = omega (arith, c.loop-i.invariant.few, c.min-size.ensures);
  least = least-more c.args.choices.now c.loop-i.i c.loop-i.size c.min-size.result c.index-choices-i.result
      c.loop-i-test.true c.index-choices-i.is c.loop-i.invariant.least (omega (arith, c.min-size.ensures))
      (omega (arith, c.min-size.ensures, c.len.ensures));
}

pub returns-clause-size : goal.returns-clause-size
returns-clause-size c = λ i inside. c.loop-i.invariant.least i
    (omega (arith, inside, c.loop-i-test.false, length-map c.args.choices.now (λ (s : Vec ByteSet Global). s.items)))
