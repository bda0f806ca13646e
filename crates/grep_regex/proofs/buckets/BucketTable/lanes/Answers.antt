use Rattle.std.proofs.Common.{◌∙◌, ap, ap₂, bit_and, get_or}
use Rattle.grep_regex.proofs.buckets.BucketTable.lanes.Goals as goal

pub returns : goal.returns
returns c =
    let all = c.both.ensures in
    record {
      long = all.long;
      each = λ k below. all.each k below ∙ ap (λ n. bit_and n (get_or c.args.later k 0))
          (c.both-buckets.ensures.each k below
          ∙ ap₂ bit_and (c.by_low_half.ensures.each k below) (c.by_high_half.ensures.each k below));
    }
