use Rattle.grep_regex.specs.Choices.{items_of}
use Rattle.grep_regex.proofs.BucketLemmas.{full-buckets}
use Rattle.grep_regex.proofs.buckets.BucketTable.new.Goals as goal

pub returns : goal.returns
returns c = full-buckets (items_of c.args.choices.now) c.args.position c.full.result.low c.full.result.high c.full.ensures
