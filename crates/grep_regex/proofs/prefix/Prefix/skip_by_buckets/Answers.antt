use Rattle.grep_regex.specs.Choices.{items_of}
use Rattle.grep_regex.proofs.BucketLemmas.{unmarked-passed}
use Rattle.grep_regex.proofs.prefix.Prefix.skip_by_buckets.Goals as goal

pub returns-clause-passed : goal.returns-clause-passed
returns-clause-passed g c =
    unmarked-passed (items_of c.args.self.now.choices.items) c.args.haystack.now c.args.start c.skip.result
    c.skip.ensures.passed
