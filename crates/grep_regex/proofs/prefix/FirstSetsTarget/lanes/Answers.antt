use Rattle.grep_regex.specs.Choices.{items_of}
use Rattle.grep_regex.proofs.BucketLemmas.{marks-cover}
use Rattle.grep_regex.proofs.prefix.FirstSetsTarget.lanes.Goals as goal

pub returns : goal.returns
returns g c =
    marks-cover (items_of c.args.self.now.prefix.now.choices.items) c.args.self.now.haystack.now c.args.at
    c.first_marks.result.0 c.first_marks.result.1 c.nonzero.result c.either.result c.first_marks.ensures
    c.nonzero.ensures c.either.ensures
