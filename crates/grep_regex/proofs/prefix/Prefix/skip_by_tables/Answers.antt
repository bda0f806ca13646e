use Rattle.grep_regex.proofs.ChoiceLemmas.{passed-covered}
use Rattle.grep_regex.proofs.prefix.Prefix.skip_by_tables.Goals as goal

pub returns-in-1-clause-passed : goal.returns-in-1-clause-passed
returns-in-1-clause-passed c =
    let s = c.args.self.now in
    passed-covered s.cover.items s.choices.items s.covered c.args.haystack.now c.args.start c.skip_by.result
    c.skip_by.ensures.passed

pub returns-in-2-clause-passed : goal.returns-in-2-clause-passed
returns-in-2-clause-passed c =
    let s = c.args.self.now in
    passed-covered s.cover.items s.choices.items s.covered c.args.haystack.now c.args.start c.skip_by-in-2.result
    c.skip_by-in-2.ensures.passed

pub returns-in_default-clause-passed : goal.returns-in_default-clause-passed
returns-in_default-clause-passed c =
    let s = c.args.self.now in
    passed-covered s.cover.items s.choices.items s.covered c.args.haystack.now c.args.start c.skip_by_three.result
    c.skip_by_three.ensures.passed
