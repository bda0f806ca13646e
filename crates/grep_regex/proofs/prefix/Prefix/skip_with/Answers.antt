use Rattle.std.proofs.Common.{arith}
use Rattle.grep_regex.proofs.PrefixLemmas.{lead-passed}
use Rattle.grep_regex.proofs.prefix.Prefix.skip_with.Goals as goal

pub returns-clause-passed : goal.returns-clause-passed
returns-clause-passed g c =
    let s = c.args.self.now in
    lead-passed s.cover.items s.lead c.args.haystack.now c.args.start c.skip.result c.requires.sets
    (omega (arith, c.skip.ensures.low)) c.skip.ensures.within (c.has_ascii.ensures.low c.if-not-has_ascii.false)
    (λ k above below may. c.skip.ensures.passed k above below (c.requires.may k may))
