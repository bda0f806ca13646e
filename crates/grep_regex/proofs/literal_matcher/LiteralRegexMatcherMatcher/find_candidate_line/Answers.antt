use Rattle.grep_regex.proofs.TrustLemmas.{trusted-none, trusted-some}
use Rattle.grep_regex.proofs.literal_matcher.LiteralRegexMatcherMatcher.find_candidate_line.Goals as goal

pub returns-in-None-clause-trusted : goal.returns-in-None-clause-trusted
returns-in-None-clause-trusted c =
    let m = c.args.self.now in
    trusted-none m.regex.now (λ _. Unit {0}) c.args.haystack.now (λ k. (c.type_inv.haystack k).fits) m.by_line m.strips
    c.in-None.ensures.first

pub returns-in-Some-clause-trusted : goal.returns-in-Some-clause-trusted
returns-in-Some-clause-trusted c =
    let m = c.args.self.now in
    trusted-some m.regex.now (λ _. Unit {0}) c.args.haystack.now (λ k. (c.type_inv.haystack k).fits) m.by_line m.strips
    c.in-Some.start c.in-Some.ensures.first.0 c.in-Some.ensures.first.1
