use Rattle.std.proofs.Common.{sym, ◌∙◌, true, false}
use Rattle.grep_matcher.specs.declared.line_match_kind.LineMatchKind.TheVariants.{Confirmed}
use Rattle.grep_matcher.specs.declared.line_match_kind.LineMatchKind.TheVariants.{Candidate}
use Rattle.grep_matcher.proofs.CandidateLemmas.{trusted-none, trusted-some}
use Rattle.grep_matcher.proofs.LiteralLemmas.{candidate-found, candidate-none}
use Rattle.grep_matcher.proofs.literal.LiteralMatcherMatcher.find_candidate_line.Goals as goal

pub returns-in-Some-clause-value : goal.returns-in-Some-clause-value
returns-in-Some-clause-value c =
    let lacked = rw c.self.view_is at (sym (c.self.invariant.0 13)
    ∙ (sym c.contains.ensures ∙ c.if-contains.true)) in
    candidate-found c.args.haystack.now c.args.self.now c.in-Some.start true lacked
    c.in-Some.ensures

pub returns-in-Some-clause-trusted : goal.returns-in-Some-clause-trusted
returns-in-Some-clause-trusted c =
    let lacked = rw c.self.view_is at (sym (c.self.invariant.0 13)
    ∙ (sym c.contains.ensures ∙ c.if-contains.true)) in
    trusted-some c.args.self.now c.args.haystack.now (λ _. Unit {0}) (Confirmed c.in-Some.start)
    c.in-Some.ensures (λ confirmed. lacked)

pub returns-in-Some-2-clause-value : goal.returns-in-Some-2-clause-value
returns-in-Some-2-clause-value c =
    let occurs = rw c.self.view_is at (sym (c.self.invariant.0 13)
    ∙ (sym c.contains.ensures ∙ c.if-contains.false)) in
    candidate-found c.args.haystack.now c.args.self.now c.in-Some.start false occurs
    c.in-Some.ensures

pub returns-in-Some-2-clause-trusted : goal.returns-in-Some-2-clause-trusted
returns-in-Some-2-clause-trusted c = trusted-some c.args.self.now c.args.haystack.now
    (λ _. Unit {0}) (Candidate c.in-Some.start) c.in-Some.ensures (λ confirmed. absurd (cc))

pub returns-in-None-clause-value : goal.returns-in-None-clause-value
returns-in-None-clause-value c = candidate-none c.args.haystack.now c.args.self.now
    c.in-None.ensures

pub returns-in-None-clause-trusted : goal.returns-in-None-clause-trusted
returns-in-None-clause-trusted c = trusted-none c.args.self.now c.args.haystack.now (λ _. Unit {0})
    c.in-None.ensures
