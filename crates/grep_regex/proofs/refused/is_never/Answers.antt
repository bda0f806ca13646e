use Rattle.grep_regex.proofs.NamedByteLemmas.{never-empty, zero-only}
use Rattle.std.proofs.Common.{◌∙◌, sym}
use Rattle.grep_regex.proofs.refused.is_never.Goals as goal

pub returns-then-min-eq0-clause-never : goal.returns-then-min-eq0-clause-never
returns-then-min-eq0-clause-never c = λ never.
    let arm = c.in-Repetition in
    never-empty c.args.hir.now arm.min arm.max arm.greedy arm.sub arm.is c.if-min-eq0.true
    (zero-only arm.max (sym c.eq.ensures ∙ never))
