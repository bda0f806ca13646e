use Rattle.std.proofs.Common.{sym, ◌∙◌, arith, None, Some}
use Rattle.std.proofs.lemmas.Bool.{false_from_ne_true}
use Rattle.grep_lines.proofs.ReplaceLemmas.{eqb-ne, position-found, replaced-whole}
use Rattle.grep_lines.proofs.replace.replace_bytes.Goals as goal

pub returns-in_err-first-clause-first : goal.returns-in_err-first-clause-first
returns-in_err-first-clause-first c =
    rw (eqb-ne c.args.src c.args.new c.if-src-new.false) (c.from_residual.ensures
    ∙ sym (position-found c.args.src c.args.bytes.now None (c.in_err-first.ensures)))

pub returns-clause-bytes : goal.returns-clause-bytes
returns-clause-bytes c =
    let found = c.in_ok-first.ensures in
    rw c.replace_each.ensures (replaced-whole c.args.src c.args.new c.args.bytes.now
    c.in_ok-first.first
    (omega arith) (λ k below. false_from_ne_true _ (found.0.before k (omega arith) below)))

pub returns-clause-first : goal.returns-clause-first
returns-clause-first c =
    rw (eqb-ne c.args.src c.args.new c.if-src-new.false)
    (sym (position-found c.args.src c.args.bytes.now (Some c.in_ok-first.first)
    (c.in_ok-first.ensures)))
