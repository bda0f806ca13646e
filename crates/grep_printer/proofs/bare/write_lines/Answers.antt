use Rattle.std.proofs.Common.{◌≡◌, rules, subst, sym}
use Rattle.std.proofs.lemmas.Result.{err_from_is_err_and}
use Rattle.grep_searcher.specs.Lines.{lines}
use Rattle.grep_printer.proofs.BareWriteLemmas.{AreWritten, written-cut, written-more, written-none}
use Rattle.grep_printer.proofs.bare.write_lines.Goals as goal

pub loop-line-init : goal.loop-line-init
loop-line-init g c =
    let same : c.into_iter-line-iterator.result ≡ lines c.args.terminator c.args.bytes.now = search rules in
    subst (λ later. AreWritten g.W.Output.step c.args.terminator c.args.writer.now c.args.writer.now c.args.number
    (lines c.args.terminator c.args.bytes.now) c.args.number later) (sym same)
    (written-none g.W.Output.step c.args.terminator c.args.writer.now c.args.number
    (lines c.args.terminator c.args.bytes.now))

pub loop-line-preserved : goal.loop-line-preserved
loop-line-preserved g c =
    rw c.next_number-number.ensures
    (written-more g.W.Output.step c.args.terminator c.args.writer.now c.loop-line.writer c.write_line.new.writer
    c.args.number c.loop-line.number _ c.next.new.self c.in-Some.line.now
    (rw c.in-Some.ensures.steps at c.loop-line.invariant) c.in_ok-write_line.ensures)

pub returns-in_err-write_line : goal.returns-in_err-write_line
returns-in_err-write_line g c =
    let error = err_from_is_err_and c.from_residual.result c.from_residual.ensures.1 in
    rw (error.1, error.2) (written-cut g.W.Output.step c.args.terminator c.args.writer.now c.loop-line.writer
    c.write_line.new.writer c.args.number c.loop-line.number _ c.next.new.self c.in-Some.line.now
    c.in_err-write_line.field-0.0 (rw c.in-Some.ensures.steps at c.loop-line.invariant)
    c.in_err-write_line.ensures)
