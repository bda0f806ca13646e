use Rattle.std.proofs.lemmas.Result.{err_from_is_err_and}
use Rattle.grep_printer.proofs.BareWriteLemmas.{number-cut, number-more}
use Rattle.grep_printer.proofs.bare.write_line.Goals as goal
use Rattle.grep_printer.proofs.bare.write_line.Goals.{in-Some+in_ok-write_number, in_default}

pub returns-in_err-write_number : goal.returns-in_err-write_number
returns-in_err-write_number g c =
    let error = err_from_is_err_and c.from_residual.result c.from_residual.ensures.1 in
    rw (error.1, error.2) (number-cut g.W.Output.step c.args.terminator c.args.writer.now c.write_number.new.writer
    c.args.number c.in-Some.number c.args.mark c.args.line.now c.in_err-write_number.field-0.0 c.in-Some.is
    c.in_err-write_number.ensures)

pub returns : goal.returns
returns g c = elim c.match-number.branch [
  | in-Some+in_ok-write_number w ↦
      number-more g.W.Output.step c.args.terminator c.args.writer.now w.write_number.new.writer c.write_ended.new.writer
      c.args.number w.in-Some.number c.args.mark c.args.line.now c.write_ended.result w.in-Some.is
      w.in_ok-write_number.ensures (rw w.writer-is at c.write_ended.ensures)
  | in_default w ↦ rw (w.in_default.is) (rw w.writer-is at c.write_ended.ensures)
]
