use Rattle.std.proofs.Common.{◌∙◌, ap, sym}
use Rattle.std.specs.Prelude.{not}
use Rattle.grep_printer.proofs.BareTextLemmas.{lines-text}
use Rattle.grep_printer.proofs.bare.write_call.Goals as goal

pub returns-in_ok-write_lines-in-Match : goal.returns-in_ok-write_lines-in-Match
returns-in_ok-write_lines-in-Match g c =
    rw c.in-Report.is (rw c.in-Match.is (
      ap not c.is_empty.ensures
          ∙ sym (lines-text c.args.terminator c.in-Report.report.number c.in-Report.report.bytes.now),
      c.in_ok-write_lines-in-Match.ensures,
    ))
