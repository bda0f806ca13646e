use Rattle.std.proofs.Common.{◌-◌, ◌<◌, arith, drop, length, length-drop, length-take, subst, sym}
use Rattle.std.specs.Prelude.{slice_range}
use Rattle.grep_output.specs.PendingTexts.{Adds}
use Rattle.grep_printer.proofs.PlainLineLemmas.{lines-as-one}
use Rattle.grep_printer.proofs.plain.push_lines.Goals as goal

pub returns-in-None : goal.returns-in-None
returns-in-None c =
    let start = c.args.start in
    let buffer = c.args.buffer.now in
    let bytes = slice_range buffer start c.args.end in
    let some : 0 < length bytes = omega (
      arith,
      length-take (c.args.end - start) (drop start buffer),
      length-drop start buffer,
      c.requires.some,
      c.requires.within,
    ) in
    rw c.in-None.is (subst (Adds c.args.text.now c.push_range.new.text)
    (sym (lines-as-one c.args.terminator 58 bytes some)) c.push_range.ensures)
