use Rattle.std.proofs.Common.{◌≡◌, arith, rules}
use Rattle.grep_printer.specs.LineTexts.{number_after}
use Rattle.grep_printer.proofs.vimgrep.push_part_line.Goals as goal

pub push_line-requires-clause-ordered : goal.push_line-requires-clause-ordered
push_line-requires-clause-ordered c =
    let within = c.requires.within in
    let fits = c.requires.fits in
    (omega arith, c.start-at.ensures.ordered, omega arith, tt)

pub returns : goal.returns
returns c =
    let number : c.map.result ≡ number_after c.args.report.now.number c.args.passed = search rules in
    simp (
      c.line_of-line.ensures.value,
      c.start-at.ensures.value,
      c.start-start.ensures.value,
      c.end.ensures.value,
      c.line_kind.ensures,
      c.as_byte.ensures,
      number,
    )
    at c.push_line.ensures
