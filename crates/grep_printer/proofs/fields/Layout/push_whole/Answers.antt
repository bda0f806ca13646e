use Rattle.std.proofs.Common.{◌^◌, arith, length, subst, sym}
use Rattle.grep_replace.proofs.FoundPartLemmas.{ordered-within}
use Rattle.grep_printer.specs.LineTexts.{line_text}
use Rattle.grep_output.specs.PendingTexts.{Adds}
use Rattle.grep_printer.specs.Reports.{whole_text}
use Rattle.grep_printer.specs.declared.fields.LineKind.TheVariants.{Context as context_line}
use Rattle.grep_printer.specs.declared.fields.Place.{Place}
use Rattle.grep_printer.specs.declared.report.ReportKind.{ReportKind}
use Rattle.grep_printer.proofs.fields.Layout.push_whole.Goals as goal

pub push_lines-requires-clause-ordered : goal.push_lines-requires-clause-ordered
push_lines-requires-clause-ordered c =
    let fits = c.requires.fits in
    ordered-within c.args.parts.now 0 (length c.args.report.now.bytes.now) (2 ^ 64) (omega (arith, fits))
    c.requires.ordered

pub push_line-requires-clause-ordered : goal.push_line-requires-clause-ordered
push_line-requires-clause-ordered c =
    let fits = c.requires.fits in
    ordered-within c.args.parts.now 0 (length c.args.report.now.bytes.now) (2 ^ 64) (omega (arith, fits))
    c.requires.ordered

pub returns-in-Context : goal.returns-in-Context
returns-in-Context c =
    let layout = c.args.self.now in
    let report = c.args.report.now in
    let parts = c.args.parts.now in
    subst (λ (kind : ReportKind). Adds c.args.text.now c.push_line.new.text (whole_text layout report parts kind))
    (sym c.in-Context.is)
    (subst (λ (place : Place). Adds c.args.text.now c.push_line.new.text
    (line_text layout context_line place parts report.bytes.now)) c.report_place-place.ensures c.push_line.ensures)
