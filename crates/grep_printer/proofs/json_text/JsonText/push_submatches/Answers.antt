use Rattle.std.proofs.Common.{ap, arith, drop}
use Rattle.std.proofs.lemmas.List.{drop_all}
use Rattle.json.specs.Tree.{items_tokens}
use Rattle.grep_printer.proofs.JsonLineLemmas.{items-ended}
use Rattle.grep_printer.specs.JsonMessages.{submatch_items}
use Rattle.grep_printer.specs.JsonPieces.{texts_in}
use Rattle.grep_printer.proofs.json_text.JsonText.push_submatches.Goals as goal

pub returns : goal.returns
returns g c =
    let bytes = c.args.report.now.bytes.now in
    let text_at = texts_in g.R.Replacer.text_at c.args.replacements.now c.args.report.now in
    let ranges = c.args.ranges.now in
    let none = drop_all c.loop-range.range-index ranges (omega (arith, c.loop-range-test.false)) in
    items-ended c.args.self.now c.loop-range.self c.push_all.new.self
    (items_tokens (submatch_items bytes text_at (drop c.loop-range.range-index ranges)))
    (items_tokens (submatch_items bytes text_at ranges)) c.loop-range.invariant
    (ap (λ left. items_tokens (submatch_items bytes text_at left)) none) c.push_all.ensures
