use Rattle.std.proofs.Common.{◌≡◌, ◌++◌, drop, false}
use Rattle.json.specs.Tree.{items_tokens}
use Rattle.grep_printer.specs.JsonMessages.{submatch_items}
use Rattle.grep_printer.specs.JsonPieces.{texts_in}
use Rattle.grep_printer.proofs.json_text.JsonText.push_submatches.Given as goal

abbrev pub invariant-loop-range : goal.invariant-loop-range
invariant-loop-range g l =
    (l.self.out.before ≡ l.fn.self.out.before)
    × (l.self.has_failed ≡ false → (l.fn.self.has_failed ≡ false)
    × (l.self.out.tokens ++ items_tokens (submatch_items l.report.bytes.now
    (texts_in g.R.Replacer.text_at l.replacements l.report) (drop l.range-index l.ranges))
    ≡ l.fn.self.out.tokens ++ items_tokens (submatch_items l.report.bytes.now
    (texts_in g.R.Replacer.text_at l.replacements l.report) l.ranges)))
