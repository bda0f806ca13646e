use Rattle.std.proofs.Common.{length, ap, sym, ◌∙◌, rules}
use Rattle.grep_lines.proofs.LawLemmas.{lines-parts}
use Rattle.grep_lines.proofs.line_iter.LineIterIterator.next.Goals as goal

pub returns-clause-steps : goal.returns-clause-steps
returns-clause-steps c =
    sym c.self.view_is ∙ lines-parts c.self.inside.terminator c.self.inside.bytes.now
    c.split_at.result.0.now c.split_at.result.1.now
    c.first_line_length.result c.first_line_length.ensures c.split_at.ensures.front
    c.split_at.ensures.back

pub returns-clause-goes : goal.returns-clause-goes
returns-clause-goes c = let shorter = ap length (returns-clause-steps c) in search rules
