use Rattle.grep_printer.proofs.CountedLemmas.{texts-taken}
use Rattle.grep_searcher.specs.MatchedLines.{calls_of_match}
use Rattle.grep_printer.proofs.counted.CountedFormatFormat.push_lines.Goals as goal

pub returns-clause-texts : goal.returns-clause-texts
returns-clause-texts g c = λ taken there.
    texts-taken g.F.Format.rules
    (record { path = c.args.path.now; settings = c.args.searcher.now.settings })
    (calls_of_match c.args.lines.now) c.args.self.now c.push_lines.new.self c.push_lines.new.text.text
    c.if-self.false (c.push_lines.ensures.texts taken there)
