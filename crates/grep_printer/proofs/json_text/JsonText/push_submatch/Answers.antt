use Rattle.grep_printer.proofs.JsonLineLemmas.{members-placed}
use Rattle.grep_printer.proofs.PushLemmas.{tokens-two}
use Rattle.grep_printer.specs.JsonMessages.{submatch_json}
use Rattle.grep_printer.specs.JsonPieces.{texts_in}
use Rattle.grep_printer.proofs.json_text.JsonText.push_submatch.Goals as goal

pub returns : goal.returns
unfolding submatch_json
returns g c =
    let end = c.push_all-2.new.self in
    let text = texts_in g.R.Replacer.text_at c.args.replacements.now c.args.report.now c.args.range.now.0 in
    rw (members-placed text _)
    (simp (c.start.ensures.value, c.end.ensures.value, c.start-2.ensures.value, c.start-3.ensures.value, c.end-2.ensures.value) at
    (tokens-two c.args.self.now c.push_all.new.self end _ _ c.push_all.ensures
    (tokens-two c.push_all.new.self c.push_bytes.new.self end _ _ c.push_bytes.ensures
    (tokens-two c.push_bytes.new.self c.push_replacement.new.self end _ _ c.push_replacement.ensures
    c.push_all-2.ensures))))
