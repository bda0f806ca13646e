use Rattle.std.proofs.Common.{◌-◌, arith}
use Rattle.std.proofs.lemmas.List.{length-append}
use Rattle.json.specs.Tree.{json_tokens}
use Rattle.grep_printer.proofs.JsonLineLemmas.{line-added}
use Rattle.grep_printer.specs.JsonMessages.{json_line}
use Rattle.grep_printer.specs.JsonPieces.{message_of}
use Rattle.grep_printer.proofs.json_lines.add_message.Goals as goal

pub returns : goal.returns
unfolding json_line
returns c =
    let old = c.args.text.now in
    line-added old c.put_line.new.text c.take_from-json.result c.push_message.new.self (c.len.result - c.text_len.result)
    (json_tokens (message_of c.args.message))
    (omega (arith, c.len.ensures, c.text_len.ensures, length-append old.before old.text))
    c.take_from-json.ensures.before c.take_from-json.ensures.tokens c.take_from-json.ensures.has_failed c.push_message.ensures
    c.put_line.ensures.before c.put_line.ensures.text
