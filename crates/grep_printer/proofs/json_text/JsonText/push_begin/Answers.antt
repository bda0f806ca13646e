use Rattle.std.proofs.Common.{append_assoc}
use Rattle.grep_printer.proofs.PushLemmas.{tokens-two}
use Rattle.grep_printer.specs.JsonMessages.{begin_json}
use Rattle.grep_printer.proofs.json_text.JsonText.push_begin.Goals as goal

pub returns : goal.returns
unfolding begin_json
returns c =
    simp append_assoc (tokens-two c.args.self.now c.push_head.new.self c.push_all.new.self _ _ c.push_head.ensures c.push_all.ensures)
