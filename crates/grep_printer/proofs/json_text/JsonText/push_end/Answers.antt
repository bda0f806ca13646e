use Rattle.std.proofs.Common.{append_assoc}
use Rattle.grep_printer.proofs.PushLemmas.{tokens-two}
use Rattle.grep_printer.specs.JsonMessages.{end_json}
use Rattle.grep_printer.proofs.json_text.JsonText.push_end.Goals as goal

pub returns : goal.returns
unfolding end_json
returns c =
    let end = c.push_stats.new.self in
    simp append_assoc (tokens-two c.args.self.now c.push_head.new.self end _ _ c.push_head.ensures
    (tokens-two c.push_head.new.self c.push.new.self end _ _ c.push.ensures
    (tokens-two c.push.new.self c.push-2.new.self end _ _ c.push-2.ensures c.push_stats.ensures)))
