use Rattle.std.proofs.Common.{append_assoc}
use Rattle.grep_printer.proofs.PushLemmas.{tokens-two}
use Rattle.grep_printer.specs.JsonMessages.{stats_json}
use Rattle.grep_printer.proofs.json_text.JsonText.push_stats.Goals as goal

pub returns : goal.returns
unfolding stats_json
returns c =
    simp append_assoc (tokens-two c.args.self.now c.push_all.new.self c.push_all-2.new.self _ _ c.push_all.ensures
    (tokens-two c.push_all.new.self c.push_time.new.self c.push_all-2.new.self _ _ c.push_time.ensures c.push_all-2.ensures))
