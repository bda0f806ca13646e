use Rattle.grep_printer.proofs.PushLemmas.{tokens-two}
use Rattle.grep_printer.proofs.json_text.JsonText.push_head.Goals as goal

pub returns : goal.returns
returns c =
    tokens-two c.args.self.now c.push_all.new.self c.push_path.new.self _ _ c.push_all.ensures c.push_path.ensures
