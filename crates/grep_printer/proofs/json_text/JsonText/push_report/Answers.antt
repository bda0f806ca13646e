use Rattle.std.proofs.Common.{append_assoc}
use Rattle.grep_printer.proofs.PushLemmas.{tokens-two}
use Rattle.grep_printer.specs.JsonMessages.{report_json}
use Rattle.grep_printer.proofs.json_text.JsonText.push_report.Goals as goal

pub returns : goal.returns
unfolding report_json
returns g c =
    let end = c.push_submatches.new.self in
    simp append_assoc (simp (c.name.ensures, append_assoc) at (tokens-two c.args.self.now c.push_head.new.self end _ _ c.push_head.ensures
    (tokens-two c.push_head.new.self c.push.new.self end _ _ c.push.ensures
    (tokens-two c.push.new.self c.push_bytes.new.self end _ _ c.push_bytes.ensures
    (tokens-two c.push_bytes.new.self c.push_all.new.self end _ _ c.push_all.ensures c.push_submatches.ensures)))))
