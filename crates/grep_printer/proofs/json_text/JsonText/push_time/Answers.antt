use Rattle.grep_printer.specs.JsonMessages.{time_json}
use Rattle.grep_printer.proofs.json_text.JsonText.push_time.Goals as goal

pub returns-in-Ok : goal.returns-in-Ok
unfolding time_json
returns-in-Ok c =
    simp (c.as_str.ensures.value, c.in-Ok.ensures, c.microseconds.ensures) at c.push_all.ensures
