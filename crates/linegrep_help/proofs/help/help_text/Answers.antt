use Rattle.std.proofs.Common.{string_bytes}
use Rattle.linegrep_help.specs.HelpTexts.{help}
use Rattle.linegrep_help.proofs.TextLemmas.{six-texts}
use Rattle.linegrep_help.proofs.help.help_text.Goals as goal

pub returns : goal.returns
unfolding help
returns c = six-texts (string_bytes c.in_ok-text.text) (string_bytes c.push_three.new.text)
    (string_bytes c.push_three-2.new.text) (string_bytes c.push_options.new.text)
    (string_bytes c.push_str.new.self) (string_bytes c.push_str-2.new.self) _ _ _ _ _ _
    c.in_ok-text.ensures.ok c.in_ok-push_three.ensures c.in_ok-push_three-2.ensures
    c.in_ok-push_options.ensures c.in_ok-push_str.ensures.bytes c.in_ok-push_str-2.ensures.bytes
