use Rattle.std.proofs.Common.{string_bytes}
use Rattle.linegrep_help.specs.ManualTexts.{manual}
use Rattle.linegrep_help.proofs.TextLemmas.{six-texts, two-texts}
use Rattle.linegrep_help.proofs.manual.manual_text.Goals as goal

pub returns-clause-page : goal.returns-clause-page
unfolding manual
returns-clause-page c =
    let whole = string_bytes c.push_str-2.new.self in
    six-texts (string_bytes c.in_ok-text.text) (string_bytes c.push_three.new.text)
    (string_bytes c.push_three-2.new.text) (string_bytes c.push_options.new.text)
    (string_bytes c.push_three-3.new.text) whole _ _ _ _ _ _ c.in_ok-text.ensures.ok
    c.in_ok-push_three.ensures c.in_ok-push_three-2.ensures c.in_ok-push_options.ensures
    c.in_ok-push_three-3.ensures
    (two-texts (string_bytes c.push_three-3.new.text) (string_bytes c.push_str.new.self) whole _ _
    c.in_ok-push_str.ensures.bytes c.in_ok-push_str-2.ensures.bytes)
