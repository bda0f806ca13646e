use Rattle.std.proofs.Common.{◌≡◌, ◌∙◌, List, ℕ, ap, map, option_map, string_bytes, subst}
use Rattle.std.specs.Prelude.{IfOk}
use Rattle.grep_regex.specs.Groups.{group_names}
use Rattle.grep_regex.specs.Views.{regex_options, regex_patterns}
use Rattle.grep_replace.specs.Templates.{AreReadFrom}
use Rattle.linegrep_cli.proofs.template.read.Goals as goal

pub returns-in-Ok : goal.returns-in-Ok
returns-in-Ok c =
    let r = c.args.regex.now in
    let names : map (option_map string_bytes) c.deref.result.now ≡ group_names (regex_options r) (regex_patterns r) =
    ap (map (option_map string_bytes)) c.deref.ensures.value ∙ c.in-Ok.ensures in
    subst (λ n. IfOk c.new.result (λ t. AreReadFrom n c.args.text.now t.pieces.items)) names
    (subst (λ (text : List ℕ). IfOk c.new.result (λ t. AreReadFrom (map (option_map string_bytes) c.deref.result.now) text t.pieces.items))
    c.as_bytes.ensures.value c.new.ensures)
