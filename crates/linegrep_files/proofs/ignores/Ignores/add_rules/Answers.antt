use Rattle.std.proofs.Common.{◌≡◌, ◌++◌, ◌∙◌, ap, length, rules, sym}
use Rattle.std.proofs.lemmas.Bool.{false≢true}
use Rattle.linegrep_files.proofs.IgnoreFileLemmas.{rules-added}
use Rattle.linegrep_files.proofs.ignores.Ignores.add_rules.Goals as goal

pub returns-clause-rules : goal.returns-clause-rules
returns-clause-rules c = let (read, faults, are_rules, are_faults, are) = c.in_ok-add_lines.ensures in
    let here : c.len.result ≡ length c.args.self.now.path.items = search rules in
    rules-added _ c.args.origin c.args.depth (length c.args.self.now.path.items) _ _ c.args.self.now.layers
    c.insert.new.self c.warn_of.new.self.layers read c.add_lines.new.self faults c.in_ok-file.file c.len.result are
    (are_rules ∙ ap (λ before. before ++ read) c.new-rules.ensures) c.warn_of.ensures.layers here
    (λ none. false≢true (sym c.if-is_empty.false ∙ c.is_empty.ensures.1 none))
    c.in_ok-file.ensures.ok c.in_ok-insert.ensures.ok
