use Rattle.std.proofs.Common.{◌∙◌, ap, sym}
use Rattle.grep_ignore.specs.Classes.{is_empty}
use Rattle.linegrep_files.proofs.GlobRuleLemmas.{added-one}
use Rattle.linegrep_files.proofs.globs.Globs.add.Goals as goal

pub returns-in-Ok-push-clause-ok : goal.returns-in-Ok-push-clause-ok
returns-in-Ok-push-clause-ok c = added-one c.args.ignores_case c.args.text.now _ c.args.self.now.rules
    c.push.new.self c.in-Ok.rule c.as_bytes-2.ensures.value
    (ap is_empty (sym c.as_bytes.ensures.value) ∙ sym c.is_empty.ensures ∙ c.if-is_empty.false)
    c.in-Ok-push.ensures.ok c.in-Ok.ensures.ok

pub returns-in-Err-clause-err : goal.returns-in-Err-clause-err
returns-in-Err-clause-err c = rw c.as_bytes-2.ensures.value at c.in-Err.ensures.err
