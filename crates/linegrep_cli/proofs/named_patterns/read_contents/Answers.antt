use Rattle.std.proofs.Common.{◌∙◌, sym}
use Rattle.linegrep_cli.specs.NamedPatterns.{of_failed_file, of_file}
use Rattle.linegrep_cli.proofs.PatternLemmas.{input-read, input-unread}
use Rattle.linegrep_cli.proofs.named_patterns.read_contents.Goals as goal

pub returns-then-is_input-clause-read : goal.returns-then-is_input-clause-read
returns-then-is_input-clause-read g c = input-read g.R.Source.remaining g.R.Source.step
    (g.S.Folders.facts c.args.system.now).reads c.args.file.now c.args.input.now _ c.read_input.result
    (sym c.is_input.ensures ∙ c.if-is_input.true) c.read_input.ensures.read

pub returns-then-is_input-clause-unread : goal.returns-then-is_input-clause-unread
returns-then-is_input-clause-unread g c = input-unread g.R.Source.remaining g.R.Source.step
    (g.S.Folders.facts c.args.system.now).reads c.args.file.now c.args.input.now _ c.read_input.result
    (sym c.is_input.ensures ∙ c.if-is_input.true) c.read_input.ensures.failed

pub returns-in-Ok-clause-read : goal.returns-in-Ok-clause-read
returns-in-Ok-clause-read g c = of_file c.in-Ok.contents (sym c.is_input.ensures ∙ c.if-is_input.false) c.in-Ok.ensures

pub returns-in-Err-clause-unread : goal.returns-in-Err-clause-unread
returns-in-Err-clause-unread g c = λ caused.
    of_failed_file c.in-Err.error (sym c.is_input.ensures ∙ c.if-is_input.false) c.in-Err.ensures
