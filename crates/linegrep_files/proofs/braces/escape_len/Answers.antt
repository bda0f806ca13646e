use Rattle.std.proofs.Common.{◌∙◌, ap, sym}
use Rattle.grep_ignore.specs.Classes.{is_empty}
use Rattle.linegrep_files.proofs.BraceLemmas.{escape-part}
use Rattle.linegrep_files.proofs.MalformedLemmas.{escape-fault}
use Rattle.linegrep_files.proofs.braces.escape_len.Goals as goal

pub returns-else-is_empty-clause-ok : goal.returns-else-is_empty-clause-ok
returns-else-is_empty-clause-ok c = λ is_choice. escape-part is_choice c.args.glob.now c.requires
    (ap is_empty (sym c.tail.ensures) ∙ sym c.is_empty.ensures ∙ c.if-is_empty.false)

pub returns-then-is_empty-clause-err : goal.returns-then-is_empty-clause-err
returns-then-is_empty-clause-err c = escape-fault c.args.glob.now c.requires
    (ap is_empty (sym c.tail.ensures) ∙ sym c.is_empty.ensures ∙ c.if-is_empty.true)
