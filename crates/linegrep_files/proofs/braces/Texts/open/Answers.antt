use Rattle.std.proofs.Common.{rules}
use Rattle.linegrep_files.proofs.braces.Texts.open.Goals as goal

pub returns : goal.returns
returns c = (
  record { before = c.replace-before.result; choices = c.new-choices.result },
  search rules,
  search rules,
  search rules,
  search rules,
)
