use Rattle.linegrep_files.specs.IgnoreFiles.{of_git, of_jj}
use Rattle.linegrep_files.proofs.ignores.parents.is_top_at.Goals as goal

pub returns-then-branch : goal.returns-then-branch
returns-then-branch g c = of_git (rw c.if-branch.true at c.in_ok-is_mark_there.ensures)

pub returns : goal.returns
returns g c = of_jj (rw c.if-branch.false at c.in_ok-is_mark_there.ensures) c.in_ok-is_top.ensures
