use Rattle.linegrep_files.specs.GitFiles.{of_folder}
use Rattle.linegrep_files.proofs.git_files.repository_folder.Goals as goal

pub returns : goal.returns
returns g c = of_folder (rw (c.in-None.is, c.as_str.ensures.value, c.in_ok-path.ensures) at c.in_ok-text.ensures)
