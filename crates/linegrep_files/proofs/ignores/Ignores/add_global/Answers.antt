use Rattle.std.specs.Prelude.{string_bytes}
use Rattle.linegrep_files.specs.ParentFiles.{no_global, of_global}
use Rattle.linegrep_files.proofs.ignores.Ignores.add_global.Goals as goal

pub returns-in_ok-add_file-in-Some-clause-global : goal.returns-in_ok-add_file-in-Some-clause-global
returns-in_ok-add_file-in-Some-clause-global g c = of_global (string_bytes c.in-Some.path)
    (rw c.in-Some.is at c.in_ok-path.ensures)
    (rw (c.as_str.ensures.value, c.requires) at c.in_ok-add_file-in-Some.ensures.file)

pub returns-in-None-clause-global : goal.returns-in-None-clause-global
returns-in-None-clause-global g c = no_global (rw c.in-None.is at c.in_ok-path.ensures)
