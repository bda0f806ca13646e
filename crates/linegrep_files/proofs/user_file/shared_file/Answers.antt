use Rattle.std.specs.Prelude.{string_bytes}
use Rattle.linegrep_files.specs.UserFiles.{of_default, of_shared_settings}
use Rattle.linegrep_files.proofs.user_file.shared_file.Goals as goal

pub returns-in-Some : goal.returns-in-Some
returns-in-Some g c = of_shared_settings (string_bytes c.in_ok-folder.folder) _ c.in_ok-folder.ensures
    (rw (c.in-Some.is, c.as_str-folder.ensures.value) at c.in_ok-path.ensures)

pub returns : goal.returns
returns g c = rw (c.in_ok-path-in-None.ensures, c.as_str-folder.ensures.value)
    (of_default (string_bytes c.in_ok-folder.folder) c.in_ok-folder.ensures
    (rw (c.in-None.is, c.as_str-folder.ensures.value) at c.in_ok-path.ensures))
