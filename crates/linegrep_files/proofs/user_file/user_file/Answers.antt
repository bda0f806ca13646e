use Rattle.std.specs.Prelude.{string_bytes}
use Rattle.linegrep_files.specs.UserFiles.{of_others, of_own_settings}
use Rattle.linegrep_files.proofs.user_file.user_file.Goals as goal

pub returns-in-Some : goal.returns-in-Some
returns-in-Some g c = of_own_settings (string_bytes c.in_ok-home.home) _ c.in_ok-home.ensures
    (rw (c.in-Some.is, c.as_str-home.ensures.value) at c.in_ok-path.ensures)

pub returns : goal.returns
returns g c = of_others (string_bytes c.in_ok-home.home) c.in_ok-home.ensures
    (rw (c.in-None.is, c.as_str-home.ensures.value) at c.in_ok-path.ensures)
    (rw c.as_str-home.ensures.value at c.in_ok-path-in-None.ensures)
