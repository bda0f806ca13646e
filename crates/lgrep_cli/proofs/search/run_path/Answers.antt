use Rattle.std.proofs.Common.{◌≡◌, refl}
use Rattle.lgrep_cli.specs.ProgramRuns.{opened, of_opening, of_file}
use Rattle.lgrep_cli.proofs.search.run_path.Goals as goal

pub returns : goal.returns
returns g c =
    let is : c.new.result ≡ opened c.in-Ok.file = rw (c.new.ensures.inner, c.new.ensures.last) refl in
    of_file c.in-Ok.file c.run.new.reader (rw c.path_text.ensures.bytes at (c.in-Ok.ensures))
    (rw is at c.run.ensures)

pub returns-in-Err : goal.returns-in-Err
returns-in-Err g c = of_opening (rw c.path_text.ensures.bytes at (c.in-Err.ensures))
