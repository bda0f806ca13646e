use Rattle.linegrep_files.specs.UserFiles.{of_other_bytes, of_text}
use Rattle.linegrep_files.proofs.user_file.in_home.Goals as goal

pub returns-in_ok-named-in-Ok : goal.returns-in_ok-named-in-Ok
returns-in_ok-named-in-Ok c = of_text c.args.path.now c.in-Ok.ensures.cases.1
    (rw c.in-Ok.ensures.cases.0 at c.in_ok-named-in-Ok.ensures)

pub returns-in-Err : goal.returns-in-Err
returns-in-Err c = of_other_bytes c.args.path.now c.in-Err.ensures.cases.0
