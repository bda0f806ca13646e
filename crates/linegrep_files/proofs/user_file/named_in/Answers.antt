use Rattle.std.proofs.Common.{subst}
use Rattle.std.specs.Prelude.{None}
use Rattle.linegrep_files.specs.GitFiles.{bytes_in}
use Rattle.linegrep_files.specs.UserFiles.{IsInHome, of_no_setting}
use Rattle.linegrep_files.proofs.user_file.named_in.Goals as goal

pub returns-in_ok-path-in-Some : goal.returns-in_ok-path-in-Some
returns-in_ok-path-in-Some c = subst (λ file. IsInHome c.args.home.now file (bytes_in c.in_ok-path-in-Some.path))
    (rw c.in-Some.is at c.in_ok-file.ensures) (rw c.as_slice.ensures.value at c.in_ok-path-in-Some.ensures)

pub returns-in-None : goal.returns-in-None
returns-in-None c = subst (λ file. IsInHome c.args.home.now file None)
    (rw c.in-None.is at c.in_ok-file.ensures) of_no_setting
