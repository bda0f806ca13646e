use Rattle.std.proofs.Common.{inr}
use Rattle.linegrep_files.proofs.types.Types.choice.Goals as goal

pub returns-in-Some : goal.returns-in-Some
returns-in-Some c =
    let (last, within, is, has, none) = rw c.in-Some.is at c.in_ok-glob.ensures in
    inr (last, c.in-Some.glob.now, within, is, has, c.choice.ensures, none)
