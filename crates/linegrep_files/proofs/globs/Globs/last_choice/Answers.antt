use Rattle.std.proofs.Common.{inr}
use Rattle.linegrep_files.proofs.globs.Globs.last_choice.Goals as goal

pub returns-in-Some : goal.returns-in-Some
returns-in-Some c =
    let (last, within, is, about, none) = rw c.in-Some.is at c.in_ok-rule.ensures in
    inr (last, c.in-Some.rule.now, within, is, about, c.choice.ensures, none)
