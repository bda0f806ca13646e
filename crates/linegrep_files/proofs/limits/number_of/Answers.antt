use Rattle.linegrep_files.proofs.SizeLemmas.{number-none, number-some}
use Rattle.linegrep_files.proofs.limits.number_of.Goals as goal

pub returns-in-Ok : goal.returns-in-Ok
returns-in-Ok c = number-some _ _ c.args.digits.now c.in-Ok.number c.starts_with.ensures.cases
    c.if-starts_with.false c.parse.ensures.value.0 c.in-Ok.is

pub returns-in-Err : goal.returns-in-Err
returns-in-Err c = number-none _ _ c.args.digits.now _ c.starts_with.ensures.cases
    c.if-starts_with.false c.parse.ensures.value.0 c.in-Err.is
