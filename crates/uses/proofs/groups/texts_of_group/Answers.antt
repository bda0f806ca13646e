use Rattle.std.proofs.lemmas.Result.{err_from_is_err_and}
use Rattle.uses.proofs.groups.texts_of_group.Goals as goal

pub returns-in_err-lines-clause-error : goal.returns-in_err-lines-clause-error
returns-in_err-lines-clause-error g c = λ sound.
    let error = err_from_is_err_and c.from_residual.result c.from_residual.ensures.1 in
    rw (error.1, error.2) (c.in_err-lines.ensures.failure sound)
