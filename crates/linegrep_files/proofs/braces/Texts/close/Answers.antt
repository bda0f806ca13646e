use Rattle.std.proofs.lemmas.Result.{err_from_is_err_and}
use Rattle.linegrep_files.proofs.BraceLemmas.{closed-texts}
use Rattle.linegrep_files.proofs.MalformedLemmas.{close-malformed}
use Rattle.linegrep_files.proofs.braces.Texts.close.Goals as goal

pub returns-in-Ok-clause-ok : goal.returns-in-Ok-clause-ok
returns-in-Ok-clause-ok c = (
  c.in-Some.brace,
  c.in-Some.ensures.items,
  closed-texts _ _ _ _ _ c.in-Ok.ensures.items
      (rw (c.as_slice.ensures.value, c.as_slice-in-Ok.ensures.value) at c.in_ok-self-in-Ok.ensures.ok),
)

pub returns-in_err-self-in-Ok-clause-err : goal.returns-in_err-self-in-Ok-clause-err
returns-in_err-self-in-Ok-clause-err c = let error = err_from_is_err_and c.from_residual.result c.from_residual.ensures.1 in
    rw (error.1, error.2) (close-malformed _ _ _ c.in-Some.brace _ _ c.in-Some.ensures.items c.in-Ok.ensures.items
    (rw (c.as_slice.ensures.value, c.as_slice-in-Ok.ensures.value) at c.in_err-self-in-Ok.ensures.err))

pub returns-in-Ok-clause-few : goal.returns-in-Ok-clause-few
returns-in-Ok-clause-few c = c.in_ok-self-in-Ok.ensures.few
