use Rattle.std.proofs.lemmas.Result.{err_from_is_err_and}
use Rattle.linegrep_files.proofs.BraceLemmas.{joined-next}
use Rattle.linegrep_files.proofs.MalformedLemmas.{joined-many, malformed-weaker}
use Rattle.linegrep_files.proofs.braces.joined.Goals as goal

pub loop-text-preserved : goal.loop-text-preserved
loop-text-preserved c = (
  joined-next c.args.before.now c.args.choices.now c.loop-text.text-index
      c.text-item.result _ _ c.loop-text-test.true c.text-item.is c.loop-text.invariant.0
      (rw c.as_slice.ensures.value at c.in_ok-add_joined.ensures.ok),
  c.in_ok-add_joined.ensures.few c.loop-text.invariant.1,
)

pub returns-in_err-add_joined-clause-err : goal.returns-in_err-add_joined-clause-err
returns-in_err-add_joined-clause-err c = let error = err_from_is_err_and c.from_residual.result c.from_residual.ensures.1 in
    rw (error.1, error.2) (malformed-weaker _
    (joined-many c.args.before.now c.args.choices.now c.loop-text.texts.items c.loop-text.text-index
    c.text-item.result c.loop-text-test.true c.loop-text.invariant.0) c.in_err-add_joined.ensures.err)
