use Rattle.linegrep_files.proofs.TypeDefinitionLemmas.{changes-next}
use Rattle.std.proofs.lemmas.Result.{err_from_is_err_and}
use Rattle.linegrep_files.proofs.TypeFaultLemmas.{changes-stop, fault-weaker}
use Rattle.linegrep_files.proofs.type_definitions.KnownTypes.apply_all.Goals as goal

pub loop-change-preserved : goal.loop-change-preserved
loop-change-preserved c = changes-next _ c.args.changes.now c.loop-change.change-index _ _ _
    c.loop-change-test.true c.loop-change.invariant c.in_ok-apply.ensures.changed

pub returns-in_err-apply-clause-malformed : goal.returns-in_err-apply-clause-malformed
returns-in_err-apply-clause-malformed c =
    let error = err_from_is_err_and c.from_residual.result c.from_residual.ensures.1 in
    rw (error.1, error.2) (fault-weaker _ (changes-stop _ c.args.changes.now c.loop-change.change-index _ _
    c.loop-change-test.true c.loop-change.invariant) c.in_err-apply.ensures.malformed)
