use Rattle.std.proofs.lemmas.Result.{err_from_is_err_and}
use Rattle.std.proofs.Common.{◌++◌, ◌∙◌, [], ap, append_assoc, refl, sym}
use Rattle.std.proofs.lemmas.Bool.{eqb-true}
use Rattle.std.proofs.lemmas.List.{nil_from_length}
use Rattle.linegrep_files.proofs.BraceLemmas.{one-text, read-none}
use Rattle.linegrep_files.proofs.MalformedLemmas.{end-malformed, rest-malformed}
use Rattle.linegrep_files.proofs.braces.texts_of.Goals as goal

pub loop-rest-init : goal.loop-rest-init
loop-rest-init c = ([], refl, read-none _ _ c.in-Ok.ensures.0 c.in-Ok.ensures.1, one-text _ c.in-Ok.ensures.1)

pub loop-rest-preserved : goal.loop-rest-preserved
loop-rest-preserved c =
    let (done, is, read, few) = c.loop-rest.invariant in
    let (part, ends, more) = c.in_ok-rest.ensures.read in (
      done ++ part,
      is ∙ ap (λ l. done ++ l) ends ∙ sym (append_assoc done part _),
      more done read,
      c.in_ok-rest.ensures.few few,
    )

pub returns-in_err-rest-clause-err : goal.returns-in_err-rest-clause-err
returns-in_err-rest-clause-err c =
    let (done, is, read, few) = c.loop-rest.invariant in
    let error = err_from_is_err_and c.from_residual.result c.from_residual.ensures.1 in
    rw (error.1, error.2) (rest-malformed _ _ _ c.args.glob.now done c.loop-rest.rest.now is read
    c.in_err-rest.ensures.err)

pub returns-clause-err : goal.returns-clause-err
returns-clause-err c =
    let (done, is, read, few) = c.loop-rest.invariant in
    let none = nil_from_length _ (eqb-true _ 0 (sym c.is_empty.ensures ∙ c.loop-rest-test.false)) in
    end-malformed c.complete.result _ _ c.args.glob.now done (is ∙ ap (λ l. done ++ l) none) read
    c.complete.ensures.err
