use Rattle.std.proofs.Common.{◌∙◌, ◌∷◌, ◌++◌, [], ap, sym}
use Rattle.linegrep_files.proofs.GlobTextLemmas.{glob-of-text}
use Rattle.std.proofs.lemmas.Result.{err_from_is_err_and}
use Rattle.linegrep_files.proofs.MalformedLemmas.{braces-malformed}
use Rattle.linegrep_files.proofs.glob.Glob.read.Goals as goal

pub returns-clause-ok : goal.returns-clause-ok
returns-clause-ok c =
    let (pieces, is, are) = c.in_ok-add.ensures.ok in
    glob-of-text _ _ c.args.text.now c.add.new.self pieces (sym c.has_braces.ensures ∙ c.if-has_braces.false)
    (is ∙ ap (λ l. l ++ pieces ∷ []) c.new.ensures.items) are

pub returns-in_err-texts-clause-err : goal.returns-in_err-texts-clause-err
returns-in_err-texts-clause-err c =
    let error = err_from_is_err_and c.from_residual.result c.from_residual.ensures.1 in
    rw (error.1, error.2) (braces-malformed _ c.args.ignores_case c.args.text.now
    (sym c.has_braces.ensures ∙ c.if-has_braces.true) c.in_err-texts.ensures.err)
