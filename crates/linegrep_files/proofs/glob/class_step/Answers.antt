use Rattle.std.proofs.Common.{◌∙◌, ◌∷◌, ap, subst, sym}
use Rattle.grep_ignore.proofs.ClassLemmas.{begins-is}
use Rattle.linegrep_files.specs.ClassTexts.{IsClassOf}
use Rattle.linegrep_files.specs.Globs.{of_class}
use Rattle.linegrep_files.proofs.PieceLemmas.{class-fault, on-errors}
use Rattle.linegrep_files.proofs.glob.class_step.Goals as goal

pub returns-clause-ok : goal.returns-clause-ok
returns-clause-ok c =
    let (class, is, closes) = c.in_ok-class.ensures.text in
    λ begins. of_class _ class _
    (begins-is 91 c.args.text.now c.requires ∙ ap (λ l. 91 ∷ l) (sym c.tail.ensures ∙ is)) closes
    (subst (λ t. IsClassOf c.args.ignores_case c.in_ok-class.class.set t c.in_ok-class.class.rest.now) is
    c.in_ok-class.ensures.set)

pub returns-in_err-class-clause-err : goal.returns-in_err-class-clause-err
returns-in_err-class-clause-err c = on-errors _ (class-fault c.args.text.now c.tail.result.now c.requires
    c.tail.ensures c.in_err-class.ensures.malformed)
