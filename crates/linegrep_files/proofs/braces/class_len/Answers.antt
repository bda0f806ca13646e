use Rattle.std.proofs.Common.{subst}
use Rattle.linegrep_files.specs.ClassTexts.{IsClassBefore}
use Rattle.linegrep_files.proofs.BraceLemmas.{class-part}
use Rattle.linegrep_files.proofs.braces.class_len.Goals as goal

pub returns-in-Ok-clause-ok : goal.returns-in-Ok-clause-ok
returns-in-Ok-clause-ok c = λ is_choice. class-part is_choice c.args.glob.now c.in-Ok.class.rest.now c.requires
    (subst (λ t. IsClassBefore t c.in-Ok.class.rest.now) c.tail.ensures c.in-Ok.ensures.text)
