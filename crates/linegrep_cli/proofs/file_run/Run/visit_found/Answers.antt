use Rattle.std.proofs.Common.{◌∙◌, refl, sym}
use Rattle.linegrep_cli.specs.OperandRuns.{of_found_all, of_unfound_all}
use Rattle.linegrep_cli.proofs.file_run.Run.visit_found.Goals as goal

pub returns-then-is_some : goal.returns-then-is_some
returns-then-is_some g c = rw c.failed.ensures (of_unfound_all (sym c.is_some.ensures ∙ c.if-is_some.true))

pub returns-then-is_here : goal.returns-then-is_here
returns-then-is_here g c = of_found_all c.visit_sorted-visit.result _ (sym c.is_some.ensures ∙ c.if-is_some.false)
    c.visit_sorted-visit.ensures
    (rw (sym c.is_here.ensures ∙ c.if-is_here.true) (rw c.add_error.ensures at c.say_if_none.ensures))

pub returns-else-is_here : goal.returns-else-is_here
returns-else-is_here g c = of_found_all c.visit_sorted-visit.result _ (sym c.is_some.ensures ∙ c.if-is_some.false)
    c.visit_sorted-visit.ensures
    (rw (sym c.is_here.ensures ∙ c.if-is_here.false) (c.add_error.ensures, refl))
