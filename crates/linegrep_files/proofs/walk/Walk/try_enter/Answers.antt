use Rattle.std.proofs.Common.{◌∙◌, refl, subst}
use Rattle.linegrep_files.proofs.FoundLemmas.{same-self}
use Rattle.linegrep_files.proofs.NoteLemmas.{noted-as}
use Rattle.linegrep_files.proofs.WalkLemmas.{is-deep, isnt-deep}
use Rattle.linegrep_files.specs.Notes.{IsNote}
use Rattle.linegrep_files.specs.Walks.{of_deep, of_deep_folder, of_folder, of_names, of_unread, of_unread_folder}
use Rattle.linegrep_files.specs.declared.notes.Reason.TheVariants.{Deep}
use Rattle.linegrep_files.proofs.walk.Walk.try_enter.Goals as goal

pub returns-then-not-allows_depth-clause-entered : goal.returns-then-not-allows_depth-clause-entered
returns-then-not-allows_depth-clause-entered g c =
    of_deep (is-deep c.limits.ensures c.depth.ensures c.allows_depth.ensures c.if-not-allows_depth.true) refl
    c.note.ensures.same

pub returns-then-not-allows_depth-clause-noted : goal.returns-then-not-allows_depth-clause-noted
returns-then-not-allows_depth-clause-noted g c = of_deep_folder
    (is-deep c.limits.ensures c.depth.ensures c.allows_depth.ensures c.if-not-allows_depth.true)
    (noted-as _ _ (λ notes (note, are, says). (
      note,
      are,
      subst (λ path. IsNote c.args.choices.now path Deep note) (c.in_ok-deep.ensures.ok ∙ c.name_of.ensures) says,
    ))
    c.args.choices.now c.note.new.self c.in_ok-note.ensures.noted)

pub returns-in-Ok-clause-entered : goal.returns-in-Ok-clause-entered
returns-in-Ok-clause-entered g c = of_names c.in-Ok.names
    (isnt-deep c.limits.ensures c.depth.ensures c.allows_depth.ensures c.if-not-allows_depth.false)
    (rw (c.in-Ok.is, c.as_str.ensures.value, c.in_ok-path.ensures) at c.names.ensures)
    (rw c.as_slice.ensures.value at c.in_ok-add_names-in-Ok.ensures.added)

pub returns-in-Ok-clause-noted : goal.returns-in-Ok-clause-noted
returns-in-Ok-clause-noted g c = of_folder c.in-Ok.names
    (isnt-deep c.limits.ensures c.depth.ensures c.allows_depth.ensures c.if-not-allows_depth.false)
    (rw (c.in-Ok.is, c.as_str.ensures.value, c.in_ok-path.ensures) at c.names.ensures)
    (rw c.as_slice.ensures.value at c.in_ok-add_names-in-Ok.ensures.noted)

pub returns-clause-entered : goal.returns-clause-entered
returns-clause-entered g c =
    let pushed = c.in_ok-push_unread-in-Err-2.ensures.pending in
    of_unread pushed.0 c.in-Err.error
    (isnt-deep c.limits.ensures c.depth.ensures c.allows_depth.ensures c.if-not-allows_depth.false)
    (rw (c.in-Err.is, c.as_str.ensures.value, c.in_ok-path.ensures) at c.names.ensures)
    (pushed.1 ∙ c.name_of-in-Err-2.ensures) pushed.2 (same-self c.args.choices.now)

pub returns-clause-noted : goal.returns-clause-noted
returns-clause-noted g c = of_unread_folder c.in-Err.error
    (rw (c.in-Err.is, c.as_str.ensures.value, c.in_ok-path.ensures) at c.names.ensures) refl
