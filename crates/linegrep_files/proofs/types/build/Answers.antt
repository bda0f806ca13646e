use Rattle.std.proofs.Common.{◌≡◌, ◌<◌, ◌∙◌, ap, arith, inl, length, sym, take}
use Rattle.std.proofs.lemmas.List.{take_all}
use Rattle.linegrep_files.proofs.TypeDefinitionLemmas.{asked-is, globs-of-next, known-next}
use Rattle.std.proofs.lemmas.Result.{err_from_is_err_and}
use Rattle.linegrep_files.proofs.TypeFaultLemmas.{any-selected, any-unusable, fault-weaker}
use Rattle.linegrep_files.proofs.types.build.Goals as goal

pub loop-selection-preserved : goal.loop-selection-preserved
loop-selection-preserved c =
    let below : c.loop-selection.selection-index < length c.args.known.now.selections.items =
    omega (arith, ap length c.deref-selection-items.ensures.value) in
    let knows = rw c.deref-selection-items.ensures.value at (sym c.knows.ensures ∙ c.if-not-knows.false) in
    let globs = rw c.deref-selection-items.ensures.value at c.in_ok-add_globs.ensures.globs in
    record {
      known = known-next _ c.args.known.now.selections.items c.loop-selection.selection-index _ below knows
          c.loop-selection.invariant.known;
      asked = c.add_globs.ensures.asked ∙ c.loop-selection.invariant.asked;
      globs = globs-of-next _ c.args.known.now.selections.items c.loop-selection.selection-index _ _ below
          (globs _ c.loop-selection.invariant.globs);
    }

pub returns-clause-selected : goal.returns-clause-selected
returns-clause-selected c =
    let all : take c.loop-selection.selection-index c.args.known.now.selections.items ≡ c.args.known.now.selections.items =
    take_all _ _ (omega (arith, ap length c.deref-selection-items.ensures.value)) in
    record {
      known_all = rw all at c.loop-selection.invariant.known;
      asked = c.loop-selection.invariant.asked ∙ asked-is c.args.known.now.selections.items;
      globs = rw all at c.loop-selection.invariant.globs;
    }

pub returns-then-not-knows-clause-unusable : goal.returns-then-not-knows-clause-unusable
returns-then-not-knows-clause-unusable c =
    let below : c.loop-selection.selection-index < length c.args.known.now.selections.items =
    omega (arith, ap length c.deref-selection-items.ensures.value) in
    any-selected _ c.args.known.now.selections.items c.loop-selection.selection-index _ below
    (inl (rw c.deref-selection-items.ensures.value at (sym c.knows.ensures ∙ c.if-not-knows.true)))

pub returns-in_err-add_globs-clause-unusable : goal.returns-in_err-add_globs-clause-unusable
returns-in_err-add_globs-clause-unusable c =
    let below : c.loop-selection.selection-index < length c.args.known.now.selections.items =
    omega (arith, ap length c.deref-selection-items.ensures.value) in
    let malformed = rw c.deref-selection-items.ensures.value at c.in_err-add_globs.ensures.malformed in
    let error = err_from_is_err_and c.from_residual.result c.from_residual.ensures.1 in
    rw (error.1, error.2) (fault-weaker _ (any-unusable _ c.args.known.now.selections.items
    c.loop-selection.selection-index _ below) malformed)
