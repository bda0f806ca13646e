use Rattle.std.proofs.Common.{◌<◌, ◌∙◌, ap, arith, false, length, refl, sym}
use Rattle.linegrep_files.proofs.TypeDefinitionLemmas.{chosen-more}
use Rattle.std.proofs.lemmas.Result.{err_from_is_err_and}
use Rattle.linegrep_files.specs.MalformedGlobs.{IsMalformedGlob}
use Rattle.linegrep_files.proofs.TypeFaultLemmas.{any-glob, fault-weaker}
use Rattle.linegrep_files.proofs.types.Types.add_globs.Goals as goal

pub loop-definition-preserved-then-is_of : goal.loop-definition-preserved-then-is_of
loop-definition-preserved-then-is_of c =
    let below : c.loop-definition.definition-index < length c.args.known.now.definitions.items =
    omega (arith, ap length c.deref-definition-items.ensures.value) in
    let same = rw c.deref-definition-items.ensures.value at (sym c.is_of.ensures ∙ c.if-is_of.true) in
    let names = rw c.deref-definition-items.ensures.value at c.in_ok-names.ensures.names in
    record {
      asked = c.loop-definition.invariant.asked;
      globs = λ before are. chosen-more before _ _ c.args.known.now.definitions.items c.loop-definition.definition-index
          _ c.args.selection.name.now c.args.selection.is_exclusion _ below same names refl
          c.in_ok-push.ensures.ok (c.loop-definition.invariant.globs before are);
    }

pub returns-in_err-names-clause-malformed : goal.returns-in_err-names-clause-malformed
returns-in_err-names-clause-malformed c =
    let below : c.loop-definition.definition-index < length c.args.known.now.definitions.items =
    omega (arith, ap length c.deref-definition-items.ensures.value) in
    let same = rw c.deref-definition-items.ensures.value at (sym c.is_of.ensures ∙ c.if-is_of.true) in
    let malformed = rw c.deref-definition-items.ensures.value at c.in_err-names.ensures.malformed in
    let error = err_from_is_err_and c.from_residual.result c.from_residual.ensures.1 in
    rw (error.1, error.2) (fault-weaker _ (any-glob (IsMalformedGlob false) c.args.known.now.definitions.items
    c.loop-definition.definition-index _ c.args.selection.name.now below same) malformed)
