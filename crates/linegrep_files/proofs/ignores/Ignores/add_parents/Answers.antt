use Rattle.std.proofs.Common.{◌≡◌, ◌∙◌, rules, take}
use Rattle.linegrep_files.specs.ParentFiles.{no_parent}
use Rattle.linegrep_files.proofs.ParentLemmas.{first-bytes, is-slash, isnt-slash, parents-other, parents-slash}
use Rattle.linegrep_files.proofs.ParentLemmas.{source-then}
use Rattle.linegrep_files.proofs.ignores.Ignores.add_parents.Goals as goal

pub loop-at-init : goal.loop-at-init
loop-at-init g c = record { place = search rules; parents = rw c.requires no_parent }

pub loop-at-preserved-then-as_bytes-at-ne47 : goal.loop-at-preserved-then-as_bytes-at-ne47
loop-at-preserved-then-as_bytes-at-ne47 g c = record {
  place = c.loop-at.invariant.place;
  parents = parents-other _ _ _ c.args.path.now c.loop-at.at _ _
      (isnt-slash _ (rw c.as_bytes.ensures.value at c.if-as_bytes-at-ne47.true)) c.loop-at.invariant.parents;
}

pub loop-at-preserved : goal.loop-at-preserved
loop-at-preserved g c =
    let above : c.range.result.now ≡ take c.loop-at.at c.args.path.now =
    c.range.ensures.value ∙ first-bytes c.args.path.now c.loop-at.at in
    record {
      place = source-then _ _ _ c.loop-at.invariant.place c.add_parent.ensures.place;
      parents = parents-slash _ _ _ c.args.path.now c.loop-at.at _ _ _ _
          (is-slash _ (rw c.as_bytes.ensures.value at c.if-as_bytes-at-ne47.false)) c.loop-at.invariant.parents
          (rw (c.loop-at.invariant.place.sources, above) at c.in_ok-add_parent.ensures.read);
    }
