use Rattle.std.proofs.Common.{[], ◌∷◌, ◌++◌, arith, ◌∙◌, sym}
use Rattle.std.proofs.lemmas.Grind.{common_steps}
use Rattle.std.proofs.lemmas.List.{take_more}
use Rattle.std.proofs.lemmas.Slice.Zip.{all_zipped_more}
use Rattle.uses.proofs.totals.count_in_paths.Goals as goal

pub loop-path-preserved : goal.loop-path-preserved
loop-path-preserved g c =
    let (kept, total) = c.loop-path.invariant in let counted = c.in_ok-count_in_path.ensures in (
      (counted.settings ∙ kept.0, λ had. counted.buffers (kept.1 had)),
      λ by. (
        (total by).0 ++ c.in_ok-count_in_path.field-0 ∷ [],
        rw (take_more c.args.paths.now c.loop-path.path-index c.path-item.result c.loop-path-test.true)
            (all_zipped_more _ _ _ _ _ (total by).1 (rw (sym c.path-item.is) ((rw kept.0 at counted.count) by))),
        grind (arith, common_steps, (total by).2, c.saturating_add-total.ensures),
      ),
    )
