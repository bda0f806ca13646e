use Rattle.std.proofs.Common.{◌∙◌, ap, length, rules}
use Rattle.linegrep_files.specs.ParentFiles.{none_named}
use Rattle.linegrep_files.proofs.IgnoreFileLemmas.{place-then}
use Rattle.linegrep_files.proofs.ParentLemmas.{named-next}
use Rattle.linegrep_files.proofs.ignores.Ignores.add_named.Goals as goal

pub loop-path-init : goal.loop-path-init
loop-path-init g c = record { place = search rules; named = rw c.requires.layers none_named }

pub loop-path-preserved : goal.loop-path-preserved
loop-path-preserved g c =
    let place = c.loop-path.invariant.place in
    record {
      place = place-then _ _ _ place c.add_file.ensures.place;
      named = named-next (g.S.Folders.facts c.args.system.now) c.args.self.now.sources.ignores_case
          c.args.paths.now c.loop-path.path-index _ _ _ c.loop-path-test.true c.loop-path.invariant.named
          (rw (
            ap (λ s. s.ignores_case) place.source.sources,
            ap (λ p. length p.items) place.path
                ∙ ap length c.requires.path,
          ) at c.in_ok-add_file.ensures.file);
    }
