use Rattle.std.proofs.Common.{take}
use Rattle.linegrep_files.specs.IgnoreFiles.{HasPlace}
use Rattle.linegrep_files.specs.ParentFiles.{AreNamedRead}
use Rattle.linegrep_files.proofs.ignores.Ignores.add_named.Given as goal

abbrev pub invariant-loop-path : goal.invariant-loop-path
invariant-loop-path g l = record {
  place : HasPlace l.fn.self l.self;
  named : AreNamedRead (g.S.Folders.facts l.system) l.fn.self.sources.ignores_case
      (take l.path-index l.paths) l.self.layers;
}
