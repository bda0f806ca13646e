use Rattle.linegrep_files.specs.IgnoreFiles.{HasSource}
use Rattle.linegrep_files.specs.ParentFiles.{AreParentsRead, parents_to}
use Rattle.linegrep_files.proofs.ignores.Ignores.add_parents.Given as goal

abbrev pub invariant-loop-at : goal.invariant-loop-at
invariant-loop-at g l = record {
  place : HasSource l.fn.self l.self;
  parents : AreParentsRead (g.S.Folders.facts l.system) l.fn.self.sources l.fn.self.layers
      (parents_to l.path l.at) l.self.layers l.self.repositories.items;
}
