use Rattle.std.proofs.Common.{◌≡◌, ◌++◌, map}
use Rattle.linegrep_files.specs.TypeDefinitions.{pairs_of}
use Rattle.linegrep_files.proofs.type_definitions.KnownTypes.add_line.Given as goal

abbrev pub invariant-loop-glob : goal.invariant-loop-glob
invariant-loop-glob l = record {
  definitions : pairs_of l.self.definitions.items ≡ pairs_of l.fn.self.definitions.items
      ++ map (λ glob. (l.name, glob)) (map (λ x. x.now) l.yielded);
  selections : l.self.selections ≡ l.fn.self.selections;
}
