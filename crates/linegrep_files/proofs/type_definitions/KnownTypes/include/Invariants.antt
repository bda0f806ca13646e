use Rattle.std.proofs.Common.{◌≡◌, ◌++◌, map, take}
use Rattle.linegrep_files.specs.TypeDefinitions.{globs_of, pairs_of}
use Rattle.linegrep_files.proofs.type_definitions.KnownTypes.include.Given as goal

abbrev pub invariant-loop-at : goal.invariant-loop-at
invariant-loop-at l = record {
  definitions : pairs_of l.self.definitions.items ≡ pairs_of l.fn.self.definitions.items
      ++ map (λ glob. (l.name, glob)) (globs_of (pairs_of (take l.at l.fn.self.definitions.items)) l.other);
  selections : l.self.selections ≡ l.fn.self.selections;
}
