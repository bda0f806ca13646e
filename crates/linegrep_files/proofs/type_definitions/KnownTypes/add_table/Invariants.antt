use Rattle.std.proofs.Common.{◌≡◌, ◌++◌, fold, map}
use Rattle.linegrep_files.specs.TypeDefinitions.{line_definitions, pairs_of}
use Rattle.linegrep_files.proofs.type_definitions.KnownTypes.add_table.Given as goal

abbrev pub invariant-loop-line : goal.invariant-loop-line
invariant-loop-line l = record {
  definitions : pairs_of l.self.definitions.items
      ≡ fold (λ definitions line. definitions ++ line_definitions line) (pairs_of l.fn.self.definitions.items)
      (map (λ x. x.now) l.yielded);
  selections : l.self.selections ≡ l.fn.self.selections;
}
