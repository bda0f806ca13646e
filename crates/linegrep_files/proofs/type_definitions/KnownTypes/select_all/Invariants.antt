use Rattle.std.proofs.Common.{◌≡◌, ◌++◌, [], map, take}
use Rattle.linegrep_files.specs.TypeDefinitions.{chosen_of, names_after, pairs_of}
use Rattle.linegrep_files.proofs.TypeDefinitionLemmas.{last_name}
use Rattle.linegrep_files.proofs.type_definitions.KnownTypes.select_all.Given as goal

abbrev pub invariant-loop-at : goal.invariant-loop-at
invariant-loop-at l = record {
  last : l.last ≡ last_name [] (pairs_of (take l.at l.fn.self.definitions.items));
  selections : chosen_of l.self.selections.items ≡ chosen_of l.fn.self.selections.items
      ++ map (λ one. (one, l.is_exclusion)) (names_after [] (pairs_of (take l.at l.fn.self.definitions.items)));
  definitions : l.self.definitions ≡ l.fn.self.definitions;
}
