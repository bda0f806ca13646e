use Rattle.std.proofs.Common.{◌≡◌, fold, map}
use Rattle.linegrep_files.specs.TypeDefinitions.{pairs_of, with_globs_of}
use Rattle.linegrep_files.proofs.type_definitions.KnownTypes.include_all.Given as goal

abbrev pub invariant-loop-other : goal.invariant-loop-other
invariant-loop-other l = record {
  definitions : pairs_of l.self.definitions.items
      ≡ fold (with_globs_of l.name) (pairs_of l.fn.self.definitions.items) (map (λ x. x.now) l.yielded);
  selections : l.self.selections ≡ l.fn.self.selections;
}
