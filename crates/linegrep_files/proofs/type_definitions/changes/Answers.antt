use Rattle.std.proofs.Common.{rules, subst}
use Rattle.std.specs.List.Sorted.{IsPermutation}
use Rattle.std.proofs.lemmas.Fn.{always_returns_same}
use Rattle.linegrep_files.proofs.TypeDefinitionLemmas.{four-added}
use Rattle.linegrep_files.proofs.type_definitions.changes.Goals as goal

pub returns : goal.returns
returns c = record {
  same = subst (λ l. IsPermutation l c.sort_unstable_by_key.new.self.items)
      (four-added _ _ _ _ _ _ _ _ _ c.new-changes.ensures.items c.in_ok-add_changes.ensures c.in_ok-add_changes-2.ensures
      c.in_ok-add_changes-3.ensures c.in_ok-add_changes-4.ensures) c.sort_unstable_by_key.ensures.permutation;
  sorted = c.sort_unstable_by_key.ensures.sorted (λ change. change.place)
      (always_returns_same _ _ _ (λ a r f called. search rules));
}
