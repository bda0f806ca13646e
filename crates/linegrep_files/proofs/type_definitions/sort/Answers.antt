use Rattle.std.proofs.Common.{rules}
use Rattle.std.proofs.lemmas.Fn.{always_returns_same}
use Rattle.std.specs.Ordering.{is_lt}
use Rattle.linegrep_files.specs.TypeDefinitions.{definition_order}
use Rattle.linegrep_files.proofs.TypeListLemmas.{definition-ranks}
use Rattle.linegrep_files.proofs.type_definitions.sort.Goals as goal

pub returns-clause-sorted : goal.returns-clause-sorted
returns-clause-sorted c = c.sort_unstable_by.ensures.sorted (λ one other. is_lt (definition_order one other))
    definition-ranks (always_returns_same _ _ _ (λ a r f called. search rules))
