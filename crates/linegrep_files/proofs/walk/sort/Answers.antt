use Rattle.std.proofs.Common.{rules}
use Rattle.std.proofs.lemmas.Fn.{always_returns_same}
use Rattle.linegrep_files.specs.Walks.{comes_before}
use Rattle.linegrep_files.proofs.WalkLemmas.{order-ranks}
use Rattle.linegrep_files.proofs.walk.sort.Goals as goal

pub returns-clause-sorted : goal.returns-clause-sorted
returns-clause-sorted c =
    c.sort_unstable_by.ensures.sorted (λ one other. comes_before other one)
    order-ranks (always_returns_same _ _ _ (λ a r f called. search rules))
