use Rattle.linegrep_cli.specs.Refusals.{of_all, of_each}
use Rattle.std.proofs.Common.{inl, inr}
use Rattle.linegrep_cli.proofs.search.compile_with_template.Goals as goal

pub returns-in-Err-clause-refused : goal.returns-in-Err-clause-refused
returns-in-Err-clause-refused c = λ caused.
    let (error, other, refusal) = c.in-Err.ensures.refused caused in elim refusal [
      | inl whole ↦ of_all error other whole
      | inr single ↦ of_each error other single
    ]
