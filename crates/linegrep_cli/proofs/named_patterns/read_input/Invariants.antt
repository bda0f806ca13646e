use Rattle.std.proofs.Common.{◌≡◌, ℕ, List}
use Rattle.std.specs.List.{concat}
use Rattle.grep_searcher.specs.Source.{Pulls}
use Rattle.linegrep_cli.proofs.named_patterns.read_input.Given as goal

abbrev pub invariant-loop : goal.invariant-loop
invariant-loop g l = (pieces : List (List ℕ)) × (l.contents.items ≡ concat pieces)
    × Pulls g.R.Source.step l.fn.input pieces l.input
