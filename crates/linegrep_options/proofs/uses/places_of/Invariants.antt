use Rattle.std.proofs.Common.{◌≡◌, ◌+◌, ◌++◌, drop}
use Rattle.linegrep_options.specs.OptionUses.{places_of}
use Rattle.linegrep_options.proofs.uses.places_of.Given as goal

abbrev pub invariant-loop-at : goal.invariant-loop-at
invariant-loop-at l =
    l.places.items ++ places_of l.option (l.at + 1) (drop l.at l.uses) ≡ places_of l.option 1 l.uses
