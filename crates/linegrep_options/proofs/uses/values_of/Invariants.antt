use Rattle.std.proofs.Common.{◌≡◌, ◌++◌, drop}
use Rattle.linegrep_options.specs.OptionUses.{values_of}
use Rattle.linegrep_options.proofs.uses.values_of.Given as goal

abbrev pub invariant-loop-one : goal.invariant-loop-one
invariant-loop-one l = l.values.items ++ values_of l.option (drop l.one-index l.uses) ≡ values_of l.option l.uses
