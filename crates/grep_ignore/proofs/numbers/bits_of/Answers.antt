use Rattle.std.proofs.Common.{refl, arith, ◌-◌}
use Rattle.std.proofs.lemmas.Nat.{and_le_r}
use Rattle.grep_ignore.specs.Chains.{bits_of}
use Rattle.grep_ignore.proofs.numbers.bits_of.Goals as goal

pub returns-clause-same : goal.returns-clause-same
unfolding bits_of
returns-clause-same c = refl

pub returns-clause-within : goal.returns-clause-within
returns-clause-within c = omega (arith, c.requires, and_le_r c.args.number (c.args.size - 1))
