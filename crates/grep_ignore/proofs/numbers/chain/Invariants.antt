use Rattle.grep_ignore.specs.Chains.{AreChained}
use Rattle.grep_ignore.proofs.numbers.chain.Given as goal

abbrev pub invariant-loop-at : goal.invariant-loop-at
invariant-loop-at l = AreChained l.numbers l.before l.last l.at
