use Rattle.std.proofs.Common.{◌≡◌, ◌+◌, ◌≤◌, drop, length}
use Rattle.grep_regex.specs.Classes.{decision}
use Rattle.grep_regex.proofs.DecisionLemmas.{AreLow}
use Rattle.grep_regex.proofs.classes.decide.Given as goal

abbrev pub invariant-loop-k : goal.invariant-loop-k
invariant-loop-k l = record {
  same : decision l.sets l.haystack l.at ≡ decision (drop l.k l.sets) l.haystack (l.at + l.k);
  low : AreLow l.haystack l.at (l.at + l.k);
  fits : l.at + l.k ≤ length l.haystack;
}
