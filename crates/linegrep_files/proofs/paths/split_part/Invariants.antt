use Rattle.std.proofs.Common.{length, ◌-◌, ◌≤◌, take}
use Rattle.linegrep_files.proofs.PartLemmas.{NoneEnds}
use Rattle.linegrep_files.proofs.paths.split_part.Given as goal

abbrev pub invariant-loop-at : goal.invariant-loop-at
invariant-loop-at l = record {
  within : l.at ≤ length l.text;
  none : NoneEnds l.end (take l.at l.text);
}

abbrev pub decreases-loop-at : goal.decreases-loop-at
decreases-loop-at l = length l.text - l.at
