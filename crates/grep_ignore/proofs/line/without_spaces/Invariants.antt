use Rattle.std.proofs.Common.{length, ◌-◌, ◌≡◌, ◌≤◌}
use Rattle.grep_ignore.specs.Lines.{without_spaces}
use Rattle.grep_ignore.proofs.LineLemmas.{cut_at}
use Rattle.grep_ignore.proofs.line.without_spaces.Given as goal

abbrev pub invariant-loop-at : goal.invariant-loop-at
invariant-loop-at l = record {
  within : l.at ≤ length l.text;
  before : l.end ≤ l.at;
  same : without_spaces l.text ≡ cut_at l.text l.at l.end;
}

abbrev pub decreases-loop-at : goal.decreases-loop-at
decreases-loop-at l = length l.text - l.at
