use Rattle.std.proofs.Common.{◌≡◌, ◌-◌, ◌<◌, ◌≤◌, slice_index}
use Rattle.grep_lines.proofs.LinePositionLemmas.{IsBack}
use Rattle.grep_lines.proofs.preceding_lines.preceding_by_pos.Given as goal

abbrev pub invariant-loop-left : goal.invariant-loop-left
invariant-loop-left l = record {
  few : l.left ≤ l.count;
  within : l.start ≤ l.pos;
  closed : 0 < l.start → slice_index l.bytes (l.start - 1) ≡ l.terminator;
  back : IsBack l.terminator l.bytes l.pos l.start (l.count - l.left);
}

abbrev pub decreases-loop-left : goal.decreases-loop-left
decreases-loop-left l = l.left
