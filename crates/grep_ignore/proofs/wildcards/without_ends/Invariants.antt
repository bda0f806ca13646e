use Rattle.std.proofs.Common.{◌↔◌, ◌≤◌, length, take}
use Rattle.grep_ignore.specs.Matches.{Matches}
use Rattle.grep_ignore.proofs.wildcards.without_ends.Given as goal

abbrev pub invariant-loop-count : goal.invariant-loop-count
invariant-loop-count l = record {
  pieces_within : l.count ≤ length l.pieces;
  path_within : l.length ≤ length l.path;
  same : Matches l.pieces l.path ↔ Matches (take l.count l.pieces) (take l.length l.path);
}

abbrev pub decreases-loop-count : goal.decreases-loop-count
decreases-loop-count l = l.count
