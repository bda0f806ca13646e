use Rattle.std.proofs.Common.{length, ◌≡◌, ℕ, ◌+◌, Bool, List, ◌≤◌, drop}
use Rattle.grep_ignore.specs.declared.wildcards.Piece.TheVariants.{Folders}
use Rattle.grep_ignore.specs.Rows.{IsRow, slash_step, step}
use Rattle.grep_ignore.proofs.RowLemmas.{IsPartly}
use Rattle.grep_ignore.proofs.rows.match_folders.Given as goal

abbrev pub invariant-loop-at : goal.invariant-loop-at
invariant-loop-at l = record {
  within : l.at ≤ length l.path;
  size : length l.row ≡ length l.path + 1;
  row : (f : List ℕ → Bool) → IsRow f l.path l.fn.row → IsPartly l.at f (step Folders f) l.path l.row;
  after : (f : List ℕ → Bool) → IsRow f l.path l.fn.row → l.after ≡ f (drop l.at l.path);
  ends : (f : List ℕ → Bool) → IsRow f l.path l.fn.row → l.ends_folders ≡ slash_step f (drop l.at l.path);
}

abbrev pub decreases-loop-at : goal.decreases-loop-at
decreases-loop-at l = l.at
