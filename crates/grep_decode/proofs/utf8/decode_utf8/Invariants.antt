use Rattle.std.proofs.Common.{◌≡◌, ◌+◌, ◌-◌, ◌≤◌, ◌++◌, ℕ, List, [], length, take, drop, IsTrue}
use Rattle.std.specs.Str.Lossy.{utf8_lossy}
use Rattle.grep_decode.proofs.utf8.decode_utf8.Given as goal

abbrev pub invariant-loop-written : goal.invariant-loop-written
invariant-loop-written l = record {
  taken : l.taken ≤ length l.input;
  written : l.written ≤ length l.output;
  text : (more : List ℕ) → (IsTrue l.is_last → more ≡ []) → utf8_lossy (l.input ++ more)
      ≡ take l.written l.output ++ utf8_lossy (drop l.taken l.input ++ more);
  progress : l.written ≡ 0 → l.taken ≡ 0;
}

abbrev pub decreases-loop-written : goal.decreases-loop-written
decreases-loop-written l = length l.initial.output + 1 - l.written
