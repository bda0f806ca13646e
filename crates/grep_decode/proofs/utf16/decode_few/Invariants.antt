use Rattle.std.proofs.Common.{◌≡◌, ◌+◌, ◌-◌, ◌<◌, ◌≤◌, ◌++◌, true, ℕ, List, [], length, take, drop}
use Rattle.std.proofs.Common.{IsTrue}
use Rattle.grep_decode.specs.Decoded.{utf16_text}
use Rattle.grep_decode.proofs.utf16.decode_few.Given as goal

abbrev pub invariant-loop-written : goal.invariant-loop-written
invariant-loop-written l = record {
  taken : l.taken ≤ length l.input;
  written : l.written ≤ length l.output;
  progress : l.written ≡ 0 → l.taken ≡ 0;
  one : l.was_one ≡ true → 0 < l.written;
  text : (more : List ℕ) → (IsTrue l.is_last → more ≡ [])
      → utf16_text l.order (l.input ++ more) ≡ take l.written l.output
      ++ utf16_text l.order (drop l.taken l.input ++ more);
}

abbrev pub decreases-loop-written : goal.decreases-loop-written
decreases-loop-written l = length l.initial.output + 1 - l.written
