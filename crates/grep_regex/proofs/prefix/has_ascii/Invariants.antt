use Rattle.std.proofs.Common.{◌≤◌, ◌<◌, ◌+◌, ℕ, slice_index}
use Rattle.grep_regex.proofs.prefix.has_ascii.Given as goal

abbrev pub invariant-loop-k : goal.invariant-loop-k
invariant-loop-k l = (q : ℕ) → l.start ≤ q → q < l.start + l.k → slice_index l.haystack q < 128
