use Rattle.std.proofs.Common.{◌≡◌, true, ℕ, ◌+◌, ◌<◌, slice_index}
use Rattle.grep_regex.specs.NamedBytes.{is_naming}
use Rattle.grep_regex.proofs.refused.has_naming.Given as goal

abbrev pub invariant-loop-i : goal.invariant-loop-i
invariant-loop-i l = (k : ℕ) → k + 1 < l.i → is_naming (slice_index l.text k) (slice_index l.text (k + 1)) ≡ true → ⊥
