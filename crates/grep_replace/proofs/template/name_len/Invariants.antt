use Rattle.std.proofs.Common.{ℕ, ◌<◌, get_or, ◌≡◌, true}
use Rattle.regex.specs.Templates.{is_name_byte}
use Rattle.grep_replace.proofs.template.name_len.Given as goal

abbrev pub invariant-loop-i : goal.invariant-loop-i
invariant-loop-i l = (k : ℕ) → k < l.i → is_name_byte (get_or l.bytes k 0) ≡ true
