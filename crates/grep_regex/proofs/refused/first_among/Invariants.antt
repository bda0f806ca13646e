use Rattle.std.proofs.Common.{◌≡◌, false, take}
use Rattle.std.specs.List.{list_any}
use Rattle.grep_regex.specs.Clear.{is_among}
use Rattle.grep_regex.proofs.refused.first_among.Given as goal

abbrev pub invariant-loop-byte : goal.invariant-loop-byte
invariant-loop-byte l = list_any (is_among l.bytes) (take l.byte-index l.text) ≡ false
