use Rattle.std.proofs.Common.{◌≡◌, false, All, map, take}
use Rattle.std.specs.List.{list_any}
use Rattle.grep_regex.specs.Clear.{is_among}
use Rattle.grep_regex.proofs.refused.first_in_texts.Given as goal

abbrev pub invariant-loop-i : goal.invariant-loop-i
invariant-loop-i l = All (λ p. list_any (is_among l.bytes) p ≡ false) (map (λ p. p.now) (take l.i l.patterns))
