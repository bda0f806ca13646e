use Rattle.std.proofs.Common.{map, take}
use Rattle.regex_hir.specs.Meaning.{meaning, cat_all}
use Rattle.grep_regex.specs.NamedBytes.{HasByte}
use Rattle.grep_regex.proofs.refused.+has_byte.Given as goal

abbrev pub invariant-one_has_byte-loop-i : goal.invariant-one_has_byte-loop-i
invariant-one_has_byte-loop-i l = HasByte l.bytes l.byte (cat_all (map meaning (take l.i l.subs))) → ⊥
