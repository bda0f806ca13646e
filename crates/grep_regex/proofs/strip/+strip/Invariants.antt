use Rattle.std.proofs.Common.{map, take}
use Rattle.regex_hir.specs.Meaning.{meaning}
use Rattle.grep_regex.specs.Stripped.{AreStripped}
use Rattle.grep_regex.proofs.strip.+strip.Given as goal

abbrev pub invariant-strip_all-loop-i : goal.invariant-strip_all-loop-i
invariant-strip_all-loop-i l = AreStripped l.bytes (map meaning (take l.i l.subs)) (map meaning l.all.items)
