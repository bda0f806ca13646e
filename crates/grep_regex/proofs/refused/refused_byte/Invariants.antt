use Rattle.std.proofs.Common.{All, map, take}
use Rattle.regex_hir.specs.Meaning.{meaning}
use Rattle.grep_regex.specs.NamedBytes.{HasByte, IsNameable}
use Rattle.grep_regex.proofs.refused.refused_byte.Given as goal

abbrev pub invariant-loop-byte : goal.invariant-loop-byte
invariant-loop-byte l = All (λ byte. IsNameable l.options (map (λ p. p.now) l.patterns) byte
    × HasByte l.bytes byte (meaning l.hir) → ⊥) (take l.byte-index l.bytes)
