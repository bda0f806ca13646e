use Rattle.std.proofs.Common.{All, map, take}
use Rattle.grep_regex.specs.NamedBytes.{CanName}
use Rattle.grep_regex.proofs.refused.is_nameable.Given as goal

abbrev pub invariant-loop-i : goal.invariant-loop-i
invariant-loop-i l = All (λ text. CanName l.options l.byte text → ⊥) (map (λ p. p.now) (take l.i l.patterns))
