use Rattle.std.proofs.Common.{◌≡◌, map, take, string_bytes}
use Rattle.linegrep_cli.proofs.patterns.texts_of.Given as goal

abbrev pub invariant-loop-pattern : goal.invariant-loop-pattern
invariant-loop-pattern l = map (λ text. text.now) l.texts.items
    ≡ map string_bytes (take l.pattern-index l.patterns)
