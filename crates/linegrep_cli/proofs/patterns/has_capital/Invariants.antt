use Rattle.std.proofs.Common.{◌≡◌, IsUtf8, chars}
use Rattle.std.specs.Str.Iter.{chars_rest}
use Rattle.linegrep_cli.specs.PatternOptions.{has_capital}
use Rattle.linegrep_cli.proofs.CapitalLemmas.{has_capital_after}
use Rattle.linegrep_cli.proofs.patterns.has_capital.Given as goal

abbrev pub invariant-loop-letter : goal.invariant-loop-letter
invariant-loop-letter l = IsUtf8 (chars_rest l.letter-iterator)
    × (has_capital_after l.is_literal l.is_escaped (chars (chars_rest l.letter-iterator))
    ≡ has_capital l.is_literal l.fn.pattern)
