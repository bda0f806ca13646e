use Rattle.std.proofs.Common.{◌≡◌, ◌++◌, codes, drop, flat_map, map, string_bytes}
use Rattle.linegrep_cli.specs.PatternOptions.{group_of, joined_text}
use Rattle.linegrep_cli.proofs.patterns.joined_text.Given as goal

abbrev pub invariant-loop-text : goal.invariant-loop-text
invariant-loop-text l = string_bytes l.joined
    ++ flat_map (group_of (codes "|(?:")) (map (λ text. text.now) (drop l.text-index l.later))
    ≡ joined_text (map (λ text. text.now) l.fn.texts)
