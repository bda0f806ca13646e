use Rattle.std.proofs.Common.{◌≡◌, ◌++◌, map, string_bytes}
use Rattle.linegrep_cli.proofs.named_patterns.add_lines.Given as goal

abbrev pub invariant-loop-line : goal.invariant-loop-line
invariant-loop-line l = map string_bytes l.texts.items
    ≡ map string_bytes l.fn.texts.items ++ map (λ line. line.now) l.yielded
