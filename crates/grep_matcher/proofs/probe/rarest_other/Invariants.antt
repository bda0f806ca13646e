use Rattle.std.proofs.Common.{◌<◌, length, IfSome}
use Rattle.grep_matcher.proofs.probe.rarest_other.Given as goal

abbrev pub invariant-loop-i : goal.invariant-loop-i
invariant-loop-i l = IfSome l.rarest (λ third. third < length l.literal)
