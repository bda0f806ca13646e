use Rattle.std.proofs.Common.{◌≤◌, length}
use Rattle.tests.proofs.units.lines.steps.Given as goal

-- the steps end within the bytes
abbrev pub invariant-loop-line : goal.invariant-loop-line
invariant-loop-line l = l.step.end ≤ length l.bytes
