use Rattle.std.proofs.Common.{◌≡◌, take}
use Rattle.grep_ignore.specs.Endings.{number_after}
use Rattle.grep_ignore.proofs.path_tests.number_after.Given as goal

abbrev pub invariant-loop-byte : goal.invariant-loop-byte
invariant-loop-byte l = l.number ≡ number_after 1 (take l.byte-index l.text)
