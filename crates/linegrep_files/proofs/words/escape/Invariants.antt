use Rattle.std.proofs.Common.{◌≡◌, string_bytes, take}
use Rattle.linegrep_files.specs.Words.{escaped}
use Rattle.linegrep_files.proofs.words.escape.Given as goal

abbrev pub invariant-loop-byte : goal.invariant-loop-byte
invariant-loop-byte l = string_bytes l.word ≡ escaped (take l.byte-index l.bytes)
