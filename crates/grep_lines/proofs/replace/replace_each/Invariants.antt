use Rattle.std.proofs.Common.{◌≡◌, ◌==◌, if◌then◌else◌, map, take, drop}
use Rattle.grep_lines.proofs.replace.replace_each.Given as goal

abbrev pub invariant-loop-byte : goal.invariant-loop-byte
invariant-loop-byte l =
    (take l.byte-index l.bytes ≡ map (λ b. if b == l.src then l.new else b)
    (take l.byte-index l.fn.bytes)) × (drop l.byte-index l.bytes ≡ drop l.byte-index l.fn.bytes)
