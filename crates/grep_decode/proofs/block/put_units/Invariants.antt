use Rattle.std.proofs.Common.{◌≡◌, ◌≤◌, ◌*◌, take, encode_utf8_all}
use Rattle.grep_decode.specs.UnitBytes.{joined}
use Rattle.grep_decode.proofs.block.put_units.Given as goal

abbrev pub invariant-loop-i : goal.invariant-loop-i
invariant-loop-i l = record {
  least : l.i ≤ l.written;
  most : l.written ≤ 3 * l.i;
  text : take l.written l.output ≡ encode_utf8_all (take l.i (joined l.fn.lows l.fn.highs));
}
