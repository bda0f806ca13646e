use Rattle.std.proofs.Common.{arith, w64}
use Rattle.std.proofs.lemmas.Nat.Bits.{bit_at-trailing_zeros}
use Rattle.grep_lines.proofs.marks.lowest.Goals as goal

pub returns : goal.returns
returns c =
    let bits = bit_at-trailing_zeros w64 c.args.mask (omega (arith, c.requires)) c.ranges.mask.fits in
    record { bound = bits.0; set = bits.1; below = bits.2 }
