use Rattle.std.proofs.Common.{arith}
use Rattle.std.proofs.lemmas.Nat.{and_mask}
use lib.Bits.{or_add_and}
use Rattle.grep_regex.proofs.folds.Fold.full.Goals as goal

pub returns : goal.returns
returns c byte below = omega (arith, below, or_add_and byte 255, and_mask byte 8)
