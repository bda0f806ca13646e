use Rattle.std.proofs.Common.{arith, sym}
use Rattle.std.proofs.lemmas.Fmt.{decimal_digit}
use Rattle.grep_output.proofs.numeral.Numeral.new.Goals as goal

pub invariant_of-result : goal.invariant_of-result
invariant_of-result c = (omega arith, sym (decimal_digit 0 (omega arith)))
