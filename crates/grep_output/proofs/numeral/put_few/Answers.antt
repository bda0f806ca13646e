use Rattle.std.proofs.Common.{arith}
use Rattle.std.proofs.lemmas.Fmt.{decimal_digit}
use Rattle.std.proofs.lemmas.Grind.{common_steps}
use Rattle.itoa.proofs.Decimal.{decimal_two, length_one, length_two}
use Rattle.grep_output.proofs.numeral.put_few.Goals as goal

pub returns-then-number-ge10-clause-end : goal.returns-then-number-ge10-clause-end
returns-then-number-ge10-clause-end c = omega (arith, length_two c.args.number c.if-number-ge10.true c.requires.few)

pub returns-then-number-ge10-clause-text : goal.returns-then-number-ge10-clause-text
returns-then-number-ge10-clause-text c = rw (decimal_two c.args.number c.if-number-ge10.true c.requires.few)
    c.put_pair.ensures.text

pub returns-clause-end : goal.returns-clause-end
returns-clause-end c = omega (arith, length_one c.args.number (omega arith))

pub returns-clause-text : goal.returns-clause-text
returns-clause-text c = rw (decimal_digit c.args.number (omega arith)) (grind (arith, common_steps))
