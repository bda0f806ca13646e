use Rattle.std.proofs.Common.{arith}
use Rattle.std.proofs.lemmas.Fmt.{length-decimal-le}
use Rattle.grep_output.proofs.numeral.Numeral.replace.Goals as goal

pub write_digits-start-requires : goal.write_digits-start-requires
write_digits-start-requires c = (
  length-decimal-le 18 c.args.hundreds (omega arith) c.requires (omega arith),
  omega arith,
)
