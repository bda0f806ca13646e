use Rattle.std.proofs.Common.{◌≡◌, map, string_bytes, take}
use Rattle.linegrep_cli.specs.OperandTexts.{operand_texts}
use Rattle.linegrep_cli.proofs.words.texts.Given as goal

abbrev pub invariant-loop-operand : goal.invariant-loop-operand
invariant-loop-operand l = map string_bytes l.texts.items ≡ operand_texts (take l.operand-index l.operands)
