use Rattle.std.proofs.Common.{◌≡◌, ◌++◌, take}
use Rattle.linegrep_options.specs.ParsedWords.{operands_of, texts, uses_of}
use Rattle.linegrep_options.proofs.command_line.Parsed.add_operands.Given as goal

abbrev pub invariant-loop-word : goal.invariant-loop-word
invariant-loop-word l = (uses_of l.self ≡ uses_of l.fn.self)
    × (operands_of l.self ≡ operands_of l.fn.self ++ texts (take l.word-index l.words))
