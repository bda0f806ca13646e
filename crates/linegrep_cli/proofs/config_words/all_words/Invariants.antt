use Rattle.std.proofs.Common.{◌≡◌, ◌++◌, take}
use Rattle.linegrep_cli.specs.ConfigWords.{config_words}
use Rattle.linegrep_options.specs.ParsedWords.{texts}
use Rattle.linegrep_cli.proofs.config_words.all_words.Given as goal

abbrev pub invariant-loop-argument : goal.invariant-loop-argument
invariant-loop-argument l = texts l.words.items
    ≡ config_words l.contents ++ texts (take l.argument-index l.arguments)
