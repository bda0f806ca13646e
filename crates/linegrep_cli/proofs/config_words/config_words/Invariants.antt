use Rattle.std.proofs.Common.{◌≡◌, filter, map}
use Rattle.linegrep_cli.specs.ConfigWords.{is_argument, trimmed}
use Rattle.linegrep_options.specs.ParsedWords.{texts}
use Rattle.linegrep_cli.proofs.config_words.config_words.Given as goal

abbrev pub invariant-loop-line : goal.invariant-loop-line
invariant-loop-line l = texts l.words.items
    ≡ filter is_argument (map trimmed (map (λ x. x.now) l.yielded))
