-- Which options apply.
use Rattle.std.specs.Prelude.{ℕ, Bool}
use Rattle.linegrep_options.specs.OptionUses.{applies, last_place}
use Rattle.linegrep_options.specs.declared.option_id.OptionId.{OptionId}
use Rattle.linegrep_cli.specs.declared.options.Options.{Options}

-- an option applies: no option that takes it back is used after it
abbrev pub has : Options → OptionId → Bool
has options option = applies options.uses.now option

-- the place of the last use of an option, from 1, or 0 if it isn't used
abbrev pub last_use : Options → OptionId → ℕ
last_use options option = last_place options.uses.now option
