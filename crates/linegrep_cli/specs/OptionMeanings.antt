-- What options mean for the searcher and the printer alike.
use Rattle.std.specs.Prelude.{ℕ, Bool, false, not, ◌&&◌, ◌||◌, if◌then◌else◌, List, [], ◌∷◌}
use Rattle.std.specs.Prelude.{codes, Option, None, Some, unwrap_or}
use Rattle.std.specs.Borrow.{Bor}
use Rattle.std.specs.Option.{option_or}
use Rattle.std.specs.Str.{bytes_eq}
use Rattle.linegrep_cli.specs.OptionUses.{has}
use Rattle.linegrep_options.specs.declared.option_id.OptionId.{OptionId}
use Rattle.linegrep_options.specs.declared.option_id.OptionId.TheVariants.{AfterContext}
use Rattle.linegrep_options.specs.declared.option_id.OptionId.TheVariants.{BeforeContext, Column}
use Rattle.linegrep_options.specs.declared.option_id.OptionId.TheVariants.{Context, Files, Json}
use Rattle.linegrep_options.specs.declared.option_id.OptionId.TheVariants.{LineNumber}
use Rattle.linegrep_options.specs.declared.option_id.OptionId.TheVariants.{NoColumn, NoLineNumber}
use Rattle.linegrep_options.specs.declared.option_id.OptionId.TheVariants.{Passthru, Pretty}
use Rattle.linegrep_options.specs.declared.option_id.OptionId.TheVariants.{Vimgrep}
use Rattle.linegrep_cli.specs.declared.options.Options.{Options}

-- the value of an option, if it applies
abbrev pub value_of : Options → OptionId → Option ℕ → Option ℕ
value_of options option value = if has options option then value else None

-- how many lines of context are on a side, by the value of the option for that side, or else of the
-- option for both. If all lines are written, there is no context
abbrev pub context_lines : Options → Option ℕ → ℕ
context_lines options own = if has options Passthru then 0
    else unwrap_or (option_or own (value_of options Context options.context)) 0

abbrev pub after_lines : Options → ℕ
after_lines options = context_lines options (value_of options AfterContext options.after_context)

abbrev pub before_lines : Options → ℕ
before_lines options = context_lines options (value_of options BeforeContext options.before_context)

-- the operands without the pattern, which is the first one unless options name the patterns
abbrev pub without_first : {T : Type 0} → List T → List T
without_first [] = []
without_first (first ∷ later) = later

abbrev pub operands_of : Option (Bor (List (Bor (List ℕ)))) → List (Bor (List ℕ))
operands_of None = []
operands_of (Some texts) = texts.now

abbrev pub paths_of : Options → List (Bor (List ℕ))
paths_of options = if options.names_patterns then operands_of options.operands
    else without_first (operands_of options.operands)

-- only standard input is searched: it is the only path; or there is no path, standard input may be
-- searched then, no patterns are read from it, and files aren't listed
abbrev pub searches_input : Options → Bool
searches_input options = is_input (paths_of options)
  where
    is_input : List (Bor (List ℕ)) → Bool
    is_input [] = options.streams.has_input && not options.reads_patterns
        && not (has options Files)
    is_input (path ∷ []) = bytes_eq path.now (codes "-")
    is_input (path ∷ next ∷ later) = false

-- columns are written, or a line for each part with its column
abbrev pub shows_columns : Options → Bool
shows_columns options = has options Column || (has options Vimgrep && not (has options NoColumn))

-- lines are numbered: an option asks for it; or they are written to a terminal, and not only
-- standard input is searched
abbrev pub shows_numbers : Options → Bool
shows_numbers options = not (has options NoLineNumber)
    && (has options LineNumber || has options Pretty || shows_columns options || has options Json
    || has options Vimgrep || (options.streams.is_terminal && not (searches_input options)))
