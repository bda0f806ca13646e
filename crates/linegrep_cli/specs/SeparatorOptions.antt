-- The separators that options ask for.
use Rattle.std.specs.Prelude.{◌≡◌, ℕ, Bool, false, true, ◌||◌, List, codes, is_some, Option, None}
use Rattle.std.specs.Prelude.{Some, Vec}
use Rattle.std.specs.Borrow.{Bor}
use Rattle.std.specs.Global.{Global}
use Rattle.std.specs.Option.{option_copied}
use Rattle.std.specs.Str.{chars}
use Rattle.bstr.specs.Escape.{unescaped}
use Rattle.grep_printer.specs.declared.separators.Separators.{Separators}
use Rattle.linegrep_cli.specs.OptionUses.{has}
use Rattle.linegrep_options.specs.declared.option_id.OptionId.TheVariants.{NoContextSeparator}
use Rattle.linegrep_cli.specs.declared.options.Options.{Options}

-- an option about separators is used
abbrev pub asks_for_separators : Options → Bool
asks_for_separators options = is_some options.field_match_separator
    || is_some options.field_context_separator || is_some options.context_separator
    || has options NoContextSeparator

-- the text of an option with its escapes read, or another if it isn't used
abbrev pub separator_text : Option (Bor (List ℕ)) → List ℕ → List ℕ
separator_text None other = other
separator_text (Some text) other = unescaped (chars text.now)

-- what is between two groups of lines is what the options ask for
abbrev pub IsContext : Options → Option (Vec ℕ Global) → Type 0
IsContext options None = has options NoContextSeparator ≡ true
IsContext options (Some text) = (has options NoContextSeparator ≡ false)
    × (text.items ≡ separator_text options.context_separator (codes "--"))

-- the separators are those that options ask for, if they ask for any
abbrev pub IsSeparators : Options → Option Separators → Type 0
IsSeparators options None = asks_for_separators options ≡ false
IsSeparators options (Some separators) = (asks_for_separators options ≡ true)
    × (separators.field_match.items ≡ separator_text options.field_match_separator (codes ":"))
    × (separators.field_context.items
    ≡ separator_text options.field_context_separator (codes "-"))
    × IsContext options separators.context

-- lent separators are those that options ask for
abbrev pub AreLent : Options → Option (Bor Separators) → Type 0
AreLent options lent = IsSeparators options (option_copied lent)
