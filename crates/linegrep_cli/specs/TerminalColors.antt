-- When what is written has colors.
use Rattle.std.specs.Prelude.{◌≡◌, ℕ, Bool, true, false, not, ◌&&◌, ◌||◌, if◌then◌else◌, List}
use Rattle.std.specs.Prelude.{codes}
use Rattle.std.specs.Prelude.{Option, None, Some, Result, Ok, Err, String, string_bytes}
use Rattle.std.specs.Borrow.{Bor}
use Rattle.std.specs.Global.{Global}
use Rattle.std.specs.IoError.{error_kind}
use Rattle.std.specs.Str.{bytes_eq}
use Rattle.std.specs.declared.io.Error.{Error}
use Rattle.std.specs.declared.io.ErrorKind.{ErrorKind}
use Rattle.std.specs.declared.io.ErrorKind.TheVariants.{InvalidData}
use Rattle.grep_printer.specs.declared.colors.ColorSpecs.{ColorSpecs}
use Rattle.grep_printer.specs.declared.colors.ColorSpecs.TheVariants.{Chosen, Default, Plain}
use Rattle.grep_printer.specs.declared.colors.ColorTexts.{ColorTexts}
use Rattle.linegrep_cli.specs.declared.program.Streams.{Streams}

-- whether a variable's value, if it could be read, isn't UTF-8
abbrev pub is_other_text : ErrorKind → Bool
is_other_text InvalidData = true
is_other_text _ = false

-- the value of `TERM` names a terminal that has colors: any but the dumb one
abbrev pub names_terminal : Result (Option (String Global)) Error → Bool
names_terminal (Ok None) = false
names_terminal (Ok (Some term)) = not (bytes_eq (string_bytes term) (codes "dumb"))
names_terminal (Err error) = is_other_text (error_kind error)

-- `NO_COLOR` has no value
abbrev pub allows_default : Result (Option (String Global)) Error → Bool
allows_default (Ok None) = true
allows_default _ = false

-- whether the environment allows colors on a terminal
abbrev pub AllowsColors : (List ℕ → Result (Option (String Global)) Error → Type 0) → Bool → Type 0
AllowsColors variables allows = (term : Result (Option (String Global)) Error)
    × (no_color : Result (Option (String Global)) Error) × variables (codes "TERM") term
    × variables (codes "NO_COLOR") no_color
    × (allows ≡ (names_terminal term && allows_default no_color))

-- whether there are colors, by the value of `--color`. If that doesn't say it, a terminal gets
-- colors that the environment allows
abbrev pub is_colored : Option (List ℕ) → Streams → Bool
is_colored None streams = streams.is_terminal && streams.allows_colors
is_colored (Some choice) streams =
    if bytes_eq choice (codes "always") || bytes_eq choice (codes "ansi") then true
    else if bytes_eq choice (codes "never") then false
    else streams.is_terminal && streams.allows_colors

-- ripgrep's colors, or others that are chosen
abbrev pub colors_of : Option (Bor ColorTexts) → ColorSpecs
colors_of None = Default
colors_of (Some texts) = Chosen texts

-- the colors of what is written, if it has any
abbrev pub colors_for : Option (Bor ColorTexts) → Option (List ℕ) → Streams → ColorSpecs
colors_for chosen choice streams = if is_colored choice streams then colors_of chosen else Plain
