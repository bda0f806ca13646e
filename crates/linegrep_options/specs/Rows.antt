-- What the table of options says.
use Rattle.std.specs.Prelude.{ℕ, Bool, true, false, not, ◌||◌, ◌==◌, if◌then◌else◌, List, []}
use Rattle.std.specs.Prelude.{◌∷◌, codes, find}
use Rattle.std.specs.Prelude.{length, map, position, slice_get, Option, Some, None}
use Rattle.std.specs.List.{list_all}
use Rattle.std.specs.Option.{option_and_then}
use Rattle.std.specs.Str.{bytes_eq}
use Rattle.linegrep_options.specs.declared.table.Contrary.{Contrary}
use Rattle.linegrep_options.specs.declared.table.Row.{Row}
use Rattle.linegrep_options.specs.declared.table.TheConstants.{CONTRARIES, HEADINGS}
use Rattle.linegrep_options.specs.declared.table.TheConstants.{LETTERS, NAMES, ROWS, SUMMARIES}
use Rattle.linegrep_options.specs.declared.table.Value.{Value}
use Rattle.linegrep_options.specs.declared.table.Value.TheVariants.{Change, Definition, Engine}
use Rattle.linegrep_options.specs.declared.table.Value.TheVariants.{File, Format, Glob, Kind}
use Rattle.linegrep_options.specs.declared.table.Value.TheVariants.{Label, Nothing, Number, Order}
use Rattle.linegrep_options.specs.declared.table.Value.TheVariants.{Pattern, Separator, Size}
use Rattle.linegrep_options.specs.declared.table.Value.TheVariants.{Template, «Type», When}

-- the columns of the table
unfoldable pub all_rows : List Row
all_rows = ROWS.now

unfoldable pub all_names : List (List ℕ)
all_names = map (λ name. name.now) NAMES.now

unfoldable pub all_contraries : List Contrary
all_contraries = CONTRARIES.now

-- the headings above the rows, each of which is empty if the one before stays
unfoldable pub all_headings : List (List ℕ)
all_headings = map (λ heading. heading.now) HEADINGS.now

-- the letters of the rows, each of which is empty if there is none
unfoldable pub all_letters : List (List ℕ)
all_letters = map (λ letter. letter.now) LETTERS.now

-- what the options of the rows do, each in a line, which may be empty
unfoldable pub all_summaries : List (List ℕ)
all_summaries = map (λ summary. summary.now) SUMMARIES.now

-- a text has none of the bytes that mean something in double quotes of a shell, or in brackets: `"`
-- is 34, `$` 36, `[` 91, a backslash 92, `]` 93, and a backquote 96
abbrev pub is_plain : List ℕ → Bool
is_plain text = list_all (λ byte. not (byte == 34 || byte == 36 || byte == 91 || byte == 92
    || byte == 93 || byte == 96)) text

-- an option has a value
abbrev pub takes_value : Value → Bool
takes_value Nothing = false
takes_value value = true

-- the words that a value may be; if there are none, any text
abbrev pub words_of : Value → List (List ℕ)
words_of When = codes "auto" ∷ codes "always" ∷ codes "never" ∷ codes "ansi" ∷ []
words_of Order = codes "none" ∷ codes "path" ∷ codes "modified" ∷ codes "accessed"
    ∷ codes "created" ∷ []
words_of Engine = codes "default" ∷ codes "auto" ∷ []
words_of Kind = codes "man" ∷ codes "complete-bash" ∷ codes "complete-zsh" ∷ codes "complete-fish"
    ∷ codes "complete-powershell" ∷ []
words_of value = []

-- what help calls a value
abbrev pub value_name : Value → List ℕ
value_name Nothing = []
value_name Number = codes "NUM"
value_name When = codes "WHEN"
value_name Order = codes "ORDER"
value_name Engine = codes "ENGINE"
value_name Format = codes "FORMAT"
value_name Kind = codes "KIND"
value_name Pattern = codes "PATTERN"
value_name File = codes "FILE"
value_name Glob = codes "GLOB"
value_name «Type» = codes "TYPE"
value_name Definition = codes "DEFINITION"
value_name Separator = codes "SEPARATOR"
value_name Template = codes "TEMPLATE"
value_name Change = codes "CHANGE"
value_name Label = codes "LABEL"
value_name Size = codes "NUM"

-- the row whose name is this one; the empty name is that of none
abbrev pub named : List Row → List (List ℕ) → List ℕ → Option Row
named rows names name = if length name == 0 then None
    else option_and_then (slice_get rows) (position (λ own. bytes_eq own name) names)

abbrev pub is_letter : Option ℕ → ℕ → Bool
is_letter None letter = false
is_letter (Some own) letter = own == letter

-- the row whose letter is this one
abbrev pub lettered : List Row → ℕ → Option Row
lettered rows letter = find (λ row. is_letter row.letter letter) rows

abbrev pub row_named : List ℕ → Option Row
row_named name = named all_rows all_names name

abbrev pub row_lettered : ℕ → Option Row
row_lettered letter = lettered all_rows letter
