-- What is said of the options of the table, and how they are spelled.
use Rattle.std.specs.Prelude.{ℕ, Bool, not, ◌&&◌, ◌==◌, if◌then◌else◌, List, [], ◌++◌, codes}
use Rattle.std.specs.Prelude.{flat_map, length, map, slice_get, Option, None, Some, unwrap_or}
use Rattle.std.specs.List.{range_with_len}
use Rattle.linegrep_options.specs.Rows.{all_headings, all_letters, all_names, all_rows}
use Rattle.linegrep_options.specs.Rows.{all_summaries, words_of}
use Rattle.linegrep_options.specs.declared.table.Row.{Row}
use Rattle.linegrep_options.specs.declared.table.Value.{Value}
use Rattle.linegrep_options.specs.declared.table.Value.TheVariants.{Nothing}
use Rattle.linegrep_help.specs.declared.entry.Columns.{Columns}
use Rattle.linegrep_help.specs.declared.entry.Entry.{Entry}

-- what is said of an option: the heading above it, which is empty if the one before stays; its
-- letter and its name, which are empty if there is none; what comes after it; and what it does, in
-- a line, which is empty if help leaves it out
pub record Said : Type 0 where
  pub heading : List ℕ
  pub letter : List ℕ
  pub name : List ℕ
  pub value : Value
  pub summary : List ℕ

-- the columns of a table of options
pub record Table : Type 0 where
  pub rows : List Row
  pub headings : List (List ℕ)
  pub letters : List (List ℕ)
  pub names : List (List ℕ)
  pub summaries : List (List ℕ)

-- the text at a place of a column
abbrev pub text_at : List (List ℕ) → ℕ → List ℕ
text_at column place = unwrap_or (slice_get column place) []

-- what comes after the option at a place
abbrev pub value_at : List Row → ℕ → Value
value_at rows place = of_row (slice_get rows place)
  where
    of_row : Option Row → Value
    of_row None = Nothing
    of_row (Some row) = row.value

-- what is said of the option at a place
abbrev pub said_at : Table → ℕ → Said
said_at table place = record {
  heading = text_at table.headings place;
  letter = text_at table.letters place;
  name = text_at table.names place;
  value = value_at table.rows place;
  summary = text_at table.summaries place;
}

-- what is said of all options of a table, in their order
abbrev pub said_of : Table → List Said
said_of table = map (said_at table) (range_with_len 0 (length table.rows))

-- the table of the options
abbrev pub all_columns : Table
all_columns = record {
  rows = all_rows;
  headings = all_headings;
  letters = all_letters;
  names = all_names;
  summaries = all_summaries;
}

-- the columns, and what is said of an option, without who lends the texts
abbrev pub table_of : Columns → Table
table_of columns = record {
  rows = columns.rows.now;
  headings = map (λ text. text.now) columns.headings.now;
  letters = map (λ text. text.now) columns.letters.now;
  names = map (λ text. text.now) columns.names.now;
  summaries = map (λ text. text.now) columns.summaries.now;
}

abbrev pub said : Entry → Said
said entry = record {
  heading = entry.heading.now;
  letter = entry.letter.now;
  name = entry.name.now;
  value = entry.value;
  summary = entry.summary.now;
}

-- a text between two others, or nothing if it is empty
abbrev pub framed : List ℕ → List ℕ → List ℕ → List ℕ
framed before text after = if length text == 0 then [] else before ++ (text ++ after)

-- an option has a letter and a name
abbrev pub has_both : Said → Bool
has_both one = not (length one.letter == 0) && not (length one.name == 0)

-- how an option is spelled: by its letter after a hyphen, and by its name after two. A text is
-- between them if it has both
abbrev pub spellings : List ℕ → Said → List ℕ
spellings between one = framed (codes "-") one.letter []
    ++ ((if has_both one then between else []) ++ framed (codes "--") one.name [])

-- the words that a value may be, each after a blank
abbrev pub word_list : Value → List ℕ
word_list value = flat_map (λ word. codes " " ++ word) (words_of value)
