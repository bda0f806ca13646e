-- What the words of a command line say: uses of options, and operands.
use Rattle.std.specs.Prelude.{ℕ, ◌+◌, ◌^◌, Bool, ◌&&◌, ◌||◌, ◌==◌, if◌then◌else◌, List, [], ◌∷◌}
use Rattle.std.specs.Prelude.{codes, drop, length, nat_eq, nat_lt, position, slice_index, take}
use Rattle.std.specs.Prelude.{Option, Some, None, is_some}
use Rattle.std.specs.Char.{digit_value}
use Rattle.std.specs.List.{list_all, list_any, starts_with}
use Rattle.std.specs.Str.{bytes_eq, is_utf8}
use Rattle.std.specs.Str.Parse.{digits_value, without_leading_plus}
use Rattle.linegrep_options.specs.Rows.{row_lettered, row_named, takes_value, words_of}
use Rattle.linegrep_options.specs.declared.option_id.OptionId.{OptionId}
use Rattle.linegrep_options.specs.declared.table.Row.{Row}
use Rattle.linegrep_options.specs.declared.table.Value.{Value}
use Rattle.linegrep_options.specs.declared.table.Value.TheVariants.{Number}

-- a use of an option, with its value if it has one
pub record Given : Type 0 where
  pub id : OptionId
  pub value : Option (List ℕ)

-- why words aren't a command line
pub data Refusal : Type 0 where
  -- no option has the name
  UnknownName : List ℕ → Refusal
  -- no option has the letter that the rest of a word begins with
  UnknownLetter : List ℕ → Refusal
  -- an option that has no value is given one
  UnexpectedValue : Row → List ℕ → Refusal
  -- there is no word left for the value of an option
  MissingValue : Row → Refusal
  -- a value isn't UTF-8
  NotText : Row → List ℕ → Refusal
  -- a value isn't one that the option has
  WrongValue : Row → List ℕ → Refusal

-- how words read
pub data Reading : Type 0 where
  Read : List Given → List (List ℕ) → Reading
  Refused : Refusal → Reading

-- with one more use, or operand, in front
abbrev pub with_use : OptionId → Option (List ℕ) → Reading → Reading
with_use id value (Read uses operands) = Read (record { id = id; value = value } ∷ uses) operands
with_use id value (Refused refusal) = Refused refusal

abbrev pub with_operand : List ℕ → Reading → Reading
with_operand word (Read uses operands) = Read uses (word ∷ operands)
with_operand word (Refused refusal) = Refused refusal

-- the number that a text writes: decimal digits, of a number below 2 ^ 64, maybe after a plus
abbrev pub number_of : List ℕ → Option ℕ
number_of text =
    if nat_lt 0 (length (without_leading_plus text))
    && list_all (λ digit. nat_lt (digit_value digit) 10) (without_leading_plus text)
    && nat_lt (digits_value 10 (without_leading_plus text)) (2 ^ 64)
    then Some (digits_value 10 (without_leading_plus text)) else None

-- a text is one of some words, or any text if there are none
abbrev pub is_among : List (List ℕ) → List ℕ → Bool
is_among words text = (length words == 0) || list_any (λ own. bytes_eq own text) words

-- a text may be a value
abbrev pub is_value : Value → List ℕ → Bool
is_value Number text = is_some (number_of text)
is_value value text = is_among (words_of value) text

-- why bytes can't be the value of an option, if they can't
abbrev pub refusal_of : Row → List ℕ → Option Refusal
refusal_of row value = if is_utf8 value
    then (if is_value row.value value then None else Some (WrongValue row value))
    else Some (NotText row value)

-- what is after a word: the words, how they read, and how those without the first read
pub record Later : Type 0 where
  pub words : List (List ℕ)
  pub reading : Reading
  pub past : Reading

-- an option, with bytes that are its value
abbrev pub value_reading : Row → List ℕ → Reading → Reading
value_reading row value later = unless (refusal_of row value)
  where
    unless : Option Refusal → Reading
    unless None = with_use row.id (Some value) later
    unless (Some refusal) = Refused refusal

-- an option, whose value is the next word
abbrev pub next_reading : Row → Later → Reading
next_reading row later = first later.words
  where
    first : List (List ℕ) → Reading
    first [] = Refused (MissingValue row)
    first (word ∷ words) = value_reading row word later.past

-- an option that is a word of its own, if there is one of this name
abbrev pub alone_reading : Option Row → List ℕ → Later → Reading
alone_reading None name later = Refused (UnknownName name)
alone_reading (Some row) name later = if takes_value row.value then next_reading row later
    else with_use row.id None later.reading

-- an option whose value is in the same word
abbrev pub joined_reading : Option Row → List ℕ → List ℕ → Later → Reading
joined_reading None name value later = Refused (UnknownName name)
joined_reading (Some row) name value later =
    if takes_value row.value then value_reading row value later.reading
    else Refused (UnexpectedValue row value)

-- what is after two hyphens: a name, and maybe `=` and a value
abbrev pub long_reading : List ℕ → Later → Reading
long_reading text later = split (position (λ byte. byte == 61) text)
  where
    split : Option ℕ → Reading
    split None = alone_reading (row_named text) text later
    split (Some at) =
        joined_reading (row_named (take at text)) (take at text) (drop (at + 1) text) later

-- bytes begin with `=`
abbrev pub begins_with_equals : List ℕ → Bool
begins_with_equals text = (slice_index text 0 == 61) && nat_lt 0 (length text)

-- a letter's option with what follows it in its word: that is its value, maybe after `=`, or if
-- there is nothing the next word is
abbrev pub attached_reading : Row → List ℕ → Later → Reading
attached_reading row text later = if length text == 0 then next_reading row later
    else value_reading row (if begins_with_equals text then drop 1 text else text) later.reading

-- an option that has no value, before what the rest of its word reads
abbrev pub flag_reading : Row → List ℕ → Reading → Reading
flag_reading row others later =
    if begins_with_equals others then Refused (UnexpectedValue row (drop 1 others))
    else with_use row.id None later

-- what is after one hyphen: letters of options that have no value, then maybe of one that has
abbrev pub letters_reading : List ℕ → Later → Reading
letters_reading [] later = later.reading
letters_reading (letter ∷ others) later =
    by_row (row_lettered letter) letter others later (letters_reading others later)
  where
    by_row : Option Row → ℕ → List ℕ → Later → Reading → Reading
    by_row None letter others later rest = Refused (UnknownLetter (letter ∷ others))
    by_row (Some row) letter others later rest =
        if takes_value row.value then attached_reading row others later
        else flag_reading row others rest

-- a word: `--` ends the options; one hyphen and more are letters, two and more a name, and anything
-- else is an operand
abbrev pub word_reading : List ℕ → Later → Reading
word_reading word later =
    if bytes_eq word (codes "--") then Read [] later.words
    else if starts_with nat_eq word (codes "--") then long_reading (drop 2 word) later
    else if (slice_index word 0 == 45) && nat_lt 1 (length word)
    then letters_reading (drop 1 word) later
    else with_operand word later.reading

-- how words read
abbrev pub reading_of : List (List ℕ) → Reading
reading_of [] = Read [] []
reading_of (word ∷ []) =
    word_reading word (record { words = []; reading = Read [] []; past = Read [] [] })
reading_of (word ∷ next ∷ later) = word_reading word
    (record { words = next ∷ later; reading = reading_of (next ∷ later); past = reading_of later })
