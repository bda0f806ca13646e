-- The value of `core.excludesFile` in the contents of a file of git's settings, by the syntax of
-- git-config(1). First comes what each byte stands for, by quotes, backslashes and comments; then
-- lines, and what their headings, names and values are; and then which value is the last.
-- 9 is a tab, 10 a line feed, 13 a carriage return, 32 a space, 34 a quote, 35 `#`, 59 `;`, 61 `=`,
-- 91 `[`, 92 a backslash, and 93 `]`.
use Rattle.std.specs.Prelude.{ℕ, ◌-◌, Bool, true, false, not, ◌&&◌, ◌||◌, ◌==◌, if◌then◌else◌}
use Rattle.std.specs.Prelude.{List, [], ◌∷◌, ◌++◌, None, Option, Some, codes, drop, length, map}
use Rattle.std.specs.Prelude.{take}
use Rattle.std.specs.Char.{to_ascii_lowercase}
use Rattle.std.specs.List.{after_first, before_first, position_or_len, slice_split, suffix_len}
use Rattle.std.specs.Option.{option_map, option_or, option_to_list}
use Rattle.std.specs.Str.{bytes_eq}
use Rattle.grep_ignore.specs.Lines.{without_mark}
use Rattle.linegrep_files.specs.declared.git_settings.Mode.{Mode}
use Rattle.linegrep_files.specs.declared.git_settings.Mode.TheVariants.{Comment, Escaped, Plain}
use Rattle.linegrep_files.specs.declared.git_settings.Mode.TheVariants.{Quoted}
use Rattle.linegrep_files.specs.declared.git_settings.Piece.{Piece}

-- a byte that may have a meaning, as a bracket has, and one that stands for itself alone
abbrev pub plain : ℕ → Piece
plain byte = record { byte = byte; is_quoted = false }

abbrev pub quoted : ℕ → Piece
quoted byte = record { byte = byte; is_quoted = true }

-- what a byte stands for, and how the next one is read. Outside of quotes: a quote begins them, a
-- backslash is before a byte that is quoted, and `#` or `;` begins a comment
abbrev pub read_plain : ℕ → Option Piece × Mode
read_plain byte = if byte == 34 then (None, Quoted) else if byte == 92 then (None, Escaped false)
    else if (byte == 35) || (byte == 59) then (None, Comment) else (Some (plain byte), Plain)

-- between quotes: another quote ends them, and so does the end of the line
abbrev pub read_quoted : ℕ → Option Piece × Mode
read_quoted byte = if byte == 34 then (None, Plain) else if byte == 92 then (None, Escaped true)
    else if byte == 10 then (Some (plain byte), Plain) else (Some (quoted byte), Quoted)

-- in a comment, which ends with its line
abbrev pub read_comment : ℕ → Option Piece × Mode
read_comment byte = if byte == 10 then (Some (plain byte), Plain) else (None, Comment)

-- the byte that one after a backslash stands for: `n` is a line feed, `t` a tab and `b` a backspace
abbrev pub escaped : ℕ → ℕ
escaped byte = if byte == 110 then 10 else if byte == 116 then 9 else if byte == 98 then 8 else byte

-- after a backslash, outside of quotes or between them: the end of a line stands for nothing, so
-- that the line goes on
abbrev pub read_escaped : Bool → ℕ → Option Piece × Mode
read_escaped is_quoted byte = if byte == 13 then (None, Escaped is_quoted)
    else if byte == 10 then (None, mode) else (Some (quoted (escaped byte)), mode)
  where
    mode : Mode
    mode = if is_quoted then Quoted else Plain

abbrev pub read : Mode → ℕ → Option Piece × Mode
read Plain byte = read_plain byte
read Quoted byte = read_quoted byte
read (Escaped is_quoted) byte = read_escaped is_quoted byte
read Comment byte = read_comment byte

-- what bytes stand for, by how the first is read
abbrev pub pieces_of : Mode → List ℕ → List Piece
pieces_of mode [] = []
pieces_of mode (byte ∷ later) =
    option_to_list (read mode byte).0 ++ pieces_of (read mode byte).1 later

-- a piece is a byte that isn't quoted
abbrev pub is_plain : ℕ → Piece → Bool
is_plain byte piece = (piece.byte == byte) && not piece.is_quoted

-- lines, without comments. One that ends in a backslash goes on in the next
abbrev pub lines_of : List Piece → List (List Piece)
lines_of pieces = slice_split (is_plain 10) pieces

-- a space, a tab or a carriage return
abbrev pub is_blank : Piece → Bool
is_blank piece = is_plain 32 piece || is_plain 9 piece || is_plain 13 piece

abbrev pub is_text : Piece → Bool
is_text piece = not (is_blank piece)

-- pieces without the blanks at their start, at their end, and at both
abbrev pub trimmed_start : List Piece → List Piece
trimmed_start pieces = drop (position_or_len is_text pieces) pieces

abbrev pub trimmed_end : List Piece → List Piece
trimmed_end pieces = take (length pieces - suffix_len is_blank pieces) pieces

abbrev pub trimmed : List Piece → List Piece
trimmed pieces = trimmed_end (trimmed_start pieces)

-- pieces are a word, in letters of either case
abbrev pub is_word : List ℕ → List Piece → Bool
is_word word pieces = bytes_eq (map (λ piece. to_ascii_lowercase piece.byte) pieces) word

-- a line begins with the heading of a section, in brackets
abbrev pub has_heading : List Piece → Bool
has_heading line = begins (trimmed_start line)
  where
    begins : List Piece → Bool
    begins [] = false
    begins (first ∷ rest) = is_plain 91 first

-- what is in these brackets: a subsection too, if there is one
abbrev pub heading_of : List Piece → List Piece
heading_of line = before_first (is_plain 93) (after_first (is_plain 91) line)

-- what a line says in its section: a name, `=` and a value
abbrev pub setting_of : List Piece → List Piece
setting_of line = if has_heading line then after_first (is_plain 93) line else line

abbrev pub name_of : List Piece → List Piece
name_of line = trimmed (before_first (is_plain 61) (setting_of line))

abbrev pub value_of : List Piece → List Piece
value_of line = trimmed (after_first (is_plain 61) (setting_of line))

-- whether a line is in the section `core`, by whether the line before is
abbrev pub is_core_at : Bool → List Piece → Bool
is_core_at is_core line =
    if has_heading line then is_word (codes "core") (heading_of line) else is_core

-- the value that a line has for `core.excludesFile`, by whether it is in the section `core`
abbrev pub value_at : Bool → List Piece → Option (List Piece)
value_at is_core line = if is_core && is_word (codes "excludesfile") (name_of line)
    then Some (value_of line) else None

-- the last value of lines, by whether the line before them is in the section `core`
abbrev pub last_value : Bool → List (List Piece) → Option (List Piece)
last_value is_core [] = None
last_value is_core (line ∷ later) = option_or (last_value (is_core_at is_core line) later)
    (value_at (is_core_at is_core line) line)

-- the value in the contents of a file
abbrev pub bytes_of : List Piece → List ℕ
bytes_of pieces = map (λ piece. piece.byte) pieces

abbrev pub excludes_file : List ℕ → Option (List ℕ)
excludes_file contents =
    option_map bytes_of (last_value false (lines_of (pieces_of Plain (without_mark contents))))
