-- Formats of links: how they are spelled, which texts aren't formats, and why.
use Rattle.std.specs.Prelude.{◌≡◌, ◌⊎◌, ℕ, Bool, true, false, not, ◌&&◌, ◌||◌, ◌==◌}
use Rattle.std.specs.Prelude.{if◌then◌else◌, nat_le, nat_lt, List, [], ◌∷◌, ◌++◌, codes, drop, take}
use Rattle.std.specs.Prelude.{length, Option, None, Some}
use Rattle.std.specs.List.{flat_map, list_any, prefix_len}
use Rattle.std.specs.Str.{bytes_eq}
use Rattle.grep_printer.specs.declared.hyperlink_format.HyperlinkFormatError.{HyperlinkFormatError}
use Rattle.grep_printer.specs.declared.hyperlink_format.HyperlinkFormatError.TheVariants.{
  Memory,
  NoLine,
  NoPath,
  NoScheme,
  NoVariable,
  Unclosed,
  UnknownVariable,
  Unopened,
}
use Rattle.grep_printer.specs.declared.hyperlink_format.HyperlinkPart.{HyperlinkPart}
use Rattle.grep_printer.specs.declared.hyperlink_format.HyperlinkPart.TheVariants.{Byte, Column}
use Rattle.grep_printer.specs.declared.hyperlink_format.HyperlinkPart.TheVariants.{Host, Line, Path}
use Rattle.grep_printer.specs.declared.hyperlink_format.HyperlinkPart.TheVariants.{WslPrefix}

-- a byte as a format spells it: braces are doubled
abbrev pub spelled_byte : ℕ → List ℕ
spelled_byte byte = if byte == 123 || byte == 125 then byte ∷ byte ∷ [] else byte ∷ []

-- a part of a format, as the format spells it
abbrev pub spelled_part : HyperlinkPart → List ℕ
spelled_part (Byte byte) = spelled_byte byte
spelled_part Path = codes "{path}"
spelled_part Host = codes "{host}"
spelled_part Line = codes "{line}"
spelled_part Column = codes "{column}"
spelled_part WslPrefix = codes "{wslprefix}"

-- parts as a format spells them
abbrev pub spelled : List HyperlinkPart → List ℕ
spelled parts = flat_map spelled_part parts

-- the variable with a name, if there is one
abbrev pub variable_of : List ℕ → Option HyperlinkPart
variable_of name =
    if bytes_eq name (codes "path") then Some Path
    else if bytes_eq name (codes "host") then Some Host
    else if bytes_eq name (codes "line") then Some Line
    else if bytes_eq name (codes "column") then Some Column
    else if bytes_eq name (codes "wslprefix") then Some WslPrefix
    else None

-- a part is the variable with a name
abbrev pub IsVariable : List ℕ → HyperlinkPart → Type 0
IsVariable name part = spelled_part part ≡ 123 ∷ (name ++ 125 ∷ [])

-- bytes begin with a byte
abbrev pub begins_with : ℕ → List ℕ → Bool
begins_with byte [] = false
begins_with byte (first ∷ later) = first == byte

-- how many bytes come before the first closing brace, or how many there are without one
abbrev pub name_len : List ℕ → ℕ
name_len bytes = prefix_len (λ byte. not (byte == 125)) bytes

-- an error after an opening brace that isn't doubled: there is no closing one, or what comes before
-- that is no variable
abbrev pub IsMalformedIn : List ℕ → HyperlinkFormatError → Type 0
IsMalformedIn rest Unclosed = begins_with 125 (drop (name_len rest) rest) ≡ false
IsMalformedIn rest (UnknownVariable name) = (later : List ℕ)
    × (name.now ≡ take (name_len rest) rest) × (rest ≡ name.now ++ 125 ∷ later)
    × (variable_of name.now ≡ None)
IsMalformedIn rest error = ⊥

-- an error at the beginning of some bytes: they begin with a closing brace that isn't doubled, or
-- with an opening one that begins no variable
abbrev pub IsMalformedAt : List ℕ → HyperlinkFormatError → Type 0
IsMalformedAt bytes error =
    ((rest : List ℕ) × (bytes ≡ 125 ∷ rest) × (begins_with 125 rest ≡ false) × (error ≡ Unopened))
    ⊎ ((rest : List ℕ) × (bytes ≡ 123 ∷ rest) × (begins_with 123 rest ≡ false)
    × IsMalformedIn rest error)

-- a text is some parts, as a format spells them, and then bytes with an error at their beginning;
-- or there is no memory for its parts
abbrev pub IsMalformed : List ℕ → HyperlinkFormatError → Type 0
IsMalformed text error = (error ≡ Memory)
    ⊎ ((parts : List HyperlinkPart) × (rest : List ℕ) × (text ≡ spelled parts ++ rest)
    × IsMalformedAt rest error)

-- kinds of parts
abbrev pub is_variable : HyperlinkPart → Bool
is_variable (Byte byte) = false
is_variable part = true

abbrev pub is_path : HyperlinkPart → Bool
is_path Path = true
is_path part = false

abbrev pub is_line : HyperlinkPart → Bool
is_line Line = true
is_line part = false

abbrev pub is_column : HyperlinkPart → Bool
is_column Column = true
is_column part = false

abbrev pub is_colon : HyperlinkPart → Bool
is_colon (Byte byte) = byte == 58
is_colon part = false

-- a byte that a scheme of URLs may have: a letter of ASCII, a digit, a plus, a hyphen or a dot
abbrev pub is_scheme_byte : ℕ → Bool
is_scheme_byte byte = (nat_le 48 byte && nat_le byte 57) || (nat_le 65 byte && nat_le byte 90)
    || (nat_le 97 byte && nat_le byte 122) || byte == 43 || byte == 45 || byte == 46

abbrev pub is_scheme_part : HyperlinkPart → Bool
is_scheme_part (Byte byte) = is_scheme_byte byte
is_scheme_part part = false

-- a scheme ends where a colon comes
abbrev pub ends_scheme : List HyperlinkPart → Bool
ends_scheme [] = false
ends_scheme (part ∷ later) = is_colon part

-- parts begin with a scheme of URLs: bytes that a scheme may have, and at least one, and a colon
abbrev pub has_scheme : List HyperlinkPart → Bool
has_scheme parts = let count = prefix_len is_scheme_part parts in
    nat_lt 0 count && ends_scheme (drop count parts)

abbrev pub has_line : List HyperlinkPart → Bool
has_line parts = list_any is_line parts

-- what is wrong with parts that are spelled right. A format without parts is that of no link
abbrev pub fault_of : List HyperlinkPart → Option HyperlinkFormatError
fault_of parts =
    if length parts == 0 then None
    else if not (list_any is_variable parts) then Some NoVariable
    else if not (list_any is_path parts) then Some NoPath
    else if list_any is_column parts && not (has_line parts) then Some NoLine
    else if not (has_scheme parts) then Some NoScheme
    else None

-- the format with a name, or a text that isn't the name of one
abbrev pub format_text : List ℕ → List ℕ
format_text text =
    if bytes_eq text (codes "none") then []
    else if bytes_eq text (codes "default") || bytes_eq text (codes "file")
    then codes "file://{host}{path}"
    else if bytes_eq text (codes "grep+") then codes "grep+://{path}:{line}"
    else if bytes_eq text (codes "kitty") then codes "file://{host}{path}#{line}"
    else if bytes_eq text (codes "macvim")
    then codes "mvim://open?url=file://{path}&line={line}&column={column}"
    else if bytes_eq text (codes "textmate")
    then codes "txmt://open?url=file://{path}&line={line}&column={column}"
    else if bytes_eq text (codes "vscode") then codes "vscode://file{path}:{line}:{column}"
    else if bytes_eq text (codes "vscode-insiders")
    then codes "vscode-insiders://file{path}:{line}:{column}"
    else if bytes_eq text (codes "vscodium") then codes "vscodium://file{path}:{line}:{column}"
    else if bytes_eq text (codes "cursor") then codes "cursor://file{path}:{line}:{column}"
    else text

-- these are the parts of the format that a text or a name stands for, and nothing is wrong with
-- them
abbrev pub IsFormatOf : List ℕ → List HyperlinkPart → Type 0
IsFormatOf text parts = (spelled parts ≡ format_text text) × (fault_of parts ≡ None)

-- why a text isn't a format: it is malformed, or something is wrong with its parts
abbrev pub IsRefusedFormat : List ℕ → HyperlinkFormatError → Type 0
IsRefusedFormat text error = IsMalformed (format_text text) error
    ⊎ ((parts : List HyperlinkPart) × (spelled parts ≡ format_text text)
    × (fault_of parts ≡ Some error))
