-- Links: what comes before a text that is a link, and after it.
use Rattle.std.specs.Prelude.{ℕ, ◌+◌, ◌/◌, ◌%◌, Bool, not, ◌&&◌, ◌||◌, ◌==◌, if◌then◌else◌}
use Rattle.std.specs.Prelude.{nat_le, nat_lt, List, [], ◌∷◌, ◌++◌, codes}
use Rattle.std.specs.Prelude.{decimal, Option, None, Some, string_bytes}
use Rattle.std.specs.Borrow.{Bor}
use Rattle.std.specs.List.{flat_map}
use Rattle.std.specs.Option.{option_map, unwrap_or}
use Rattle.grep_printer.specs.ColoredTexts.{colored}
use Rattle.grep_printer.specs.HyperlinkFormats.{has_line}
use Rattle.grep_printer.specs.declared.hyperlink_format.HyperlinkPart.{HyperlinkPart}
use Rattle.grep_printer.specs.declared.hyperlink_format.HyperlinkPart.TheVariants.{Byte, Column}
use Rattle.grep_printer.specs.declared.hyperlink_format.HyperlinkPart.TheVariants.{Host, Line, Path}
use Rattle.grep_printer.specs.declared.hyperlink_format.HyperlinkPart.TheVariants.{WslPrefix}
use Rattle.grep_printer.specs.declared.hyperlinks.Hyperlink.{Hyperlink}
use Rattle.grep_printer.specs.declared.hyperlinks.PrinterPath.{PrinterPath}

-- a URL has a byte of a path as it is: a letter of ASCII, a digit, a slash, a colon, a hyphen, a
-- dot, an underscore, a tilde, or a byte of a character that isn't of ASCII
abbrev pub is_uri_byte : ℕ → Bool
is_uri_byte byte = (nat_le 45 byte && nat_le byte 58) || (nat_le 65 byte && nat_le byte 90)
    || (nat_le 97 byte && nat_le byte 122) || byte == 95 || byte == 126 || nat_le 128 byte

-- a hexadecimal digit
abbrev pub hex_digit : ℕ → ℕ
hex_digit digit = if nat_lt digit 10 then 48 + digit else 55 + digit

-- a byte as a URL has it: as it is, or a percent sign and two digits
abbrev pub uri_byte : ℕ → List ℕ
uri_byte byte = if is_uri_byte byte then byte ∷ []
    else 37 ∷ hex_digit (byte / 16) ∷ hex_digit (byte % 16) ∷ []

-- what a part of a format stands for, in a link to a path that leads to a line and a column. They
-- are the first ones, where none is known
abbrev pub part_target : Hyperlink → Option ℕ → Option ℕ → HyperlinkPart → List ℕ
part_target link line column (Byte byte) = byte ∷ []
part_target link line column Path = flat_map uri_byte link.path.now
part_target link line column Host = string_bytes link.config.now.environment.host
part_target link line column Line = decimal (unwrap_or line 1)
part_target link line column Column = decimal (unwrap_or column 1)
part_target link line column WslPrefix = string_bytes link.config.now.environment.wsl_prefix

-- where a link leads: what its format makes of a path, a line and a column
abbrev pub link_target : Hyperlink → Option ℕ → Option ℕ → List ℕ
link_target link line column =
    flat_map (part_target link line column) link.config.now.format.parts.items

-- what comes before a text that is a link: an escape, where the link leads, and the end of the
-- escape
abbrev pub link_start : Hyperlink → Option ℕ → Option ℕ → List ℕ
link_start link line column =
    27 ∷ codes "]8;;" ++ (link_target link line column ++ 27 ∷ codes "\\")

-- what comes after it: the escape of a link that leads nowhere
abbrev pub link_end : List ℕ
link_end = 27 ∷ codes "]8;;" ++ 27 ∷ codes "\\"

-- a text that is a link to a path without a line, if there is one
abbrev pub linked : Option Hyperlink → List ℕ → List ℕ
linked None text = text
linked (Some link) text = link_start link None None ++ (text ++ link_end)

-- a path as it is written alone: in a color if there is one, and as a link if it has one
abbrev pub linked_path : Option (List ℕ) → PrinterPath → List ℕ
linked_path color path = linked path.link (colored color path.text.now)

-- a path as it is written within a link
abbrev pub path_within : Option (List ℕ) → Option PrinterPath → List ℕ
path_within color None = []
path_within color (Some path) = colored color path.text.now

-- a path without a link, if there is a path
abbrev pub unlinked : Option (Bor (List ℕ)) → Option PrinterPath
unlinked path = option_map (λ text. record { text = text; link = None }) path

-- the text of a path, if there is one
abbrev pub shown_path : Option PrinterPath → Option (Bor (List ℕ))
shown_path path = option_map (λ p. p.text) path

-- the link, unless a heading has one that leads to the same place
abbrev pub link_below : Bool → Option Hyperlink → Option Hyperlink
link_below heading None = None
link_below heading (Some link) =
    if heading && not (has_line link.config.now.format.parts.items) then None else Some link

-- the link of what comes before a line, by whether the path is written as a heading. If it is, each
-- line has a link only if it leads to the line
abbrev pub prefix_link : Bool → Option PrinterPath → Option Hyperlink
prefix_link heading None = None
prefix_link heading (Some path) = link_below heading path.link
