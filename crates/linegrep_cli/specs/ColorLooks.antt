-- How a text looks that is written, by what options ask for, and the escapes for that.
use Rattle.std.specs.Prelude.{◌≡◌, ℕ, ◌+◌, min, nat_lt, Bool, true, false, not, ◌&&◌, ◌==◌}
use Rattle.std.specs.Prelude.{if◌then◌else◌, List, [], ◌∷◌, ◌++◌, codes, decimal, length, Option}
use Rattle.std.specs.Prelude.{None, Some, String}
use Rattle.std.specs.Prelude.{is_some}
use Rattle.std.specs.Global.{Global}
use Rattle.std.specs.Char.{digit_value}
use Rattle.std.specs.List.{after_first, before_first, list_all, position_or_len}
use Rattle.std.specs.Option.{option_map}
use Rattle.std.specs.Str.{bytes_eq}
use Rattle.std.specs.Str.Parse.{digits_value, without_leading_plus}
use Rattle.std.specs.String.{string_bytes}
use Rattle.grep_printer.specs.ColoredTexts.{reset}
use Rattle.grep_printer.specs.declared.colors.ColorTexts.{ColorTexts}
use Rattle.linegrep_cli.specs.declared.looks.Look.{Look}
use Rattle.linegrep_cli.specs.declared.looks.Looks.{Looks}
use Rattle.linegrep_cli.specs.declared.looks.Tint.{Tint}
use Rattle.linegrep_cli.specs.declared.looks.Tint.TheVariants.{Indexed, Mixed, Named}

-- a byte is a mark
abbrev pub is_mark : ℕ → ℕ → Bool
is_mark mark byte = byte == mark

abbrev pub has_mark : ℕ → List ℕ → Bool
has_mark mark bytes = nat_lt (position_or_len (is_mark mark) bytes) (length bytes)

-- some bytes are digits of a radix, one or more
abbrev pub are_digits : ℕ → List ℕ → Bool
are_digits radix digits = nat_lt 0 (length digits)
    && list_all (λ digit. nat_lt (digit_value digit) radix) digits

-- the number that digits of a radix say, if it has 8 bits
abbrev pub byte_of_digits : ℕ → List ℕ → Option ℕ
byte_of_digits radix digits =
    if are_digits radix digits && nat_lt (digits_value radix digits) 256
    then Some (digits_value radix digits) else None

-- the number that digits of a radix say, maybe after a plus
abbrev pub byte_in : ℕ → List ℕ → Option ℕ
byte_in radix text = byte_of_digits radix (without_leading_plus text)

-- what is after the mark of hexadecimal digits, if that is there
abbrev pub after_mark : List ℕ → Option (List ℕ)
after_mark [] = None
after_mark (first ∷ []) = None
after_mark (first ∷ mark ∷ digits) =
    if first == 48 && mark == 120 then Some digits else None

-- the number that a text says: in decimal digits, or in hexadecimal ones after their mark
abbrev pub byte_by : Option (List ℕ) → List ℕ → Option ℕ
byte_by None text = byte_in 10 text
byte_by (Some digits) text = byte_in 16 digits

abbrev pub byte_value : List ℕ → Option ℕ
byte_value text = byte_by (after_mark text) text

-- the color of one number, or of three numbers with commas between them
abbrev pub tint_of_bytes : Option ℕ → Option ℕ → Option ℕ → Option Tint
tint_of_bytes (Some red) (Some green) (Some blue) = Some (Mixed red green blue)
tint_of_bytes red green blue = None

abbrev pub mixed_tint : List ℕ → List ℕ → Option Tint
mixed_tint red rest =
    if has_mark 44 rest
    then tint_of_bytes (byte_value red) (byte_value (before_first (is_mark 44) rest))
    (byte_value (after_first (is_mark 44) rest))
    else None

abbrev pub tint_of_numbers : List ℕ → Option Tint
tint_of_numbers text =
    if has_mark 44 text then mixed_tint (before_first (is_mark 44) text) (after_first
    (is_mark 44) text)
    else option_map Indexed (byte_value text)

-- the color of a name or of numbers
abbrev pub tint_of : List ℕ → Option Tint
tint_of value = if bytes_eq value (codes "black") then Some (Named 0)
    else if bytes_eq value (codes "red") then Some (Named 1)
    else if bytes_eq value (codes "green") then Some (Named 2)
    else if bytes_eq value (codes "yellow") then Some (Named 3)
    else if bytes_eq value (codes "blue") then Some (Named 4)
    else if bytes_eq value (codes "magenta") then Some (Named 5)
    else if bytes_eq value (codes "cyan") then Some (Named 6)
    else if bytes_eq value (codes "white") then Some (Named 7)
    else tint_of_numbers value

-- the look of a text about which nothing is asked for
abbrev pub plain_look : Look
plain_look = record {
  letters = None;
  behind = None;
  is_bold = false;
  is_intense = false;
  is_underlined = false;
  is_italic = false;
}

abbrev pub is_plain : Look → Bool
is_plain look = not (is_some look.letters) && not (is_some look.behind) && not look.is_bold
    && not look.is_intense && not look.is_underlined && not look.is_italic

-- a look with one more style, by the style's name, if there is such a style
abbrev pub style_with : List ℕ → Look → Option Look
style_with name look = if bytes_eq name (codes "bold") then Some (record look { is_bold = true })
    else if bytes_eq name (codes "nobold") then Some (record look { is_bold = false })
    else if bytes_eq name (codes "intense") then Some (record look { is_intense = true })
    else if bytes_eq name (codes "nointense") then Some (record look { is_intense = false })
    else if bytes_eq name (codes "underline") then Some (record look { is_underlined = true })
    else if bytes_eq name (codes "nounderline") then Some (record look { is_underlined = false })
    else if bytes_eq name (codes "italic") then Some (record look { is_italic = true })
    else if bytes_eq name (codes "noitalic") then Some (record look { is_italic = false })
    else None

-- a look with another value of an attribute, if both are well formed
abbrev pub look_by : List ℕ → List ℕ → Look → Option Look
look_by attribute value look =
    if bytes_eq attribute (codes "fg")
    then option_map (λ tint. record look { letters = Some tint }) (tint_of value)
    else if bytes_eq attribute (codes "bg")
    then option_map (λ tint. record look { behind = Some tint }) (tint_of value)
    else if bytes_eq attribute (codes "style") then style_with value look
    else None

-- a look after a change: `none`, or an attribute, a colon and a value
abbrev pub look_with : List ℕ → Look → Option Look
look_with change look = if bytes_eq change (codes "none") then Some plain_look
    else if has_mark 58 change
    then look_by (before_first (is_mark 58) change) (after_first (is_mark 58) change) look
    else None

-- all looks after a change in one of them, by its name
abbrev pub looks_by : List ℕ → List ℕ → Looks → Option Looks
looks_by part change looks =
    if bytes_eq part (codes "path")
    then option_map (λ look. record looks { path = look }) (look_with change looks.path)
    else if bytes_eq part (codes "line")
    then option_map (λ look. record looks { line = look }) (look_with change looks.line)
    else if bytes_eq part (codes "column")
    then option_map (λ look. record looks { column = look }) (look_with change looks.column)
    else if bytes_eq part (codes "match")
    then option_map (λ look. record looks { matched = look }) (look_with change looks.matched)
    else if bytes_eq part (codes "highlight")
    then option_map (λ look. record looks { highlight = look }) (look_with change looks.highlight)
    else None

-- all looks after what a text says: a name, a colon and a change
abbrev pub looks_with : List ℕ → Looks → Option Looks
looks_with text looks = if has_mark 58 text
    then looks_by (before_first (is_mark 58) text) (after_first (is_mark 58) text) looks
    else None

-- the looks at first: paths are magenta, line numbers green, and matches bold and red. Lines of
-- matches look as other text
abbrev pub first_looks : Looks
first_looks = record {
  path = record plain_look { letters = Some (Named 5) };
  line = record plain_look { letters = Some (Named 2) };
  column = plain_look;
  matched = record plain_look { letters = Some (Named 1); is_bold = true };
  highlight = plain_look;
}

-- the escape of a color, for the letters or for what is behind them
abbrev pub tint_text : List ℕ → Bool → Option Tint → List ℕ
tint_text layer is_intense None = []
tint_text layer is_intense (Some (Named number)) =
    if is_intense
    then (27 ∷ codes "[") ++ (layer ++ (codes "8;5;" ++ (decimal (min (number + 8) 255)
    ++ codes "m")))
    else (27 ∷ codes "[") ++ (layer ++ (decimal number ++ codes "m"))
tint_text layer is_intense (Some (Indexed number)) =
    (27 ∷ codes "[") ++ (layer ++ (codes "8;5;" ++ (decimal number ++ codes "m")))
tint_text layer is_intense (Some (Mixed red green blue)) =
    (27 ∷ codes "[") ++ (layer ++ (codes "8;2;" ++ (decimal red ++ (codes ";"
    ++ (decimal green ++ (codes ";" ++ (decimal blue ++ codes "m")))))))

-- an escape, if it is asked for, or else nothing
abbrev pub escape_if : Bool → List ℕ → List ℕ
escape_if is_asked escape = if is_asked then escape else []

-- the escapes before a text with a look
abbrev pub look_text : Look → List ℕ
look_text look = reset ++ (escape_if look.is_bold (27 ∷ codes "[1m")
    ++ (escape_if look.is_italic (27 ∷ codes "[3m")
    ++ (escape_if look.is_underlined (27 ∷ codes "[4m")
    ++ (tint_text (codes "3") look.is_intense look.letters
    ++ tint_text (codes "4") look.is_intense look.behind))))

-- the escape before a text with a look, unless that is the look of other text
abbrev pub IsTextIfAny : Look → Option (String Global) → Type 0
IsTextIfAny look None = is_plain look ≡ true
IsTextIfAny look (Some text) = (is_plain look ≡ false) × (string_bytes text ≡ look_text look)

-- the escapes before texts with these looks
pub record AreTextsOf (looks : Looks) (texts : ColorTexts) : Type 0 where
  pub path : string_bytes texts.path ≡ look_text looks.path
  pub line : string_bytes texts.line ≡ look_text looks.line
  pub column : string_bytes texts.column ≡ look_text looks.column
  pub matched : IsTextIfAny looks.matched texts.matched
  pub highlight : IsTextIfAny looks.highlight texts.highlight
