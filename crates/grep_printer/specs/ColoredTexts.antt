-- Texts in colors: the escapes before and after them, and lines of which the parts that match are
-- colored.
use Rattle.std.specs.Prelude.{ℕ, ◌+◌, ◌-◌, ◌&&◌, ◌||◌, Bool, true, false, nat_le, nat_lt, List, []}
use Rattle.std.specs.Prelude.{◌∷◌, ◌++◌, codes, drop, take, Option, Some, None, String}
use Rattle.std.specs.Borrow.{Bor}
use Rattle.std.specs.Global.{Global}
use Rattle.std.specs.List.{list_any}
use Rattle.std.specs.String.{string_bytes}
use Rattle.grep_printer.specs.declared.colors.ColorSpecs.{ColorSpecs}
use Rattle.grep_printer.specs.declared.colors.ColorSpecs.TheVariants.{Chosen, Default, Plain}

-- the escape after which a terminal shows a text without colors
abbrev pub reset : List ℕ
reset = 27 ∷ codes "[0m"

-- an escape that is chosen, if one is
abbrev pub chosen_color : Option (String Global) → Option (List ℕ)
chosen_color None = None
chosen_color (Some text) = Some (string_bytes text)

-- the escape before a path, if there are colors: magenta is ripgrep's
abbrev pub path_color : ColorSpecs → Option (List ℕ)
path_color Plain = None
path_color Default = Some (reset ++ 27 ∷ codes "[35m")
path_color (Chosen texts) = Some (string_bytes texts.now.path)

-- the escape before a line number: green
abbrev pub line_color : ColorSpecs → Option (List ℕ)
line_color Plain = None
line_color Default = Some (reset ++ 27 ∷ codes "[32m")
line_color (Chosen texts) = Some (string_bytes texts.now.line)

-- the escape before a column or an offset, which changes nothing
abbrev pub column_color : ColorSpecs → Option (List ℕ)
column_color Plain = None
column_color Default = Some reset
column_color (Chosen texts) = Some (string_bytes texts.now.column)

-- the escape before the bytes of a line that match: bold red
abbrev pub matched_color : ColorSpecs → Option (List ℕ)
matched_color Plain = None
matched_color Default = Some (reset ++ (27 ∷ codes "[1m" ++ 27 ∷ codes "[31m"))
matched_color (Chosen texts) = chosen_color texts.now.matched

-- the escape before a line that matches, if it has one
abbrev pub highlight_color : ColorSpecs → Option (List ℕ)
highlight_color Plain = None
highlight_color Default = None
highlight_color (Chosen texts) = chosen_color texts.now.highlight

-- the bytes of an escape
abbrev pub color_of : Option (Bor (List ℕ)) → Option (List ℕ)
color_of None = None
color_of (Some color) = Some color.now

-- a text in a color, if there is one
abbrev pub colored : Option (List ℕ) → List ℕ → List ℕ
colored None text = text
colored (Some color) text = color ++ (text ++ reset)

-- whether a byte of a report is in one of some parts, and before an end
abbrev pub is_matched : List (ℕ × ℕ) → ℕ → ℕ → Bool
is_matched parts end at =
    list_any (λ part. nat_le part.0 at && nat_lt at part.1) parts && nat_lt at end

-- whether a part has bytes from a position on, or begins there or later
abbrev pub reaches : ℕ → ℕ × ℕ → Bool
reaches start part = nat_le start part.0 || nat_lt start part.1

-- what is written between two bytes, by whether the first one is colored and whether the second one
-- is: the color where it begins, and another escape where it ends
abbrev pub switch_text : List ℕ → List ℕ → Bool → Bool → List ℕ
switch_text color back false true = color
switch_text color back true false = back
switch_text color back true true = []
switch_text color back false false = []

-- some bytes from a position on, of which those are colored that a test chooses. What comes first
-- depends on whether the byte before them is colored
abbrev pub painted_from : List ℕ → List ℕ → (ℕ → Bool) → Bool → ℕ → List ℕ → List ℕ
painted_from color back is_chosen before at [] = switch_text color back before false
painted_from color back is_chosen before at (byte ∷ later) =
    switch_text color back before (is_chosen at)
    ++ byte ∷ painted_from color back is_chosen (is_chosen at) (at + 1) later

-- some bytes, of which those are colored that a test chooses. If there is a highlight, it is for
-- the first bytes, as many as are given: it comes before them, and again after each color in them,
-- and a reset ends it
abbrev pub painted_in : Option (List ℕ) → List ℕ → (ℕ → Bool) → ℕ → ℕ → List ℕ → List ℕ
painted_in None color is_chosen start size bytes =
    painted_from color reset is_chosen false start bytes
painted_in (Some highlight) color is_chosen start size bytes =
    highlight ++ (painted_from color highlight is_chosen false start (take size bytes)
    ++ (reset ++ drop size bytes))

-- some bytes of a report from a position on. If there is a color, the bytes before an end that are
-- in a part have it, and if there is a highlight too, all bytes before that end have it
abbrev pub painted : Option (List ℕ) → Option (List ℕ) → List (ℕ × ℕ) → ℕ → ℕ → List ℕ → List ℕ
painted None highlight parts end start bytes = bytes
painted (Some color) highlight parts end start bytes =
    painted_in highlight color (is_matched parts end) start (end - start) bytes
