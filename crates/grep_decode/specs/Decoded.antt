-- The decoded bytes of an input.
use Rattle.std.specs.Prelude.{◌≡◌, ◌⊎◌, ℕ, ◌+◌, ◌*◌, Bool, true, false, ◌&&◌, ◌||◌, not, List, []}
use Rattle.std.specs.Prelude.{◌∷◌, drop, length, Option, None, Some, is_some, encode_utf8_all}
use Rattle.std.specs.Prelude.{if◌then◌else◌, nat_eq}
use Rattle.std.specs.Char.Utf16.{is_low_surrogate, is_high_surrogate, surrogate_pair_char}
use Rattle.std.specs.List.{starts_with}
use Rattle.std.specs.Str.Lossy.{utf8_error_len, utf8_lossy, utf8_valid_len}
use Rattle.grep_decode.specs.declared.byte_order.ByteOrder.{ByteOrder}
use Rattle.grep_decode.specs.declared.byte_order.ByteOrder.TheVariants.{Little, Big}
use Rattle.grep_decode.specs.declared.label.Label.{Label}
use Rattle.grep_decode.specs.declared.label.Label.TheVariants.{Utf8, Utf16Le, Utf16Be}

-- the 16-bit unit of two bytes
abbrev pub unit_of : ByteOrder → ℕ → ℕ → ℕ
unit_of Little first second = second * 256 + first
unit_of Big first second = first * 256 + second

-- the units of the bytes, without an odd last byte, and whether there is one
unfoldable pub units_of : ByteOrder → List ℕ → List ℕ
units_of order [] = []
units_of order (first ∷ []) = []
units_of order (first ∷ second ∷ bytes) = unit_of order first second ∷ units_of order bytes

unfoldable pub has_odd_byte : List ℕ → Bool
has_odd_byte [] = false
has_odd_byte (first ∷ []) = true
has_odd_byte (first ∷ second ∷ bytes) = has_odd_byte bytes

-- the scalar value of a unit that is in no pair: that of half a pair is U+FFFD
abbrev pub alone : ℕ → ℕ
alone unit = if is_high_surrogate unit || is_low_surrogate unit then 0xFFFD else unit

-- the scalar value of an odd byte, if there is one
abbrev pub odd_scalars : Bool → List ℕ
odd_scalars odd = if odd then 0xFFFD ∷ [] else []

-- the scalar values that these units spell, with an odd byte after them or none
unfoldable pub scalars_of : Bool → List ℕ → List ℕ
scalars_of odd [] = odd_scalars odd
scalars_of odd (unit ∷ []) =
    if is_high_surrogate unit then 0xFFFD ∷ [] else alone unit ∷ odd_scalars odd
scalars_of odd (unit ∷ next ∷ units) =
    if is_high_surrogate unit && is_low_surrogate next
    then surrogate_pair_char unit next ∷ scalars_of odd units
    else alone unit ∷ scalars_of odd (next ∷ units)

-- bytes of UTF-16, spelled in UTF-8
unfoldable pub utf16_text : ByteOrder → List ℕ → List ℕ
utf16_text order bytes = encode_utf8_all (scalars_of (has_odd_byte bytes) (units_of order bytes))

-- the mark of an encoding
abbrev pub mark_of : Label → List ℕ
mark_of Utf8 = 0xEF ∷ 0xBB ∷ 0xBF ∷ []
mark_of Utf16Le = 0xFF ∷ 0xFE ∷ []
mark_of Utf16Be = 0xFE ∷ 0xFF ∷ []

abbrev pub begins_with_mark : Label → List ℕ → Bool
begins_with_mark label input = starts_with nat_eq input (mark_of label)

-- the encoding whose mark the input begins with
abbrev pub marked : List ℕ → Option Label
marked input = if begins_with_mark Utf8 input then Some Utf8
    else (if begins_with_mark Utf16Le input then Some Utf16Le
    else (if begins_with_mark Utf16Be input then Some Utf16Be else None))

-- the text of an input in this encoding
abbrev pub text_of : Label → List ℕ → List ℕ
text_of Utf8 input = utf8_lossy input
text_of Utf16Le input = utf16_text Little input
text_of Utf16Be input = utf16_text Big input

-- an input without a mark: the label decides
abbrev pub by_label : Option Label → List ℕ → List ℕ
by_label None input = input
by_label (Some label) input = text_of label input

-- what is after the mark of an encoding: UTF-8 passes unchanged
abbrev pub after_mark : Label → List ℕ → List ℕ
after_mark Utf8 rest = rest
after_mark label rest = text_of label rest

-- a mark decides, and is dropped; without one the label decides
abbrev pub by_mark : Option Label → Option Label → List ℕ → List ℕ
by_mark None label input = by_label label input
by_mark (Some mark) label input = after_mark mark (drop (length (mark_of mark)) input)

-- the mark that is found: one is looked for if sniffing is on or a label is set
abbrev pub found_mark : Option Label → Bool → List ℕ → Option Label
found_mark label sniff input = if sniff || is_some label then marked input else None

-- the decoded bytes of an input
abbrev pub decoded : Option Label → Bool → List ℕ → List ℕ
decoded label sniff input = by_mark (found_mark label sniff input) label input

-- no label is set, and no mark is found: the decoded bytes are the input
abbrev pub is_unchanged : Option Label → Bool → List ℕ → Bool
is_unchanged label sniff input = not (is_some label) && not (is_some (found_mark label sniff input))

-- of UTF-16 no whole unit waits, or only one, a leading surrogate; an odd byte may follow
abbrev pub IsUnfinishedUtf16 : ByteOrder → List ℕ → Type 0
IsUnfinishedUtf16 order bytes = (units_of order bytes ≡ [])
    ⊎ ((unit : ℕ) × (units_of order bytes ≡ unit ∷ []) × (is_high_surrogate unit ≡ true))

-- there are no bytes, or they begin a character of this encoding that more bytes could complete. In
-- UTF-8 no character begins them, and what is wrong there is that they end
abbrev pub IsUnfinished : Label → List ℕ → Type 0
IsUnfinished Utf8 bytes = (utf8_valid_len bytes ≡ 0) × (utf8_error_len bytes ≡ None)
IsUnfinished Utf16Le bytes = IsUnfinishedUtf16 Little bytes
IsUnfinished Utf16Be bytes = IsUnfinishedUtf16 Big bytes
