-- The labels of the Encoding Standard that name UTF-8 or UTF-16, and how a label is read.
use Rattle.std.specs.Prelude.{ℕ, ◌-◌, Bool, List, [], ◌∷◌, length, take, drop, codes, Option}
use Rattle.std.specs.Char.{is_ascii_whitespace}
use Rattle.std.specs.List.{find, list_any, prefix_len, suffix_len}
use Rattle.std.specs.Str.{str_eq_ignore_ascii_case}
use Rattle.grep_decode.specs.declared.label.Label.{Label}
use Rattle.grep_decode.specs.declared.label.Label.TheVariants.{Utf8, Utf16Le, Utf16Be}

-- how the Encoding Standard spells an encoding
abbrev pub spellings : Label → List (List ℕ)
spellings Utf8 = codes "unicode-1-1-utf-8" ∷ codes "unicode11utf8" ∷ codes "unicode20utf8"
    ∷ codes "utf-8" ∷ codes "utf8" ∷ codes "x-unicode20utf8" ∷ []
spellings Utf16Le = codes "csunicode" ∷ codes "iso-10646-ucs-2" ∷ codes "ucs-2" ∷ codes "unicode"
    ∷ codes "unicodefeff" ∷ codes "utf-16" ∷ codes "utf-16le" ∷ []
spellings Utf16Be = codes "unicodefffe" ∷ codes "utf-16be" ∷ []

-- the encodings that have labels; no spelling is one of two of them
abbrev pub encodings : List Label
encodings = Utf8 ∷ Utf16Le ∷ Utf16Be ∷ []

-- a text without the tabs, line feeds, form feeds, carriage returns and spaces before it, and
-- without those after it
abbrev pub without_space_before : List ℕ → List ℕ
without_space_before text = drop (prefix_len is_ascii_whitespace text) text

abbrev pub without_space_after : List ℕ → List ℕ
without_space_after text = take (length text - suffix_len is_ascii_whitespace text) text

-- a name is one of an encoding's spellings, whatever the case of ASCII letters
abbrev pub is_spelling_of : Label → List ℕ → Bool
is_spelling_of label name =
    list_any (λ spelling. str_eq_ignore_ascii_case spelling name) (spellings label)

-- the encoding that a label names
unfoldable pub label_named : List ℕ → Option Label
label_named text =
    find (λ label. is_spelling_of label (without_space_after (without_space_before text))) encodings
