-- Words that stand for names which aren't UTF-8.
use Rattle.std.specs.Prelude.{ℕ, ◌+◌, ◌/◌, ◌%◌, if◌then◌else◌, List, [], ◌∷◌, nat_lt}
use Rattle.std.specs.List.{flat_map}

-- the hexadecimal digit of a number below 16: 0 to 9 and then a to f
abbrev pub hex_digit : ℕ → ℕ
hex_digit value = if nat_lt value 10 then 48 + value else 87 + value

-- a byte of ASCII is itself, and any other a NUL and its two digits
abbrev pub escaped_byte : ℕ → List ℕ
escaped_byte byte = if nat_lt byte 128 then byte ∷ []
    else 0 ∷ hex_digit (byte / 16) ∷ hex_digit (byte % 16) ∷ []

-- the word for some bytes
abbrev pub escaped : List ℕ → List ℕ
escaped bytes = flat_map escaped_byte bytes
