-- The number that a text writes.
use Rattle.std.specs.Prelude.{ℕ, ◌^◌, Bool, ◌&&◌, nat_lt, nat_le, if◌then◌else◌, List, length}
use Rattle.std.specs.Prelude.{Option, Some, None}
use Rattle.std.specs.Char.{is_ascii_digit}
use Rattle.std.specs.List.{list_all}
use Rattle.std.specs.Str.Parse.{digits_value}

-- one to ten decimal digits
abbrev pub is_numeral : List ℕ → Bool
is_numeral text = nat_lt 0 (length text) && nat_le (length text) 10 && list_all is_ascii_digit text

-- the number that they write, if it is below 2 ^ 32
abbrev pub number_of : List ℕ → Option ℕ
number_of text =
    if is_numeral text && nat_lt (digits_value 10 text) (2 ^ 32) then Some (digits_value 10 text)
    else None
