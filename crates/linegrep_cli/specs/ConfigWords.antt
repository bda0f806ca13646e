-- Which arguments the contents of a file of options have. 10 is a line feed, and 35 is `#`.
use Rattle.std.specs.Prelude.{ℕ, Bool, not, ◌&&◌, ◌==◌, List, filter, length, map, slice_index}
use Rattle.std.specs.Char.{is_whitespace}
use Rattle.std.specs.List.{slice_split}
use Rattle.bstr.specs.Trim.{trim_end_by, trim_start_by}

-- a line without the white space at its ends, which is that of Unicode
abbrev pub trimmed : List ℕ → List ℕ
trimmed line = trim_end_by is_whitespace (trim_start_by is_whitespace line)

-- a line that was trimmed is an argument: it has a byte, and the first isn't `#`
abbrev pub is_argument : List ℕ → Bool
is_argument line = not (length line == 0) && not (slice_index line 0 == 35)

-- the arguments that contents have, in order: the lines without the white space at their ends, but
-- for those that are blank or begin with `#`
abbrev pub config_words : List ℕ → List (List ℕ)
config_words contents =
    filter is_argument (map trimmed (slice_split (λ byte. byte == 10) contents))
