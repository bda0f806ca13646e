-- How far a walk through folders goes, and how large its files are.
use Rattle.std.specs.Prelude.{◌≡◌, ℕ, ◌*◌, ◌^◌, Bool, true, false, ◌&&◌, if◌then◌else◌, List, None}
use Rattle.std.specs.Prelude.{Option, Some, is_none, length, nat_le, nat_lt}
use Rattle.std.specs.Borrow.{Bor}
use Rattle.std.specs.Option.{option_and_then}
use Rattle.std.specs.Str.{all_ascii_digits}
use Rattle.std.specs.Str.Parse.{digits_value}
use Rattle.grep_ignore.specs.Lines.{ends_with, without_last}
use Rattle.linegrep_files.specs.declared.file_options.FileOptions.{FileOptions}
use Rattle.linegrep_files.specs.declared.limits.Limits.{Limits}

-- what the letter at the end of a size multiplies it by: a K, an M or a G
abbrev pub factor_of : List ℕ → ℕ
factor_of text = if ends_with 75 text then 2 ^ 10 else if ends_with 77 text then 2 ^ 20
    else if ends_with 71 text then 2 ^ 30 else 1

-- a size without the letter at its end
abbrev pub digits_of : List ℕ → List ℕ
digits_of text = if nat_lt 1 (factor_of text) then without_last text else text

-- the number that digits say, if there are some and it is below a bound
abbrev pub number_of : List ℕ → Option ℕ
number_of digits = if nat_lt 0 (length digits) && all_ascii_digits digits
    && nat_lt (digits_value 10 digits) (2 ^ 64) then Some (digits_value 10 digits) else None

-- a factor times a number, if the product has 64 bits
abbrev pub times : ℕ → ℕ → Option ℕ
times factor number = if nat_lt (number * factor) (2 ^ 64) then Some (number * factor) else None

-- the number of bytes that a text says: digits, with such a letter after them or none
abbrev pub size_of : List ℕ → Option ℕ
size_of text = option_and_then (times (factor_of text)) (number_of (digits_of text))

-- the size that an option sets, if it is used and its text is one
abbrev pub size_asked : Option (Bor (List ℕ)) → Option ℕ
size_asked text = option_and_then (λ text. size_of text.now) text

-- a size is given that isn't well formed
abbrev pub has_no_size : Option (Bor (List ℕ)) → Bool
has_no_size None = false
has_no_size (Some text) = is_none (size_of text.now)

-- limits are what options say
pub record AreLimits (options : FileOptions) (limits : Limits) : Type 0 where
  pub depth : limits.max_depth ≡ options.max_depth
  pub size : limits.max_size ≡ size_asked options.max_filesize
  pub has_size : has_no_size options.max_filesize ≡ false
  pub system : limits.is_one_system ≡ options.is_one_system

-- whether what is in a folder is visited, by how many levels the folder is below the one that is
-- named
abbrev pub allows_depth : Limits → ℕ → Bool
allows_depth limits depth = is_below limits.max_depth
  where
    is_below : Option ℕ → Bool
    is_below None = true
    is_below (Some most) = nat_lt depth most

-- whether a file isn't too large, by its size
abbrev pub allows_size : Limits → ℕ → Bool
allows_size limits size = is_within limits.max_size
  where
    is_within : Option ℕ → Bool
    is_within None = true
    is_within (Some most) = nat_le size most
