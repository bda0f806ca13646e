-- The byte that is written in place of each slash of a path.
use Rattle.std.specs.Prelude.{◌≡◌, ℕ, Bool, true, false, not, ◌&&◌, ◌==◌, if◌then◌else◌, nat_lt}
use Rattle.std.specs.Prelude.{List, [], ◌∷◌, map, Option, None, Some, encode_utf8_all}
use Rattle.std.specs.Borrow.{Bor}
use Rattle.std.specs.Str.{chars}
use Rattle.linegrep_cli.specs.OptionUses.{has}
use Rattle.linegrep_cli.specs.SeparatorOptions.{separator_text}
use Rattle.linegrep_options.specs.declared.option_id.OptionId.TheVariants.{Files, Json}
use Rattle.linegrep_cli.specs.declared.options.Options.{Options}

-- some bytes are one byte of ASCII, or none
abbrev pub is_path_separator : List ℕ → Bool
is_path_separator [] = true
is_path_separator (byte ∷ []) = nat_lt byte 128
is_path_separator (byte ∷ next ∷ later) = false

abbrev pub first_byte : List ℕ → Option ℕ
first_byte [] = None
first_byte (byte ∷ later) = Some byte

-- the bytes that options ask for, with their escapes read, aren't a separator
abbrev pub refuses_path_separator : Options → Bool
refuses_path_separator options =
    not (is_path_separator (separator_text options.path_separator []))

-- paths are written in JSON, as they are
abbrev pub writes_paths_as_they_are : Options → Bool
writes_paths_as_they_are options = has options Json && not (has options Files)

-- the separator that options ask for, if they ask for one
abbrev pub path_separator_of : Options → Option ℕ
path_separator_of options = if writes_paths_as_they_are options then None
    else first_byte (separator_text options.path_separator [])

-- a path with a separator in place of each slash
abbrev pub with_separator : ℕ → List ℕ → List ℕ
with_separator separator path =
    encode_utf8_all (map (λ letter. if letter == 47 then separator else letter) (chars path))

-- the path that is written, by the separator, if there is one, and by the path of what is searched,
-- if there is one
abbrev pub IsShown : Option ℕ → Option (Bor (List ℕ)) → Option (Bor (List ℕ)) → Type 0
IsShown None path shown = shown ≡ path
IsShown (Some separator) None shown = shown ≡ None
IsShown (Some separator) (Some path) None = ⊥
IsShown (Some separator) (Some path) (Some shown) = shown.now ≡ with_separator separator path.now
