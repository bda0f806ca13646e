-- Blocks of lines between two marks. Of the lines of an input, these read from the last to the
-- first.
use Rattle.std.specs.Prelude.{ℕ, Bool, false, not, ◌&&◌, ◌||◌, if◌then◌else◌}
use Rattle.std.specs.Prelude.{List, [], ◌∷◌, ◌++◌}
use Rattle.std.specs.Str.{bytes_eq}
use Rattle.grep_searcher.specs.declared.LineTerminator.TheVariants.{Byte}
use Rattle.grep_searcher.specs.Lines.{strip}

-- a line is a mark, without its terminator
abbrev pub is_mark : List ℕ → List ℕ → Bool
is_mark mark line = bytes_eq (strip (Byte 10) line) mark

module _ (begins ends : List ℕ) where
  abbrev pub is_either : List ℕ → Bool
  is_either line = is_mark begins line || is_mark ends line

  -- whether the last mark of some lines begins a block
  abbrev pub is_open : List (List ℕ) → Bool
  is_open [] = false
  is_open (line ∷ before) = if is_either line then is_mark begins line else is_open before

  -- the lines between marks, joined: each that isn't one, if the last mark before it begins a block
  abbrev pub text_between : List (List ℕ) → List ℕ
  text_between [] = []
  text_between (line ∷ before) = text_between before
      ++ (if not (is_either line) && is_open before then line else [])
