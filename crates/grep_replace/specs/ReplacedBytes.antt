-- Bytes in which each part that matches is replaced.
use Rattle.std.specs.Prelude.{ℕ, ◌+◌, ◌-◌, List, [], ◌∷◌, ◌++◌, drop, length, slice_range, Option}
use Rattle.std.specs.List.{flat_map}
use Rattle.grep_matcher.specs.Lines.{byte_of, lines, strip}
use Rattle.grep_matcher.specs.declared.line_terminator.LineTerminator.{LineTerminator}
use Rattle.grep_replace.specs.MatchedParts.{all_parts}
use Rattle.grep_replace.specs.Templates.{group_text, template_text}
use Rattle.grep_replace.specs.declared.template.Template.{Template}

-- By what is written in place of the part at a position.
module _ (text_at : ℕ → List ℕ) where
  -- the bytes from a position on, in which each part is replaced
  abbrev pub replaced_bytes : List ℕ → ℕ → List (ℕ × ℕ) → List ℕ
  replaced_bytes bytes position [] = drop position bytes
  replaced_bytes bytes position (part ∷ later) =
      slice_range bytes position part.0 ++ (text_at part.0 ++ replaced_bytes bytes part.1 later)

  -- where the texts are that replace the parts. The bytes from a position on come after some number
  -- of bytes
  abbrev pub replaced_parts : ℕ → ℕ → List (ℕ × ℕ) → List (ℕ × ℕ)
  replaced_parts count position [] = []
  replaced_parts count position (part ∷ later) =
      (count + (part.0 - position), count + (part.0 - position) + length (text_at part.0))
      ∷ replaced_parts (count + (part.0 - position) + length (text_at part.0)) part.1 later

-- what a template makes of the groups of the first match from a position of some bytes on
abbrev pub text_of_match : Template → (List ℕ → ℕ → List (Option (ℕ × ℕ))) → List ℕ → ℕ → List ℕ
text_of_match template groups_at bytes position =
    template_text template (group_text bytes (groups_at bytes position))

-- By a template, by the first match of a haystack from a position on, and by the groups of that
-- match.
module _ (template : Template) (first_at : List ℕ → ℕ → Option (ℕ × ℕ))
    (groups_at : List ℕ → ℕ → List (Option (ℕ × ℕ))) where
  -- some bytes in which each match is replaced
  abbrev pub all_replaced : List ℕ → List ℕ
  all_replaced bytes =
      replaced_bytes (text_of_match template groups_at bytes) bytes 0
      (all_parts (first_at bytes) (length bytes))

  -- a line in which each match is replaced. The matches are those of the line without its
  -- terminator, which stays as it is
  abbrev pub replaced_line : LineTerminator → List ℕ → List ℕ
  replaced_line terminator line =
      all_replaced (strip terminator line) ++ drop (length (strip terminator line)) line

  -- some bytes in which each match of each line is replaced
  abbrev pub replaced_lines : LineTerminator → List ℕ → List ℕ
  replaced_lines terminator bytes =
      flat_map (replaced_line terminator) (lines (byte_of terminator) bytes)
