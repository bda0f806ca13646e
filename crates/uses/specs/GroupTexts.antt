-- The text of a group of a match in a line.
use Rattle.std.specs.Prelude.{ℕ, List, Option}
use Rattle.grep_replace.specs.Templates.{group_text}
use Rattle.grep_searcher.specs.Lines.{strip}
use Rattle.grep_searcher.specs.declared.LineTerminator.TheVariants.{Byte}

-- the text of a group of the first match in a line without its line feed, by the groups of the
-- first match of some bytes from a position on: empty, if the group takes no part in that match
abbrev pub text_in_line : (List ℕ → ℕ → List (Option (ℕ × ℕ))) → ℕ → List ℕ → List ℕ
text_in_line groups_at group line =
    let bytes = strip (Byte 10) line in group_text bytes (groups_at bytes 0) group
