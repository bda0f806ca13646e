-- Line terminators, the lines of some bytes, and a line without its terminator.
use Rattle.std.specs.Prelude.{ℕ, ◌-◌, if◌then◌else◌, ◌==◌, nat_eq, List, [], ◌∷◌, length, take}
use Rattle.std.specs.List.{concat, ends_with}
use Rattle.grep_matcher.specs.declared.line_terminator.LineTerminator.{LineTerminator}
use Rattle.grep_matcher.specs.declared.line_terminator.LineTerminator.TheVariants.{Byte, Crlf}

-- the byte at which lines are split: under CRLF a line feed
abbrev pub byte_of : LineTerminator → ℕ
byte_of (Byte b) = b
byte_of Crlf = 10

-- the bytes that are removed from the end of a line before it is matched
abbrev pub bytes_of : LineTerminator → List ℕ
bytes_of (Byte b) = b ∷ []
bytes_of Crlf = 13 ∷ 10 ∷ []

-- a byte added at the front of the first line
abbrev pub onto_first : ℕ → List (List ℕ) → List (List ℕ)
onto_first b [] = (b ∷ []) ∷ []
onto_first b (line ∷ later) = (b ∷ line) ∷ later

-- the lines of some bytes: a byte t ends a line and belongs to it; any other byte belongs to the
-- same line as the byte after it
abbrev pub lines : ℕ → List ℕ → List (List ℕ)
lines t [] = []
lines t (b ∷ bytes) = if b == t then (b ∷ []) ∷ lines t bytes else onto_first b (lines t bytes)

-- the position at which line i starts: the number of bytes in the lines before it
abbrev pub line_start : ℕ → List ℕ → ℕ → ℕ
line_start t bytes i = length (concat (take i (lines t bytes)))

-- a line without its terminator, if it ends with all of it; under CRLF a line that ends in a line
-- feed alone keeps it
abbrev pub strip : LineTerminator → List ℕ → List ℕ
strip terminator line =
    if ends_with nat_eq line (bytes_of terminator)
    then take (length line - length (bytes_of terminator)) line
    else line
