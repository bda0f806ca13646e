-- Patterns that see no difference between the edge of a haystack and a line terminator.
use Rattle.std.specs.Prelude.{ℕ, Bool, true, false, ◌&&◌, not, ◌==◌, nat_lt, Option, None, Some}
use Rattle.regex_hir.specs.Re.{Re, empty, literal, byte_in, char_in, look, cat, alt, group, plus}
use Rattle.regex_hir.specs.Reads.{always_reads}
use Rattle.regex_hir.specs.declared.look.Look.{Look}
use Rattle.regex_hir.specs.declared.look.Look.TheVariants.{Start, End, StartLf, EndLf, StartCrlf}
use Rattle.regex_hir.specs.declared.look.Look.TheVariants.{EndCrlf, WordAscii, WordAsciiNegate}
use Rattle.regex_hir.specs.declared.look.Look.TheVariants.{WordUnicode, WordUnicodeNegate}
use Rattle.regex_hir.specs.declared.look.Look.TheVariants.{WordStartAscii, WordEndAscii}
use Rattle.regex_hir.specs.declared.look.Look.TheVariants.{WordStartUnicode, WordEndUnicode}
use Rattle.regex_hir.specs.declared.look.Look.TheVariants.{WordStartHalfAscii, WordEndHalfAscii}
use Rattle.regex_hir.specs.declared.look.Look.TheVariants.{WordStartHalfUnicode, WordEndHalfUnicode}
use Rattle.ucd_perl.specs.Perl.{is_word_byte}
use Rattle.grep_matcher.specs.Lines.{byte_of}
use Rattle.grep_matcher.specs.declared.line_terminator.LineTerminator.{LineTerminator}
use Rattle.grep_matcher.specs.declared.line_terminator.LineTerminator.TheVariants.{Byte, Crlf}

-- an ASCII byte that isn't in words
abbrev pub is_separator : ℕ → Bool
is_separator b = nat_lt b 128 && not (is_word_byte b)

abbrev pub is_crlf : LineTerminator → Bool
is_crlf (Byte b) = false
is_crlf Crlf = true

abbrev pub is_line_feed : LineTerminator → Bool
is_line_feed (Byte b) = b == 10
is_line_feed Crlf = false

-- the assertion holds beside the terminator where it holds at the edge: after the byte that ends
-- the line before, and before the terminator's first byte
abbrev pub is_local_look : LineTerminator → Look → Bool
is_local_look terminator Start = false
is_local_look terminator End = false
is_local_look terminator StartLf = byte_of terminator == 10
is_local_look terminator EndLf = is_line_feed terminator
is_local_look terminator StartCrlf = is_crlf terminator
is_local_look terminator EndCrlf = is_crlf terminator
is_local_look terminator WordAscii = true
is_local_look terminator WordAsciiNegate = true
is_local_look terminator WordUnicode = true
is_local_look terminator WordUnicodeNegate = true
is_local_look terminator WordStartAscii = true
is_local_look terminator WordEndAscii = true
is_local_look terminator WordStartUnicode = true
is_local_look terminator WordEndUnicode = true
is_local_look terminator WordStartHalfAscii = true
is_local_look terminator WordEndHalfAscii = true
is_local_look terminator WordStartHalfUnicode = true
is_local_look terminator WordEndHalfUnicode = true

-- each assertion of the pattern is such
abbrev pub is_local : LineTerminator → Re → Bool
is_local terminator empty = true
is_local terminator (literal bs) = true
is_local terminator (byte_in rs) = true
is_local terminator (char_in rs) = true
is_local terminator (look l) = is_local_look terminator l
is_local terminator (cat a b) = is_local terminator a && is_local terminator b
is_local terminator (alt a b) = is_local terminator a && is_local terminator b
is_local terminator (group n a) = is_local terminator a
is_local terminator (plus greedy a) = is_local terminator a

-- what the pattern finds in many lines it finds in one of them alone; under CRLF an empty match
-- could be between the carriage return and the line feed. If no terminator is declared, it is so
-- under each.
abbrev pub is_by_line : Option LineTerminator → Re → Bool
is_by_line None re = always_reads re && is_local (Byte 0) re
is_by_line (Some (Byte b)) re = is_separator b && is_local (Byte b) re
is_by_line (Some Crlf) re = always_reads re && is_local Crlf re
