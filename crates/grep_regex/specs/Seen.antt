-- What patterns see of what they are asked about.
use Rattle.std.specs.Prelude.{ℕ, ◌-◌, if◌then◌else◌, nat_eq, List, [], ◌∷◌, length, take, Option}
use Rattle.std.specs.Prelude.{None, Some}
use Rattle.std.specs.List.{ends_with}
use Rattle.grep_matcher.specs.declared.line_terminator.LineTerminator.{LineTerminator}
use Rattle.grep_matcher.specs.declared.line_terminator.LineTerminator.TheVariants.{Byte, Crlf}

-- without what ends a line: a carriage return and a line feed, or a line feed alone
abbrev pub without_line_end : List ℕ → List ℕ
without_line_end bytes =
    if ends_with nat_eq bytes (13 ∷ 10 ∷ []) then take (length bytes - 2) bytes
    else if ends_with nat_eq bytes (10 ∷ []) then take (length bytes - 1) bytes
    else bytes

-- all of it, but under CRLF without what ends a line there
abbrev pub seen_bytes : Option LineTerminator → List ℕ → List ℕ
seen_bytes None haystack = haystack
seen_bytes (Some (Byte b)) haystack = haystack
seen_bytes (Some Crlf) haystack = without_line_end haystack
