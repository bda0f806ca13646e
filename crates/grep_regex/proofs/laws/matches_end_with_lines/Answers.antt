use Rattle.std.proofs.Common.{arith, length, subst, sym, ◌++◌, ◌≤◌}
use Rattle.grep_matcher.specs.FindResults.{IsFrom}
use Rattle.grep_regex.specs.PatternFirstMatches.{text-within}
use Rattle.grep_regex.specs.Seen.{seen_bytes}
use Rattle.grep_regex.proofs.SeenLemmas.{seen-line}
use Rattle.grep_regex.proofs.laws.matches_end_with_lines.Goals as goal

pub returns : goal.returns
returns c = λ o patterns line ending from start end crlf ends found.
    let seen = seen_bytes o.line_terminator (line ++ ending) in
    let within = subst (IsFrom from seen) found (text-within o patterns seen from) in
    let short : length (seen_bytes o.line_terminator (line ++ ending)) ≤ length line =
    subst (λ t. length (seen_bytes t (line ++ ending)) ≤ length line) (sym crlf) (seen-line line ending ends) in
    omega (arith, within.1.1, short)
