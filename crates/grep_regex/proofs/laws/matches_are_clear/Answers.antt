use Rattle.std.proofs.Common.{subst}
use Rattle.grep_matcher.specs.FindResults.{IsFrom}
use Rattle.grep_regex.specs.PatternFirstMatches.{text-within}
use Rattle.grep_regex.specs.Patterns.{written_re, excluded_bytes}
use Rattle.grep_regex.specs.Seen.{seen_bytes}
use Rattle.grep_regex.proofs.FindLemmas.{clear-match}
use Rattle.grep_regex.proofs.SeenLemmas.{seen-clear}
use Rattle.grep_regex.proofs.laws.matches_are_clear.Goals as goal

pub returns : goal.returns
returns c = λ o patterns haystack from start end found.
    let seen = seen_bytes o.line_terminator haystack in
    let bytes = excluded_bytes o.line_terminator in
    let within = subst (IsFrom from seen) found (text-within o patterns seen from) in
    seen-clear o.line_terminator haystack bytes start end within.1.1
    (clear-match bytes (written_re o patterns) seen from start end found)
