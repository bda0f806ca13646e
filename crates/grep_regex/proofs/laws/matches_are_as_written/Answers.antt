use Rattle.std.proofs.Common.{ap, option_map}
use Rattle.regex_vm.specs.Found.{span}
use Rattle.grep_regex.specs.Patterns.{written_re, excluded_bytes}
use Rattle.grep_regex.specs.Seen.{seen_bytes}
use Rattle.grep_regex.proofs.FindLemmas.{find-unterminated}
use Rattle.grep_regex.proofs.laws.matches_are_as_written.Goals as goal

pub returns : goal.returns
returns c = λ o patterns haystack from clear. ap (option_map span)
    (find-unterminated (excluded_bytes o.line_terminator) (written_re o patterns)
    (seen_bytes o.line_terminator haystack) from clear)
