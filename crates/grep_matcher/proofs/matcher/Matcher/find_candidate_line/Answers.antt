use Rattle.std.proofs.Common.{arith}
use Rattle.grep_matcher.specs.Lines.{byte_of}
use Rattle.grep_matcher.proofs.StrippedLineLemmas.{line-is}
use Rattle.grep_matcher.proofs.matcher.Matcher.find_candidate_line.Goals as goal

-- no line ends at 0 or before it, and nothing is confirmed
pub returns-clause-trusted : goal.returns-clause-trusted
returns-clause-trusted g c = λ terminator lawful excludes. (
  λ i listed ends.
      let line = line-is (byte_of terminator) c.args.haystack.now i listed in
      absurd (omega (arith, line.ends, line.filled, ends.0)),
  λ i listed held confirmed. absurd (cc),
)
