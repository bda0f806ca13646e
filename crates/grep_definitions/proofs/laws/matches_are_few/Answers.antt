use Rattle.grep_lines.proofs.LineStepLemmas.{lines-at-most}
use Rattle.std.proofs.Common.{length, ap, arith}
use Rattle.grep_matcher.specs.Lines.{byte_of}
use Rattle.grep_definitions.specs.Plans.{reports_end}
use Rattle.grep_definitions.specs.SearchLaws.{is_matched, match_calls}
use Rattle.grep_definitions.proofs.SearchModeLemmas.{plan-by_line}
use Rattle.grep_definitions.proofs.MatchCallLemmas.{length-match_calls, count_below-few}
use Rattle.grep_definitions.proofs.SearchLawLemmas.{reports_end-le}
use Rattle.grep_definitions.proofs.laws.matches_are_few.Goals as goal

pub returns : goal.returns
returns c = λ k meaning bytes by_line.
    omega (
      arith,
      ap (λ plan. length (match_calls plan.calls)) (plan-by_line k meaning bytes by_line),
      length-match_calls k meaning bytes,
      count_below-few (is_matched k meaning bytes) (reports_end k meaning bytes),
      reports_end-le k meaning bytes,
      lines-at-most (byte_of k.line_terminator) bytes,
    )
