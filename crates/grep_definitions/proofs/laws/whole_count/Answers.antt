use Rattle.std.proofs.Common.{ap, ◌∙◌}
use Rattle.grep_matcher.specs.Lines.{byte_of, line_start}
use Rattle.grep_matcher.proofs.LineStartLemmas.{line_start-last}
use Rattle.grep_definitions.proofs.laws.whole_count.Goals as goal

pub returns : goal.returns
returns c = λ k meaning bytes same. ap (line_start (byte_of k.line_terminator) bytes) same
    ∙ line_start-last (byte_of k.line_terminator) bytes
