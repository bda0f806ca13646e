use Rattle.grep_matcher.specs.Lines.{byte_of}
use Rattle.grep_matcher.proofs.LineStartLemmas.{line_start-last}
use Rattle.grep_definitions.proofs.laws.whole_count_across.Goals as goal

pub returns : goal.returns
returns c = λ k meaning bytes. line_start-last (byte_of k.line_terminator) bytes
