use Rattle.std.proofs.Common.{◌≡◌, length}
use Rattle.linegrep_options.specs.CommandLines.{reading_of}
use Rattle.linegrep_options.specs.ParsedWords.{after, texts}
use Rattle.linegrep_options.proofs.command_line.parse.Given as goal

abbrev pub invariant-loop-word : goal.invariant-loop-word
invariant-loop-word l = after l.parsed (reading_of (texts l.later)) ≡ reading_of (texts l.words)

abbrev pub decreases-loop-word : goal.decreases-loop-word
decreases-loop-word l = length l.later
