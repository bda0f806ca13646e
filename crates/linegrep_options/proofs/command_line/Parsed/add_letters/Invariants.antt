use Rattle.std.proofs.Common.{◌≡◌, length}
use Rattle.linegrep_options.specs.CommandLines.{letters_reading}
use Rattle.linegrep_options.specs.ParsedWords.{after, later_of, texts}
use Rattle.linegrep_options.proofs.command_line.Parsed.add_letters.Given as goal

abbrev pub invariant-loop-letter : goal.invariant-loop-letter
invariant-loop-letter l = after l.self (letters_reading l.later (later_of (texts l.rest)))
    ≡ after l.fn.self (letters_reading l.letters (later_of (texts l.rest)))

abbrev pub decreases-loop-letter : goal.decreases-loop-letter
decreases-loop-letter l = length l.later
