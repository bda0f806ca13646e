use Rattle.std.proofs.Common.{◌≤◌, length, ◌-◌}
use Rattle.regex.specs.Names.{names_of}
use Rattle.grep_replace.proofs.TemplateLemmas.{IsReadUpTo}
use Rattle.grep_replace.proofs.template.read_pieces.Given as goal

abbrev pub invariant-loop-at : goal.invariant-loop-at
invariant-loop-at l =
    (l.start ≤ l.at) × (l.at ≤ length l.text) × IsReadUpTo (names_of l.names) l.text l.pieces.items l.start l.at

abbrev pub decreases-loop-at : goal.decreases-loop-at
decreases-loop-at l = length l.text - l.at
