use Rattle.std.proofs.Common.{◌≡◌, ◌≤◌, ◌+◌, List, ◌++◌, ◌==◌, length}
use Rattle.std.specs.List.{slice_split}
use Rattle.grep_ignore.specs.Lines.{lines_of}
use Rattle.grep_ignore.specs.declared.rules.Misread.{Misread}
use Rattle.grep_ignore.specs.declared.rules.Rule.{Rule}
use Rattle.grep_ignore.proofs.LinesLemmas.{GoOn}
use Rattle.grep_ignore.proofs.rules.Rules.add_lines.Given as goal

abbrev pub invariant-loop-rest : goal.invariant-loop-rest
invariant-loop-rest l = (rules : List Rule) × (faults : List Misread) × (l.self ≡ l.fn.self ++ rules)
    × (l.misread.items ≡ l.fn.misread.items ++ faults)
    × (l.number + length l.text ≤ length l.contents + 1)
    × GoOn l.ignores_case (lines_of l.contents) l.number (slice_split (λ byte. byte == 10) l.text) rules faults

abbrev pub decreases-loop-rest : goal.decreases-loop-rest
decreases-loop-rest l = length l.text
