use Rattle.std.proofs.Common.{◌≡◌, ◌≤◌, length, take}
use Rattle.linegrep_files.specs.Braces.{bytes_of, each_with}
use Rattle.linegrep_files.specs.declared.braces.TheConstants.{MOST_TEXTS}
use Rattle.linegrep_files.proofs.braces.joined.Given as goal

abbrev pub invariant-loop-text : goal.invariant-loop-text
invariant-loop-text l = (bytes_of l.texts.items
    ≡ each_with (bytes_of (take l.text-index l.before)) (bytes_of l.choices))
    × (length (bytes_of l.texts.items) ≤ MOST_TEXTS)
