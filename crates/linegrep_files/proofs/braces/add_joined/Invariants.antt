use Rattle.std.proofs.Common.{◌≡◌, ◌≤◌, ◌++◌, length, map, take}
use Rattle.linegrep_files.specs.Braces.{bytes_of}
use Rattle.linegrep_files.specs.declared.braces.TheConstants.{MOST_TEXTS}
use Rattle.linegrep_files.proofs.braces.add_joined.Given as goal

abbrev pub invariant-loop-choice : goal.invariant-loop-choice
invariant-loop-choice l = (bytes_of l.texts.items ≡ bytes_of l.fn.texts.items
    ++ map (λ choice. l.text ++ choice) (bytes_of (take l.choice-index l.choices)))
    × (length (bytes_of l.fn.texts.items) ≤ MOST_TEXTS → length (bytes_of l.texts.items) ≤ MOST_TEXTS)
