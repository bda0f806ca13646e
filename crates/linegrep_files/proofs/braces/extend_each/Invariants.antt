use Rattle.std.proofs.Common.{◌≡◌, ◌++◌, drop, map, take}
use Rattle.linegrep_files.specs.Braces.{bytes_of}
use Rattle.linegrep_files.proofs.braces.extend_each.Given as goal

abbrev pub invariant-loop-text : goal.invariant-loop-text
invariant-loop-text l = bytes_of l.text-items
    ≡ map (λ text. text ++ l.bytes) (take l.text-index (bytes_of l.fn.texts.items))
    ++ drop l.text-index (bytes_of l.fn.texts.items)
