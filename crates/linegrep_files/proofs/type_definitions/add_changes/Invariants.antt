use Rattle.std.proofs.Common.{◌≡◌, ◌++◌, map}
use Rattle.linegrep_files.specs.TypeDefinitions.{change_of}
use Rattle.linegrep_files.proofs.type_definitions.add_changes.Given as goal

abbrev pub invariant-loop-text : goal.invariant-loop-text
invariant-loop-text l = l.changes.items ≡ l.fn.changes.items
    ++ map (change_of l.action) (map (λ p. (p.0.now, p.1.now)) l.yielded)
