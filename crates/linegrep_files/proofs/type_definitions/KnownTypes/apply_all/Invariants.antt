use Rattle.std.proofs.Common.{◌≡◌, Some, take}
use Rattle.linegrep_files.specs.TypeDefinitions.{all_changed, known_of}
use Rattle.linegrep_files.proofs.type_definitions.KnownTypes.apply_all.Given as goal

abbrev pub invariant-loop-change : goal.invariant-loop-change
invariant-loop-change l =
    all_changed (known_of l.fn.self) (take l.change-index l.changes) ≡ Some (known_of l.self)
