use Rattle.std.proofs.Common.{◌≡◌, map, take}
use Rattle.linegrep_files.specs.TypeDefinitions.{globs_of, pairs_of}
use Rattle.linegrep_files.proofs.type_definitions.globs_of.Given as goal

abbrev pub invariant-loop-definition : goal.invariant-loop-definition
invariant-loop-definition l = map (λ glob. glob.now) l.globs.items
    ≡ globs_of (pairs_of (take l.definition-index l.definitions)) l.name
