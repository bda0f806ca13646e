use Rattle.std.proofs.Common.{◌≡◌, ◌++◌, ℕ, Bool, List, take}
use Rattle.linegrep_files.specs.FileTypes.{AreTypeGlobs, with_choice}
use Rattle.linegrep_files.specs.TypeDefinitions.{globs_of, pairs_of}
use Rattle.linegrep_files.proofs.types.Types.add_globs.Given as goal

abbrev pub invariant-loop-definition : goal.invariant-loop-definition
invariant-loop-definition l = record {
  asked : l.self.are_asked ≡ l.fn.self.are_asked;
  globs : (before : List (List ℕ × Bool)) → AreTypeGlobs before l.fn.self.globs
      → AreTypeGlobs (before ++ with_choice l.selection.is_exclusion
      (globs_of (pairs_of (take l.definition-index l.known.definitions.items)) l.selection.name.now)) l.self.globs;
}
