use Rattle.std.proofs.Common.{◌≡◌, not, take, true}
use Rattle.std.specs.List.{list_all, list_any}
use Rattle.linegrep_files.specs.FileTypes.{AreTypeGlobs, selected_globs}
use Rattle.linegrep_files.specs.TypeDefinitions.{chosen_of, is_known, pairs_of}
use Rattle.linegrep_files.proofs.types.build.Given as goal

abbrev pub invariant-loop-selection : goal.invariant-loop-selection
invariant-loop-selection l = record {
  known : list_all (λ one. is_known (pairs_of l.known.definitions.items) one.0)
      (chosen_of (take l.selection-index l.known.selections.items)) ≡ true;
  asked : l.types.are_asked ≡ list_any (λ one. not one.is_exclusion) l.known.selections.items;
  globs : AreTypeGlobs (selected_globs (pairs_of l.known.definitions.items)
      (chosen_of (take l.selection-index l.known.selections.items))) l.types.globs;
}
