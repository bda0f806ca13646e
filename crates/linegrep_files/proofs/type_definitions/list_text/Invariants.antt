use Rattle.std.proofs.Common.{◌≡◌, [], string_bytes, take}
use Rattle.std.specs.List.{flat_map}
use Rattle.linegrep_files.specs.TypeDefinitions.{names_after, pairs_of, type_line}
use Rattle.linegrep_files.proofs.TypeDefinitionLemmas.{last_name}
use Rattle.linegrep_files.proofs.type_definitions.list_text.Given as goal

abbrev pub invariant-loop-definition : goal.invariant-loop-definition
invariant-loop-definition l = record {
  last : l.last ≡ last_name [] (pairs_of (take l.definition-index l.definitions));
  text : string_bytes l.text ≡ flat_map (type_line (pairs_of l.definitions))
      (names_after [] (pairs_of (take l.definition-index l.definitions)));
}
