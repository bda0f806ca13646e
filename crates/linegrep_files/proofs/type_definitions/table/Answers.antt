use Rattle.std.proofs.Common.{refl}
use Rattle.linegrep_files.specs.TypeDefinitions.{known_table}
use Rattle.linegrep_files.proofs.type_definitions.table.Goals as goal

pub returns : goal.returns
unfolding known_table
returns c = refl
