use Rattle.std.proofs.Common.{◌∙◌, refl, sym}
use Rattle.linegrep_files.proofs.TypeDefinitionLemmas.{none-selected}
use Rattle.linegrep_files.proofs.types.try_read.Goals as goal

pub returns-then-are_none-clause-types : goal.returns-then-are_none-clause-types
returns-then-are_none-clause-types c = none-selected c.args.options.now _
    (sym c.are_none.ensures ∙ c.if-are_none.true) c.new.ensures refl
