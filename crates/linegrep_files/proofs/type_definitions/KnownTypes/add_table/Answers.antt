use Rattle.std.proofs.Common.{◌∙◌, ◌++◌, ap, fold}
use Rattle.std.proofs.lemmas.Iterator.Consumers.{YieldsList-end}
use Rattle.std.proofs.lemmas.Iterator.Splits.{YieldsList-from_lines}
use Rattle.linegrep_files.specs.TypeDefinitions.{line_definitions, pairs_of}
use Rattle.linegrep_files.proofs.type_definitions.KnownTypes.add_table.Goals as goal

pub returns-clause-definitions : goal.returns-clause-definitions
returns-clause-definitions c =
    let all = YieldsList-end (YieldsList-from_lines c.args.table.now (cc)) c.loop-line.yielded _
    c.loop-line.yielded_by _ _ c.in-None.is c.next.ensures.steps in
    c.loop-line.invariant.definitions
    ∙ ap (λ l. fold (λ definitions line. definitions ++ line_definitions line)
    (pairs_of c.args.self.now.definitions.items) l) all.0
