use Rattle.std.proofs.Common.{◌∙◌, ◌++◌, ap, arith, map}
use Rattle.std.proofs.lemmas.Iterator.Consumers.{YieldsList-end}
use Rattle.std.proofs.lemmas.Iterator.Splits.{YieldsList-from_str_split}
use Rattle.linegrep_files.specs.TypeDefinitions.{pairs_of}
use Rattle.linegrep_files.proofs.TypeDefinitionLemmas.{line-is}
use Rattle.linegrep_files.proofs.type_definitions.KnownTypes.add_line.Goals as goal

pub returns-clause-definitions : goal.returns-clause-definitions
returns-clause-definitions c =
    let all = YieldsList-end (YieldsList-from_str_split 44 c.split_colon.result.1.now (omega arith) (cc) (cc) (cc))
    c.loop-glob.yielded _ c.loop-glob.yielded_by _ _ c.in-None.is c.next.ensures.steps in
    c.loop-glob.invariant.definitions
    ∙ ap (λ l. pairs_of c.args.self.now.definitions.items ++ l)
    (ap (map (λ glob. (c.split_colon.result.0.now, glob))) all.0
    ∙ line-is c.split_colon.result.0.now c.split_colon.result.1.now c.args.line.now c.split_colon.ensures.0
    c.split_colon.ensures.1)
