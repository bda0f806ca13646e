use Rattle.std.proofs.Common.{◌∙◌, ap, arith, fold}
use Rattle.std.proofs.lemmas.Iterator.Consumers.{YieldsList-end}
use Rattle.std.proofs.lemmas.Iterator.Splits.{YieldsList-from_str_split}
use Rattle.linegrep_files.specs.TypeDefinitions.{pairs_of, with_globs_of}
use Rattle.linegrep_files.proofs.type_definitions.KnownTypes.include_all.Goals as goal

pub returns-clause-definitions : goal.returns-clause-definitions
returns-clause-definitions c =
    let all = YieldsList-end (YieldsList-from_str_split 44 c.args.others.now (omega arith) (cc) (cc) (cc))
    c.loop-other.yielded _ c.loop-other.yielded_by _ _ c.in-None.is c.next.ensures.steps in
    c.loop-other.invariant.definitions
    ∙ ap (fold (with_globs_of c.args.name.now) (pairs_of c.args.self.now.definitions.items)) all.0
