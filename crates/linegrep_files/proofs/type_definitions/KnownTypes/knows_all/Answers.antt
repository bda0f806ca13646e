use Rattle.std.proofs.Common.{arith, rules, tests}
use Rattle.std.proofs.lemmas.Iterator.Search.{all_from_yields_List}
use Rattle.std.proofs.lemmas.Iterator.Splits.{YieldsList-from_str_split}
use Rattle.linegrep_files.specs.TypeDefinitions.{is_known, pairs_of}
use Rattle.linegrep_files.proofs.type_definitions.KnownTypes.knows_all.Goals as goal

pub returns : goal.returns
returns c = all_from_yields_List (is_known (pairs_of c.args.self.now.definitions.items)) _ _ _ c.all.ensures.ran
    (YieldsList-from_str_split 44 c.args.names.now (omega arith) c.split.ensures.text c.split.ensures.has_more
    c.split.ensures.pattern) (λ x b q k. search (rules, tests))
