use Rattle.std.proofs.Common.{◌∙◌, rules, tests}
use Rattle.std.specs.Str.{bytes_eq}
use Rattle.std.proofs.lemmas.Iterator.{YieldsList-from_slice}
use Rattle.std.proofs.lemmas.Iterator.Search.{any_from_yields_List}
use Rattle.linegrep_files.proofs.TypeDefinitionLemmas.{known-is}
use Rattle.linegrep_files.proofs.type_definitions.KnownTypes.knows.Goals as goal

pub returns : goal.returns
returns c = any_from_yields_List (λ d. bytes_eq d.name.now c.args.name.now) _ _ _ c.any.ensures.ran
    (YieldsList-from_slice c.args.self.now.definitions.items cc) (λ x b q k. search (rules, tests))
    ∙ known-is c.args.self.now.definitions.items c.args.name.now
