use Rattle.std.proofs.Common.{◌∙◌, ap, rules, tests}
use Rattle.std.proofs.lemmas.Fn.{filter_same}
use Rattle.linegrep_files.specs.TypeDefinitions.{pairs_of}
use Rattle.linegrep_files.proofs.TypeDefinitionLemmas.{cleared-is}
use Rattle.linegrep_files.proofs.type_definitions.KnownTypes.clear.Goals as goal

pub returns-clause-definitions : goal.returns-clause-definitions
returns-clause-definitions c =
    ap pairs_of (filter_same _ _ _ (λ x b f' k. search (rules, tests)) _ _ c.retain.ensures.filtered)
    ∙ cleared-is c.args.self.now.definitions.items c.args.name.now
