use Rattle.std.proofs.Common.{rules, tests}
use Rattle.std.proofs.lemmas.Iterator.{YieldsList-from_chars}
use Rattle.std.proofs.lemmas.Iterator.Search.{all_from_yields_List}
use Rattle.linegrep_files.specs.TypeDefinitions.{is_letter}
use Rattle.linegrep_files.proofs.type_definitions.are_letters.Goals as goal

pub returns : goal.returns
returns c = all_from_yields_List is_letter _ _ _ c.all.ensures.ran
    (YieldsList-from_chars c.args.text.now c.utf8.text c.chars.ensures.rest) (λ x b q k. search (rules, tests))
