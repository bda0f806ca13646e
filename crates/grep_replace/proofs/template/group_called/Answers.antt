use Rattle.regex.proofs.TemplateLemmas.{number_parsed, index_is_position}
use Rattle.regex.specs.Names.{names_of}
use Rattle.regex.specs.Templates.{group_called}
use Rattle.grep_replace.proofs.template.group_called.Goals as goal

pub returns-in-Ok : goal.returns-in-Ok
unfolding group_called
returns-in-Ok c =
    let found = rw c.in-Ok.is at (number_parsed c.args.name.now c.parse.result c.parse.ensures.value.0) in rw (group_called, found)

pub returns-in-Err : goal.returns-in-Err
unfolding group_called
returns-in-Err c =
    let none = rw c.in-Err.is at (number_parsed c.args.name.now c.parse.result c.parse.ensures.value.0) in
    rw (group_called, none) (index_is_position (names_of c.args.names.now) c.args.name.now c.index_of.result c.index_of.ensures)
