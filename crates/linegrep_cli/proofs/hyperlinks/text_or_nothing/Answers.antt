use Rattle.linegrep_cli.proofs.WordLemmas.{nothing-of-others, text-of-utf8}
use Rattle.linegrep_cli.proofs.hyperlinks.text_or_nothing.Goals as goal

pub returns-in-Ok : goal.returns-in-Ok
returns-in-Ok c = text-of-utf8 c.args.bytes.now c.in-Ok.text.now c.in-Ok.ensures.cases.0 c.in-Ok.ensures.cases.1

pub returns-in-Err : goal.returns-in-Err
returns-in-Err c = nothing-of-others c.args.bytes.now c.in-Err.ensures.cases.0
