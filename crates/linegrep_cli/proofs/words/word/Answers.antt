use Rattle.linegrep_cli.proofs.WordLemmas.{other-word, utf8-word}
use Rattle.linegrep_cli.proofs.words.word.Goals as goal

pub returns-in-Ok : goal.returns-in-Ok
returns-in-Ok c = utf8-word c.from_str.result c.args.bytes.now c.in-Ok.text.now c.in-Ok.ensures.cases.0
    c.in-Ok.ensures.cases.1 c.from_str.ensures.ok

pub returns-in-Err : goal.returns-in-Err
returns-in-Err c = other-word c.escape.result c.args.bytes.now c.in-Err.ensures.cases.0 c.escape.ensures
