use Rattle.grep_regex.proofs.GroupLemmas.{names-read}
use Rattle.grep_regex.specs.Patterns.{config_of, text_of}
use Rattle.grep_regex.proofs.parse.read_names.Goals as goal

pub returns-in-Ok : goal.returns-in-Ok
returns-in-Ok c =
    rw c.replace.ensures.value
    (names-read (config_of c.args.options.now) (text_of c.args.options.now c.args.pattern.now) c.in-Ok.parsed.hir _
    c.in-Ok.ensures.ok)
