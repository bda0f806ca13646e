use Rattle.grep_regex.proofs.RefusalLemmas.{own-text, pattern-error}
use Rattle.grep_regex.specs.Patterns.{config_of}
use Rattle.grep_regex.specs.Refusals.{IsTextError}
use Rattle.regex_syntax.specs.Verdict.{Refuses}
use Rattle.std.proofs.Common.{subst, sym}
use Rattle.grep_regex.proofs.parse.read.Goals as goal

pub returns-in-Err-clause-error : goal.returns-in-Err-clause-error
returns-in-Err-clause-error c =
    let o = c.args.options.now in
    let p = c.args.pattern.now in
    subst (λ text. IsTextError (config_of o) c.args.index text p c.of_parser.result)
    (sym (own-text o p c.if-options.false))
    (pattern-error (config_of o) c.args.index p c.in-Err.error c.of_parser.result
    (subst (λ config. Refuses config p c.in-Err.error.kind) c.config_of-config.ensures c.in-Err.ensures.err)
    c.in-Err.ensures.span c.of_parser.ensures)
