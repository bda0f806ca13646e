use Rattle.std.proofs.Common.{◌∙◌}
use Rattle.grep_regex.proofs.RefusalLemmas.{literal-error}
use Rattle.grep_regex.proofs.parse.read_literal.Goals as goal

pub returns-clause-error : goal.returns-clause-error
returns-clause-error c =
    literal-error c.args.config.now c.args.index c.args.literal.now c.as_str.result.now c.in-Err.error.kind
    c.of_parser.result c.utf8.literal (c.as_str.ensures.value ∙ c.in_ok-text.ensures.value) c.in-Err.ensures.err
    c.of_parser.ensures
