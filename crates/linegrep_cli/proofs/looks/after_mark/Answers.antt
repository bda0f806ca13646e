use Rattle.std.proofs.Common.{◌∙◌, None, Some, ap, arith, sym}
use Rattle.std.proofs.lemmas.Str.Pattern.{strip_prefix_char}
use Rattle.linegrep_cli.specs.ColorLooks.{after_mark}
use Rattle.linegrep_cli.proofs.DigitLemmas.{mark-both, mark-first}
use Rattle.linegrep_cli.proofs.looks.after_mark.Goals as goal

pub returns-in-Some : goal.returns-in-Some
returns-in-Some c =
    let text = c.args.text.now in
    let rest = c.in-Some.rest.now in
    let first = strip_prefix_char 48 text (Some c.in-Some.rest) c.in-Some.ensures.cases (omega arith) in
    mark-both rest c.strip_prefix-in-Some.result (strip_prefix_char 120 rest c.strip_prefix-in-Some.result
    c.strip_prefix-in-Some.ensures.cases (omega arith)) ∙ ap after_mark (sym first)

pub returns-in-None : goal.returns-in-None
returns-in-None c = sym (mark-first c.args.text.now
    (strip_prefix_char 48 c.args.text.now None c.in-None.ensures.cases (omega arith)))
