use Rattle.std.proofs.Common.{◌∙◌, sym}
use Rattle.lgrep_cli.proofs.NumeralLemmas.{number-parsed}
use Rattle.lgrep_cli.proofs.options.number.Goals as goal

pub returns-then-is_numeral : goal.returns-then-is_numeral
returns-then-is_numeral c = c.ok.ensures.value ∙ number-parsed c.args.text.now c.parse.result (sym c.is_numeral.ensures
    ∙ c.if-is_numeral.true) c.parse.ensures.value.0
