use Rattle.std.proofs.Common.{◌∙◌}
use Rattle.linegrep_options.proofs.NumberLemmas.{parsed-number}
use Rattle.linegrep_options.proofs.command_line.number.Goals as goal

pub returns : goal.returns
returns c = c.ok.ensures.value ∙ parsed-number c.args.text.now c.parse.result c.parse.ensures.value.0
