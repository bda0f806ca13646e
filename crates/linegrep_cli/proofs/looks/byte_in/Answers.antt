use Rattle.std.proofs.Common.{◌∙◌}
use Rattle.linegrep_cli.proofs.DigitLemmas.{parsed}
use Rattle.linegrep_cli.proofs.looks.byte_in.Goals as goal

pub returns : goal.returns
returns c = c.ok.ensures.value ∙ parsed c.args.radix c.args.text.now c.from_str_radix.result
    c.from_str_radix.ensures.value
