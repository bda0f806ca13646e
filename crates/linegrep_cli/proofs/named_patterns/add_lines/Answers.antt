use Rattle.std.proofs.Common.{◌∙◌, ◌++◌, ap, map, string_bytes}
use Rattle.std.proofs.lemmas.Iterator.Consumers.{YieldsList-end}
use Rattle.std.proofs.lemmas.Iterator.Splits.{YieldsList-from_lines}
use Rattle.linegrep_cli.proofs.named_patterns.add_lines.Goals as goal

pub returns-clause-added : goal.returns-clause-added
returns-clause-added c =
    let all = YieldsList-end (YieldsList-from_lines c.args.text.now (cc)) c.loop-line.yielded _
    c.loop-line.yielded_by _ _ c.in-None.is c.next.ensures.steps in
    c.loop-line.invariant ∙ ap (λ l. map string_bytes c.args.texts.now.items ++ l) all.0
