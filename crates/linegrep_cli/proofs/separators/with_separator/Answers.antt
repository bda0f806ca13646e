use Rattle.std.proofs.Common.{rules, tests}
use Rattle.std.proofs.lemmas.Iterator.{YieldsList-from_chars, YieldsList-from_map, text_from_collect}
use Rattle.linegrep_cli.proofs.separators.with_separator.Goals as goal

pub returns : goal.returns
returns c = text_from_collect _ c.collect.ensures.ran (YieldsList-from_map _ _
    (YieldsList-from_chars c.args.path.now (search rules) cc) c.map.ensures.closure
    (λ x r q k. search (rules, tests)))
