use Rattle.std.proofs.Common.{map, string_bytes}
use Rattle.linegrep_cli.proofs.PatternLemmas.{named-more, unnamed-at}
use Rattle.linegrep_cli.proofs.named_patterns.read_named.Goals as goal

pub returns-in-Err-clause-refused : goal.returns-in-Err-clause-refused
returns-in-Err-clause-refused g c = λ caused. unnamed-at g.R.Source.remaining g.R.Source.step
    (g.S.Folders.facts c.args.system.now).reads c.args.uses.now c.loop-one.one-index _ c.args.input.now
    c.loop-one.input _ (map string_bytes c.loop-one.patterns.items) c.loop-one-test.true c.loop-one.invariant
    (c.in-Err.ensures.refused caused)

pub loop-one-preserved : goal.loop-one-preserved
loop-one-preserved g c =
    let (own, named, split) = c.in-Ok.ensures.added in
    named-more g.R.Source.remaining g.R.Source.step (g.S.Folders.facts c.args.system.now).reads c.args.uses.now
    c.loop-one.one-index _ c.args.input.now c.loop-one.input _ (map string_bytes c.loop-one.patterns.items) own _
    c.loop-one-test.true c.loop-one.invariant named split
