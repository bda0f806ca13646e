use Rattle.std.proofs.Common.{arith}
use Rattle.grep_walk.proofs.AcrossUnitLemmas as units
use Rattle.grep_walk.proofs.config.Config.unit_at.Goals as goal

pub returns-clause-ready : goal.returns-clause-ready
returns-clause-ready g c = units.ready-found c.args.self.now
    (g.M.Matcher.facts c.args.matcher.now).meaning c.args.bytes.now
    c.args.start c.args.walk.now c.args.blocks.now c.next_unit.new.blocks c.next_unit.result
    c.requires.some c.requires.at (λ goes. omega (arith, c.requires.ready.before goes))
    c.next_unit.ensures.unit c.next_unit.ensures.end c.next_unit.ensures.left
