use Rattle.std.proofs.Common.{arith}
use Rattle.grep_regex.proofs.WrittenLemmas.{alike-only}
use Rattle.grep_regex.proofs.parse.choice_of.Goals as goal

pub returns-in-Some : goal.returns-in-Some
returns-in-Some c = alike-only c.pop.new.self.items c.in-Some.hir c.args.hirs.items c.in-Some.ensures.items
    (omega (arith, c.args.hirs.ok.0, c.len.ensures, c.if-len-ne1.false))
