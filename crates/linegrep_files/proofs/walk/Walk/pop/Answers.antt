use Rattle.std.proofs.Common.{refl, rules}
use Rattle.linegrep_files.specs.Walks.{of_end, of_memory, of_pending}
use Rattle.linegrep_files.proofs.walk.Walk.pop.Goals as goal

pub returns-then-self : goal.returns-then-self
returns-then-self g c = of_memory c.if-self.true

pub returns-in-Some : goal.returns-in-Some
returns-in-Some g c = of_pending c.in-Some.entry c.if-self.false (search rules)
    (record { finder = refl }) c.if-self.false

pub returns-in-None : goal.returns-in-None
returns-in-None g c = of_end c.if-self.false (search rules) c.if-self.false
