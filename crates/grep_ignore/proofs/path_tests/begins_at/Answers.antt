use Rattle.std.proofs.Common.{refl}
use Rattle.std.proofs.lemmas.Bool.{ne_eqb}
use Rattle.grep_ignore.proofs.path_tests.begins_at.Goals as goal

pub returns-then-start-eq0 : goal.returns-then-start-eq0
returns-then-start-eq0 c = rw c.if-start-eq0.true refl

pub returns-else-start-eq0 : goal.returns-else-start-eq0
returns-else-start-eq0 c = rw (ne_eqb c.args.start 0 c.if-start-eq0.false) refl
