use Rattle.linegrep_cli.specs.WaitingFiles.{AreRanked}
use Rattle.linegrep_cli.proofs.late.rank_all.Given as goal

abbrev pub invariant-loop-waiting : goal.invariant-loop-waiting
invariant-loop-waiting g l = AreRanked (g.S.Folders.facts l.system).times l.order l.yielded l.ranked.items
