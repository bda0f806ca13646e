use Rattle.std.proofs.Common.{◌++◌, ◌∷◌, [], refl, subst, sym}
use Rattle.linegrep_cli.specs.WaitingFiles.{AreRanked, next_ranked, none_ranked}
use Rattle.linegrep_cli.proofs.late.rank_all.Goals as goal

pub loop-waiting-init : goal.loop-waiting-init
loop-waiting-init g c =
    subst (AreRanked (g.S.Folders.facts c.args.system.now).times c.args.order []) (sym c.new-ranked.ensures.items)
    none_ranked

pub loop-waiting-preserved : goal.loop-waiting-preserved
loop-waiting-preserved g c =
    subst (AreRanked (g.S.Folders.facts c.args.system.now).times c.args.order
    (c.loop-waiting.yielded ++ c.in-Some.waiting ∷ [])) (sym c.in_ok-push.ensures.items)
    (next_ranked c.in-Some.waiting _ c.loop-waiting.invariant refl c.rank.ensures)
