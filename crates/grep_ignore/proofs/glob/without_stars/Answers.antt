use Rattle.std.proofs.Common.{◌≡◌, true, suc, rules, ◌∙◌, ap, sym, replicate, ◌++◌}
use Rattle.grep_ignore.specs.Classes.{begins_with}
use Rattle.grep_ignore.proofs.GlobLemmas.{stars-more}
use Rattle.grep_ignore.proofs.glob.without_stars.Goals as goal

pub loop-rest-preserved : goal.loop-rest-preserved
loop-rest-preserved c =
    let begins : begins_with 42 c.loop-rest.rest.now ≡ true = search rules in (
      suc c.loop-rest.invariant.0,
      stars-more c.loop-rest.invariant.0 c.args.glob.now c.loop-rest.rest.now c.loop-rest.invariant.1 begins
          ∙ ap (λ l. replicate (suc c.loop-rest.invariant.0) 42 ++ l) (sym c.tail-rest.ensures),
    )
