use Rattle.std.proofs.Common.{◌∙◌, sym, arith}
use Rattle.grep_walk.specs.Walks.{with_counts}
use Rattle.grep_walk.proofs.UncountedLemmas.{near-same}
use Rattle.grep_walk.proofs.WindowLemmas.{gone-closed, rolled, rest-few}
use Rattle.grep_walk.proofs.config.Config.first_kept.Goals as goal

pub returns-clause-few : goal.returns-clause-few
returns-clause-few c =
    let back = c.step_back.ensures in
    let few = rest-few c.args.window.now c.step_back.result c.lines_before-near.result back.within
    back.closed back.start in
    omega arith

pub returns-clause-closed : goal.returns-clause-closed
returns-clause-closed c = λ gone opens closed.
    let back = c.step_back.ensures in
    gone-closed c.args.self.now gone c.args.window.now c.step_back.result c.lines_before-near.result
    back.within back.closed opens closed

pub returns-clause-kept : goal.returns-clause-kept
returns-clause-kept c = λ gone more after opens closed closes line next_unreported counts inside.
    let back = c.step_back.ensures in
    rolled c.args.self.now gone c.args.window.now c.step_back.result c.lines_before-near.result
    back.within back.closed
    opens closed more after (with_counts c.args.walk.now line next_unreported)
    (c.lines_before-near.ensures
    ∙ sym (near-same c.args.self.now c.args.walk.now line next_unreported counts)) closes
    back.start inside
