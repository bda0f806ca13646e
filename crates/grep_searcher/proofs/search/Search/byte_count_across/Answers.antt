use Rattle.std.proofs.Common.{rules, ◌≡◌, false, true}
use Rattle.std.proofs.lemmas.Result.{err_from_is_err_and}
use Rattle.grep_definitions.specs.Plans.{stopped, counted}
use Rattle.grep_walk.proofs.AcrossEndLemmas as ends
use Rattle.grep_definitions.proofs.CallOrderLemmas as order
use Rattle.grep_searcher.proofs.search.Search.byte_count_across.Goals as goal

pub returns-in_err-begin-clause-fault : goal.returns-in_err-begin-clause-fault
returns-in_err-begin-clause-fault g c =
    let p = err_from_is_err_and c.from_residual.result c.from_residual.ensures.1 in
    rw (p.1, p.2) (ends.fault-begin _ _ _ _ _ _ _ _
    (rw c.args.self.now.same at c.in_err-begin.ensures.step))

pub returns-then-not-branch-clause-reported : goal.returns-then-not-branch-clause-reported
returns-then-not-branch-clause-reported g c =
    let unbegun : c.in_ok-begin.field-0 ≡ false = search rules in (
      stopped (counted 0),
      ends.counted-unbegun _ (g.M.Matcher.facts c.args.matcher.now).meaning _ _
          _ _ (rw (c.args.self.now.same, unbegun) at c.in_ok-begin.ensures.step),
    )

pub returns-in_err-begin-clause-in_order : goal.returns-in_err-begin-clause-in_order
returns-in_err-begin-clause-in_order g c =
    let p = err_from_is_err_and c.from_residual.result c.from_residual.ensures.1 in
    rw (p.1, p.2) (order.failed-begin _ _ _ _ _ _ _
    (rw c.args.self.now.same at c.in_err-begin.ensures.step))

pub returns-then-not-branch-clause-in_order : goal.returns-then-not-branch-clause-in_order
returns-then-not-branch-clause-in_order g c =
    order.begun-to-0 _ _ _ _ _ (rw c.args.self.now.same at c.in_ok-begin.ensures.step)

pub returns-clause-in_order : goal.returns-clause-in_order
returns-clause-in_order g c =
    let goes : c.in_ok-begin.field-0 ≡ true = search rules in
    order.order-begun _ _ _ _ _ _ _ _
    (rw (c.args.self.now.same, goes) at c.in_ok-begin.ensures.step) c.byte_count_of_units.ensures.in_order
