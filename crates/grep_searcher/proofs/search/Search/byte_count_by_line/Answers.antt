use Rattle.std.proofs.Common.{rules, ◌≡◌, ◌∙◌, [], arith, sym, true, false}
use Rattle.std.proofs.lemmas.Result.{err_from_is_err_and}
use Rattle.grep_definitions.specs.Plans.{all_true, stopped, counted}
use Rattle.grep_walk.proofs.WalkLemmas as walks
use Rattle.grep_walk.proofs.WindowLemmas.{own-window}
use Rattle.grep_walk.proofs.WindowSearchLemmas as search
use Rattle.grep_definitions.proofs.CallOrderLemmas as order
use Rattle.grep_walk.specs.Origins.{fresh}
use Rattle.grep_report.specs.ErrorMakers.{makers_of}
use Rattle.grep_searcher.proofs.search.Search.byte_count_by_line.Goals as goal

pub returns-in_err-begin-clause-fault : goal.returns-in_err-begin-clause-fault
returns-in_err-begin-clause-fault g c =
    let p = err_from_is_err_and c.from_residual.result c.from_residual.ensures.1 in
    rw (p.1, p.2) (λ lawful. walks.fault-begin _ _ _ _ _ _ _ _
    (rw c.args.self.now.same at c.in_err-begin.ensures.step))

pub returns-then-not-branch-clause-reported : goal.returns-then-not-branch-clause-reported
returns-then-not-branch-clause-reported g c = λ lawful.
    let unbegun : c.in_ok-begin.field-0 ≡ false = search rules in (
      stopped (counted 0),
      walks.counted-fresh _ _ _ _ _ _ _
          (walks.counted-unbegun _ (g.M.Matcher.facts c.args.matcher.now).meaning _
          _ _ _ (rw (c.args.self.now.same, unbegun) at c.in_ok-begin.ensures.step)),
    )

pub returns-then-reports_nothing-clause-reported : goal.returns-then-reports_nothing-clause-reported
returns-then-reports_nothing-clause-reported g c = λ lawful.
    let idle = c.reports_nothing.ensures in
    let goes : c.in_ok-begin.field-0 ≡ true = search rules in (
      all_true,
      walks.counted-fresh _ _ _ _ _ _ _
          (walks.counted-idle _ (g.M.Matcher.facts c.args.matcher.now).meaning _
          _ _ _ (sym idle ∙ c.if-reports_nothing.true)
          (walks.reported-begin _ (g.M.Matcher.facts c.args.matcher.now).meaning c.args.bytes.now
          _ _ _ (rw (c.args.self.now.same, goes) at c.in_ok-begin.ensures.step))),
    )

pub returns-in_err-search_window-clause-fault : goal.returns-in_err-search_window-clause-fault
returns-in_err-search_window-clause-fault g c =
    let p = err_from_is_err_and c.from_residual-in_err-search_window.result
    c.from_residual-in_err-search_window.ensures.1 in
    let idle = c.reports_nothing.ensures in
    let goes : c.in_ok-begin.field-0 ≡ true = search rules in
    let begun = rw (c.args.self.now.same, goes) at c.in_ok-begin.ensures.step in
    rw (p.1, p.2) (λ lawful. walks.fault-by_line _ _ _ _ _ _ _ _
    (c.in_err-search_window.ensures.fault lawful [] c.args.bytes.now (fresh c.args.sink.now)
    (search.searched-start _ _ _ _ _ _ _ (own-window _ _)
    (sym idle ∙ c.if-reports_nothing.false) begun)))

pub returns-clause-reported : goal.returns-clause-reported
returns-clause-reported g c = λ lawful.
    let idle = c.reports_nothing.ensures in
    let goes : c.in_ok-begin.field-0 ≡ true = search rules in
    let begun = rw (c.args.self.now.same, goes) at c.in_ok-begin.ensures.step in
    let start = search.searched-start _ _ _
    _ _ _ _ (own-window _ _) (sym idle ∙ c.if-reports_nothing.false) begun in
    let counted = search.counted-either g.S.Sink.step
    (makers_of g.M.Error.Display.output g.S.Error.SinkError.makers)
    (g.M.Matcher.facts c.args.matcher.now) _ [] _ _ _ _ _ _
    (λ on. c.in_ok-search_window.ensures.goes_on lawful on [] c.args.bytes.now
    (fresh c.args.sink.now) start) (λ off.
    let ends = c.in_ok-search_window.ensures.ends lawful off in
    (ends.0, ends.1 [] c.args.bytes.now (fresh c.args.sink.now) start)) (omega arith) in (
      counted.0,
      walks.counted-fresh _ _ _ _ _ _ _ counted.1,
    )

pub returns-in_err-begin-clause-in_order : goal.returns-in_err-begin-clause-in_order
returns-in_err-begin-clause-in_order g c =
    let p = err_from_is_err_and c.from_residual.result c.from_residual.ensures.1 in
    rw (p.1, p.2) (order.failed-begin _ _ _ _ _ _ _
    (rw c.args.self.now.same at c.in_err-begin.ensures.step))

pub returns-then-not-branch-clause-in_order : goal.returns-then-not-branch-clause-in_order
returns-then-not-branch-clause-in_order g c =
    order.begun-to-0 _ _ _ _ _ (rw c.args.self.now.same at c.in_ok-begin.ensures.step)

pub returns-then-reports_nothing-clause-in_order : goal.returns-then-reports_nothing-clause-in_order
returns-then-reports_nothing-clause-in_order g c =
    order.begun-to-0 _ _ _ _ _ (rw c.args.self.now.same at c.in_ok-begin.ensures.step)

pub returns-in_err-search_window-clause-in_order : goal.returns-in_err-search_window-clause-in_order
returns-in_err-search_window-clause-in_order g c =
    let p = err_from_is_err_and c.from_residual-in_err-search_window.result
    c.from_residual-in_err-search_window.ensures.1 in
    let goes : c.in_ok-begin.field-0 ≡ true = search rules in
    rw (p.1, p.2) (order.failed-begun _ _ _ _ _ _ _ _
    (rw (c.args.self.now.same, goes) at c.in_ok-begin.ensures.step) c.in_err-search_window.ensures.in_order)

pub returns-clause-in_order : goal.returns-clause-in_order
returns-clause-in_order g c =
    let goes : c.in_ok-begin.field-0 ≡ true = search rules in
    order.begun-to _ _ _ _ _ _
    (rw (c.args.self.now.same, goes) at c.in_ok-begin.ensures.step) (order.called-to _ _
    (makers_of g.M.Error.Display.output g.S.Error.SinkError.makers)
    (g.M.Matcher.facts c.args.matcher.now)
    _ _ c.in_ok-search_window.field-0 _ c.in_ok-search_window.ensures.in_order)
