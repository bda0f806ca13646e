use Rattle.std.proofs.Common.{Err, arith, ◌∙◌, refl, sym, subst}
use Rattle.std.proofs.lemmas.Bool.{false≢true}
use Rattle.std.proofs.lemmas.Result.{err_from_is_err_and}
use Rattle.grep_definitions.specs.Searches.{nowhere}
use Rattle.grep_definitions.specs.SliceSearches.{IsContentsSearch}
use Rattle.grep_definitions.proofs.SearchModeLemmas.{look-detects, quit-is}
use Rattle.grep_searcher.proofs.QuittingLemmas.{fault-until, until-finished}
use Rattle.grep_searcher.proofs.search.Search.search_quitting.Given.{Over}
use Rattle.grep_searcher.specs.QuittingSinks.{Quits, count_to}
use Rattle.grep_searcher.proofs.OrderLemmas as passed
use Rattle.grep_definitions.proofs.CallOrderLemmas as order
use Rattle.grep_report.specs.ErrorMakers.{makers_of, ErrorMakers}
use Rattle.grep_searcher.proofs.search.Search.search_quitting.Goals as goal

abbrev errors-of : (g : Over) → ErrorMakers g.row.M-Error.Denot g.row.S-Error.Denot
errors-of g = makers_of g.M.Error.Display.output g.S.Error.SinkError.makers

pub returns-in_err-count-clause-searched : goal.returns-in_err-count-clause-searched
returns-in_err-count-clause-searched g c = λ lawful.
    let error = err_from_is_err_and c.from_residual.result c.from_residual.ensures.1 in
    rw error.1 (fault-until _ g.S.Sink.may_call _ _ _
    _ (quit-is _ _ c.requires.detecting) _ c.requires.none _ refl c.requires.has_break
    c.requires.found _
    (subst (λ e. IsContentsSearch (Quits g.S.Sink.step g.S.Sink.may_call) (errors-of g)
    (g.M.Matcher.facts c.args.matcher.now) c.args.self.now.config nowhere c.args.is_across
    c.args.bytes.now c.args.sink.now (Err e) c.byte_count_of.new.sink) (sym error.2)
    (c.in_err-count.ensures.fault lawful)))

pub returns-in_err-count-clause-same_sink : goal.returns-in_err-count-clause-same_sink
returns-in_err-count-clause-same_sink g c =
    order.begun-keeps _ _ _ _
    (λ quitting. quitting.sink.ghost_name) (λ old call result new step. step.0) _ _
    _ c.byte_count_of.ensures.in_order

pub returns-clause-searched : goal.returns-clause-searched
returns-clause-searched g c = λ lawful.
    let counted = c.in_ok-count.ensures.reported lawful in
    until-finished g.S.Sink.step g.S.Sink.may_call (errors-of g)
    (g.M.Matcher.facts c.args.matcher.now) _
    _ (quit-is _ _ c.requires.detecting) _ c.requires.none _ refl c.requires.has_break
    c.requires.found _ _ c.finish.new.self counted.1
    (rw (c.args.self.now.same, c.new.ensures) at c.finish.ensures.step)

pub returns-clause-same_sink : goal.returns-clause-same_sink
returns-clause-same_sink g c =
    (rw c.args.self.now.same at c.finish.ensures.step).0 ∙ (order.begun-keeps _ _ _ _
    (λ quitting. quitting.sink.ghost_name) (λ old call result new step. step.0) _ _
    _ c.byte_count_of.ensures.in_order)

pub returns-in_err-count-clause-in_order : goal.returns-in_err-count-clause-in_order
returns-in_err-count-clause-in_order g c =
    let error = err_from_is_err_and c.from_residual.result c.from_residual.ensures.1 in
    let step = g.S.Sink.step in
    let may_call = g.S.Sink.may_call in
    let k = c.args.self.now.config in
    rw (error.1, error.2) (order.order-failed _ k _ _ _ (omega arith) _ _ _
    (order.passed-begun-failed _ _ k (λ q. q.sink.now)
    (passed.FoundNone step k may_call (look-detects _ _ c.requires.detecting))
    (λ q n. count_to q.found n)
    (passed.quits-one step k may_call (look-detects _ _ c.requires.detecting)) _ _
    (passed.quits-begun step k may_call (look-detects _ _ c.requires.detecting))
    (passed.quits-held step k may_call (look-detects _ _ c.requires.detecting)) _ _
    _ c.requires.found c.in_err-count.ensures.in_order))

pub returns-clause-in_order : goal.returns-clause-in_order
returns-clause-in_order g c =
    let step = g.S.Sink.step in
    let may_call = g.S.Sink.may_call in
    let k = c.args.self.now.config in
    let finish = rw (c.args.self.now.same, c.new.ensures) at c.finish.ensures.step in
    order.order-finished _ k _ _ _ (omega arith) _ _ _ c.byte_count_of.new.sink.found _ _
    (λ none. absurd (false≢true (sym none ∙ look-detects _ _ c.requires.detecting)))
    (order.passed-begun-to _ _ k (λ q. q.sink.now)
    (passed.FoundNone step k may_call (look-detects _ _ c.requires.detecting))
    (λ q n. count_to q.found n)
    (passed.quits-one step k may_call (look-detects _ _ c.requires.detecting)) (errors-of g)
    (g.M.Matcher.facts c.args.matcher.now)
    (passed.quits-begun step k may_call (look-detects _ _ c.requires.detecting))
    (passed.quits-held step k may_call (look-detects _ _ c.requires.detecting)) _
    _ _ c.requires.found c.in_ok-count.ensures.in_order) finish.2.2
