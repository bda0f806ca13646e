use Rattle.std.proofs.Common.{arith, ◌∙◌, sym, refl, Err, None}
use Rattle.std.proofs.lemmas.Result.{err_from_is_err_and}
use Rattle.grep_walk.proofs.FinishLemmas.{searched-finish}
use Rattle.grep_definitions.proofs.ContentsSearchLemmas.{search-at}
use Rattle.grep_definitions.proofs.SearchModeLemmas.{look-plain, look-quit}
use Rattle.grep_searcher.proofs.search.Search.search_bytes.Given.{Over}
use Rattle.grep_definitions.proofs.CallOrderLemmas as order
use Rattle.grep_report.specs.ErrorMakers.{makers_of, ErrorMakers}
use Rattle.grep_searcher.proofs.search.Search.search_bytes.Goals as goal

abbrev errors-of : (g : Over) → ErrorMakers g.row.M-Error.Denot g.row.S-Error.Denot
errors-of g = makers_of g.M.Error.Display.output g.S.Error.SinkError.makers

pub returns-in-Some-clause-searched : goal.returns-in-Some-clause-searched
returns-in-Some-clause-searched g c = λ lawful.
    search-at g.S.Sink.step (errors-of g) (g.M.Matcher.facts c.args.matcher.now)
    c.args.self.now.config c.args.bytes.now
    c.args.sink.now (look-quit _ _ (sym c.quit_byte.ensures ∙ c.in-Some.is))
    (sym c.is_across-is_across.ensures)
    _ c.search_until.new.sink (c.search_until.ensures.searched (λ _. lawful))

pub returns-clause-searched : goal.returns-clause-searched
returns-clause-searched g c = λ lawful.
    let reported = c.in_ok-count.ensures.reported (λ _. lawful) in
    search-at g.S.Sink.step (errors-of g) (g.M.Matcher.facts c.args.matcher.now)
    c.args.self.now.config c.args.bytes.now
    c.args.sink.now (look-plain _ (λ b is. c.in_default.not-Some b (c.quit_byte.ensures ∙ is)))
    (sym c.is_across-is_across.ensures) _ _
    (searched-finish _ (errors-of g) (g.M.Matcher.facts c.args.matcher.now) _ c.args.bytes.now _
    _ _ _ _ _ reported.1 (rw (c.args.self.now.same, c.new.ensures) at c.finish.ensures.step))

pub search_until-requires-clause-detecting : goal.search_until-requires-clause-detecting
search_until-requires-clause-detecting g c =
    sym c.quit_byte.ensures ∙ c.in-Some.is

pub returns-in_err-count-clause-in_order : goal.returns-in_err-count-clause-in_order
returns-in_err-count-clause-in_order g c =
    let p = err_from_is_err_and c.from_residual.result c.from_residual.ensures.1 in
    rw (p.1, p.2) (order.order-failed _ _ _ _ _ (omega arith) _ _ _ c.in_err-count.ensures.in_order)

pub returns-clause-in_order : goal.returns-clause-in_order
returns-clause-in_order g c =
    order.order-finished _ _ _ _ _ (omega arith) _ _ _ None _ _ (λ none. refl)
    c.in_ok-count.ensures.in_order
    (rw (c.args.self.now.same, c.new.ensures) at c.finish.ensures.step)

pub returns-in-Some-clause-in_order : goal.returns-in-Some-clause-in_order
returns-in-Some-clause-in_order g c =
    c.search_until.ensures.in_order

pub returns-in_err-count-clause-searched : goal.returns-in_err-count-clause-searched
returns-in_err-count-clause-searched g c = λ lawful.
    let p = err_from_is_err_and c.from_residual.result c.from_residual.ensures.1 in
    rw (p.1, p.2) (search-at g.S.Sink.step (errors-of g) (g.M.Matcher.facts c.args.matcher.now)
    c.args.self.now.config c.args.bytes.now
    c.args.sink.now (look-plain _ (λ b is. c.in_default.not-Some b (c.quit_byte.ensures ∙ is)))
    (sym c.is_across-is_across.ensures) (Err c.in_err-count.field-0.0) c.byte_count_of.new.sink
    (c.in_err-count.ensures.fault (λ _. lawful)))
