use Rattle.std.proofs.Common.{ap, sym, ◌∙◌, arith}
use Rattle.std.proofs.lemmas.Result.{err_from_is_err_and}
use Rattle.grep_searcher.proofs.ReaderSearchLemmas.{read-across, read-by_line}
use Rattle.grep_searcher.proofs.StreamSearchLemmas.{stream-finished}
use Rattle.grep_definitions.proofs.CallOrderLemmas.{order-finished}
use Rattle.grep_searcher.proofs.search.Search.search_reader.Goals as goal

pub returns-then-is_across-clause-searched : goal.returns-then-is_across-clause-searched
returns-then-is_across-clause-searched g c = λ lawful has_buffers.
    let mode = (sym c.is_across.ensures ∙ c.if-is_across.true) in
    read-across _ _ _ _ _ _ _ _ _ _ _ mode (c.search_contents.ensures.searched mode has_buffers)

pub returns-then-is_across-clause-succeeds : goal.returns-then-is_across-clause-succeeds
returns-then-is_across-clause-succeeds g c = λ never infallible lawful.
    let mode = (sym c.is_across.ensures ∙ c.if-is_across.true) in
    c.search_contents.ensures.succeeds never infallible mode

pub returns-clause-searched : goal.returns-clause-searched
returns-clause-searched g c = λ lawful has_buffers.
    let mode = (sym c.is_across.ensures ∙ c.if-is_across.false) in
    read-by_line _ _ _ _ _ _ _ _ _ _
    _ mode (stream-finished _ _ (g.M.Matcher.facts c.args.matcher.now) _ _ _ _ mode _ _ _ _ _ _
    c.in_ok-finish.ensures.begun (c.in_ok-finish.ensures.counted lawful)
    (rw (ap (λ s. s.searcher.now.settings) c.self.view_is ∙ c.args.self.now.same) at c.finish.ensures.step))

pub returns-in_err-finish-clause-searched : goal.returns-in_err-finish-clause-searched
returns-in_err-finish-clause-searched g c = λ lawful has_buffers.
    let mode = (sym c.is_across.ensures ∙ c.if-is_across.false) in
    let error = err_from_is_err_and c.from_residual.result c.from_residual.ensures.1 in
    read-by_line _ _ _ _ _ _ _ _ _ _
    _ mode (rw (error.1, error.2) (c.in_err-finish.ensures.fault lawful has_buffers))

pub returns-then-is_across-clause-in_order : goal.returns-then-is_across-clause-in_order
returns-then-is_across-clause-in_order g c =
    c.search_contents.ensures.in_order

pub returns-clause-in_order : goal.returns-clause-in_order
returns-clause-in_order g c =
    order-finished _ _ _ _ _ (omega arith) _ _ _ _ _
    _ c.in_ok-finish.ensures.noted c.in_ok-finish.ensures.in_order
    (rw (ap (λ s. s.searcher.now.settings) c.self.view_is ∙ c.args.self.now.same) at c.finish.ensures.step)

pub returns-in_err-finish-clause-succeeds : goal.returns-in_err-finish-clause-succeeds
returns-in_err-finish-clause-succeeds g c =
    let error = err_from_is_err_and c.from_residual.result c.from_residual.ensures.1 in
    rw (error.1, error.2) c.in_err-finish.ensures.succeeds
