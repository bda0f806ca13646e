use Rattle.std.proofs.Common.{arith, Bool, true, false, [], ◌≡◌, None, length, ◌∙◌, subst, sym}
use Rattle.std.proofs.Common.{refl, inl, inr, ap, Err}
use Rattle.std.proofs.lemmas.Bool.{true≢false}
use Rattle.std.proofs.lemmas.Result.{err_from_is_err_and}
use Rattle.std.specs.Prelude.{vec_capacity}
use Rattle.grep_line_buffer.specs.Contents.{FailsAfter, IsBelow, ContentsFail}
use Rattle.grep_line_buffer.specs.Fills.{IfRead}
use Rattle.grep_searcher.proofs.ReaderSearchLemmas as whole
use Rattle.grep_definitions.proofs.ContentsSearchLemmas.{search-at}
use Rattle.grep_definitions.specs.Plans.{is_across}
use Rattle.grep_walk.proofs.FinishLemmas.{searched-finish}
use Rattle.grep_definitions.proofs.PlannedReaderLemmas.{contents-cut}
use Rattle.grep_definitions.proofs.SearchModeLemmas.{look-plain, look-quit}
use Rattle.grep_searcher.proofs.search.Search.search_contents.Given.{Over}
use Rattle.grep_report.specs.ErrorMakers.{makers_of, ErrorMakers}
use Rattle.grep_definitions.specs.Searches.{read_in_order, IsUnread}
use Rattle.grep_definitions.proofs.CallOrderLemmas as order
use Rattle.grep_searcher.proofs.OrderLemmas.{failed-read, reading-error}
use Rattle.grep_searcher.proofs.search.Search.search_contents.Goals as goal
use Rattle.grep_searcher.proofs.search.Search.search_contents.Goals.{After-error_io, After-quit_byte}

-- why not all was read
unread : (g : Over) (c : goal.After-error_io g) (has_buffers : Bool)
    → is_across c.args.self.now.config (g.M.Matcher.facts c.args.matcher.now).meaning ≡ true
    → IsUnread g.R.Source.remaining g.R.Source.step
    (record { settings = c.args.self.now.config; has_buffers = has_buffers })
    (g.M.Matcher.facts c.args.matcher.now).meaning c.args.reader.now false [] c.io_error.result
    c.read_contents.new.reader
unread g c has_buffers across =
    let failed = c.in-Err.ensures in
    whole.unread-read _ _ _ _ _ _ _ across _ _ _ c.requires.started _ c.io_error.ensures _
    (subst (λ limit. ContentsFail limit (vec_capacity c.args.contents.now)
    c.read_contents.new.contents.items c.in-Err.error) c.heap_limit.ensures failed.error)
    failed.reads failed.read failed.empty failed.waits

pub returns-in-Err-clause-searched : goal.returns-in-Err-clause-searched
returns-in-Err-clause-searched g c = λ across has_buffers.
    inr (contents-cut _ _ _ _ _ _ _ across c.io_error.result _ (unread g c has_buffers across)
    c.error_io.ensures)

pub returns-in-Err-clause-succeeds : goal.returns-in-Err-clause-succeeds
returns-in-Err-clause-succeeds g c = λ never infallible across has_buffers.
    (false, [], c.io_error.result, unread g c _ across, c.error_io.ensures)

-- there are fewer bytes than the heap limit has
below : (g : Over) (c : goal.After-quit_byte g)
    → IsBelow c.args.self.now.config.heap_limit (length c.read_contents.new.contents.items)
below g c = subst (λ limit. IsBelow limit (length c.read_contents.new.contents.items))
    c.heap_limit.ensures c.in_default.ensures.below

abbrev errors-of : (g : Over) → ErrorMakers g.row.M-Error.Denot g.row.S-Error.Denot
errors-of g = makers_of g.M.Error.Display.output g.S.Error.SinkError.makers

pub returns-in-Some-clause-searched : goal.returns-in-Some-clause-searched
returns-in-Some-clause-searched g c = λ across has_buffers.
    let searched = rw c.deref.ensures.value at
    (c.search_until.ensures.searched (λ never. absurd (true≢false never))) in
    let facts = g.M.Matcher.facts c.args.matcher.now in
    let given = c.read_contents.new.contents.items in
    whole.contents-read-all c.args.self.now.config c.requires.started
    c.in_default.ensures.reads c.in_default.ensures.done
    (below g (goal.at.returns-in-Some-clause-searched g c).After-quit_byte) g.S.Sink.step
    (errors-of g) facts has_buffers
    c.args.sink.now across c.search_until.result c.search_until.new.sink
    (search-at g.S.Sink.step (errors-of g) facts c.args.self.now.config given c.args.sink.now
    (look-quit _ _ (sym c.quit_byte.ensures ∙ c.in-Some.is)) across c.search_until.result
    c.search_until.new.sink searched)

pub returns-in_err-count-clause-searched : goal.returns-in_err-count-clause-searched
returns-in_err-count-clause-searched g c = λ across has_buffers.
    let error = err_from_is_err_and c.from_residual.result c.from_residual.ensures.1 in
    let facts = g.M.Matcher.facts c.args.matcher.now in
    let given = c.read_contents.new.contents.items in
    rw (error.1, error.2) (whole.contents-read-all c.args.self.now.config c.requires.started
    c.in_default.ensures.reads c.in_default.ensures.done
    (below g (goal.at.returns-in_err-count-clause-searched g c).After-quit_byte) g.S.Sink.step
    (errors-of g) facts
    has_buffers c.args.sink.now across (Err c.in_err-count.field-0.0) c.byte_count_across.new.sink
    (search-at g.S.Sink.step (errors-of g) facts c.args.self.now.config given c.args.sink.now
    (look-plain _ (λ b is. c.in_default-quit_byte.not-Some b (c.quit_byte.ensures ∙ is))) across _
    c.byte_count_across.new.sink (rw c.deref-2.ensures.value at c.in_err-count.ensures.fault)))

pub returns-clause-searched : goal.returns-clause-searched
returns-clause-searched g c = λ across has_buffers.
    let reported = rw c.deref-2.ensures.value at c.in_ok-count.ensures.reported in
    let facts = g.M.Matcher.facts c.args.matcher.now in
    let given = c.read_contents.new.contents.items in
    whole.contents-read-all c.args.self.now.config c.requires.started
    c.in_default.ensures.reads c.in_default.ensures.done
    (below g (goal.at.returns-clause-searched g c).After-quit_byte) g.S.Sink.step (errors-of g)
    facts has_buffers c.args.sink.now across c.finish.result c.finish.new.self
    (search-at g.S.Sink.step (errors-of g) facts c.args.self.now.config given c.args.sink.now
    (look-plain _ (λ b is. c.in_default-quit_byte.not-Some b (c.quit_byte.ensures ∙ is))) across _ _
    (searched-finish g.S.Sink.step (errors-of g) facts c.args.self.now.config given c.args.sink.now
    _ _ _ c.finish.result _ reported.1
    (rw (c.args.self.now.same, c.new.ensures) at c.finish.ensures.step)))

pub search_until-requires-clause-detecting : goal.search_until-requires-clause-detecting
search_until-requires-clause-detecting g c =
    sym c.quit_byte.ensures ∙ c.in-Some.is

pub returns-in-Err-clause-in_order : goal.returns-in-Err-clause-in_order
returns-in-Err-clause-in_order g c =
    read_in_order c.io_error.result (reading-error _ _ _ _ _ _ (λ e is.
    let fails = subst (λ fault. IfRead {X = Unit {0}} (Err fault)
    (λ e. FailsAfter g.R.Source.remaining g.R.Source.step e
    c.args.decoder.now c.args.reader.now c.read_contents.new.contents.items
    c.read_contents.new.decoder c.read_contents.new.reader)) is c.in-Err.ensures.read in
    failed-read _ _ _ (ap (λ d. d.has_ended) c.requires.started) fails.decodes
    fails.unended fails.failed) c.io_error.ensures) c.error_io.ensures (inl refl)

pub returns-in-Some-clause-in_order : goal.returns-in-Some-clause-in_order
returns-in-Some-clause-in_order g c =
    order.in_order-each _ _ _ _ _ _ (λ error never. absurd never) _
    _ _ c.search_until.ensures.in_order

pub returns-in_err-count-clause-in_order : goal.returns-in_err-count-clause-in_order
returns-in_err-count-clause-in_order g c =
    let p = err_from_is_err_and c.from_residual.result c.from_residual.ensures.1 in
    rw (p.1, p.2) (order.order-failed _ _ _ _ _ (omega arith) _ _ _ c.in_err-count.ensures.in_order)

pub returns-clause-in_order : goal.returns-clause-in_order
returns-clause-in_order g c =
    order.order-finished _ _ _ _ _ (omega arith) _ _ _ None _ _ (λ none. refl)
    c.in_ok-count.ensures.in_order
    (rw (c.args.self.now.same, c.new.ensures) at c.finish.ensures.step)
