use Rattle.std.proofs.Common.{◌∙◌, refl, sym, Bor, List, ℕ, Some}
use Rattle.std.proofs.Math.Logic.{⊎_elim}
use Rattle.grep_definitions.specs.SliceSearches.{IsSliceRead}
use Rattle.grep_definitions.proofs.CallOrderLemmas.{in_order-each}
use Rattle.grep_definitions.proofs.ReaderViewLemmas.{IsReaderSearched-seen, IsUnread-seen}
use Rattle.grep_searcher.proofs.InputSearchLemmas.{slice-decoded, slice-read, slice-unchanged}
use Rattle.grep_searcher.proofs.SourceSearchLemmas.{if_err-each, not-refused}
use Rattle.grep_searcher.proofs.ViewLemmas.{settings_is}
use Rattle.grep_report.specs.ErrorMakers.{makers_of}
use Rattle.grep_searcher.proofs.searcher.Searcher.search_input.Goals as goal

pub returns-then-is_searched_unchanged-clause-searched :
    goal.returns-then-is_searched_unchanged-clause-searched
returns-then-is_searched_unchanged-clause-searched g c = λ allowed.
    let errors = makers_of g.M.Error.Display.output g.S.Error.SinkError.makers in
    let facts = g.M.Matcher.facts c.args.matcher.now in
    let unchanged =
    rw (settings_is c.self.view_is) at (sym c.is_searched_unchanged.ensures
    ∙ c.if-is_searched_unchanged.true) in
    let searched = rw c.search.ensures.config at c.search_bytes.ensures.searched in
    slice-unchanged g.S.Sink.step errors facts c.args.self.now c.args.input.now unchanged allowed
    c.args.sink.now c.search_bytes.result c.search_bytes.new.sink searched

pub returns-clause-searched : goal.returns-clause-searched
returns-clause-searched g c = λ allowed.
    let errors = makers_of g.M.Error.Display.output g.S.Error.SinkError.makers in
    let facts = g.M.Matcher.facts c.args.matcher.now in
    let changed =
    rw (settings_is c.self.view_is) at (sym c.is_searched_unchanged.ensures
    ∙ c.if-is_searched_unchanged.false) in
    slice-decoded g.S.Sink.step errors facts c.args.self.now c.args.input.now changed
    c.args.sink.now c.search_source.result c.search_source.new.reader.now c.search_source.new.sink
    (IsReaderSearched-seen (λ (slice : Bor (List ℕ)). slice.now) (λ slice. tt) (λ all. Some all) _
    IsSliceRead
    slice-read c.args.self.now _ c.search_source.new.reader c.search_source.new.reader.now
    (λ same. refl)
    g.S.Sink.step errors facts c.args.sink.now c.search_source.result c.search_source.new.sink
    (not-refused errors facts c.args.self.now.settings allowed c.args.sink.now
    c.search_source.result c.search_source.new.sink _ _ c.search_source.ensures.searched))

pub returns-clause-succeeds : goal.returns-clause-succeeds
returns-clause-succeeds g c = λ never infallible lawful.
    let changed =
    rw (settings_is c.self.view_is) at (sym c.is_searched_unchanged.ensures
    ∙ c.if-is_searched_unchanged.false) in
    if_err-each _ _ c.search_source.result
    (λ e unread. (
      unread.0,
      unread.1,
      unread.2,
      (
        changed,
        c.search_source.new.reader.now,
        IsUnread-seen (λ (slice : Bor (List ℕ)). slice.now) (λ slice. tt) (λ all. Some all) _
            IsSliceRead slice-read
            c.args.self.now _ c.search_source.new.reader c.search_source.new.reader.now
            (λ same. refl)
            (g.M.Matcher.facts c.args.matcher.now).meaning unread.0 unread.1 unread.2 unread.3,
      ),
      unread.4,
    )) (c.search_source.ensures.succeeds never infallible lawful)

pub returns-then-is_searched_unchanged-clause-in_order :
    goal.returns-then-is_searched_unchanged-clause-in_order
returns-then-is_searched_unchanged-clause-in_order g c =
    let errors = makers_of g.M.Error.Display.output g.S.Error.SinkError.makers in
    let facts = g.M.Matcher.facts c.args.matcher.now in
    let here = rw c.search.ensures.config at c.search_bytes.ensures.in_order in
    in_order-each g.S.Sink.step c.args.self.now.settings errors facts (λ _. ⊥) _
    (λ error never. absurd never) c.args.sink.now c.search_bytes.result c.search_bytes.new.sink here

pub returns-clause-in_order : goal.returns-clause-in_order
returns-clause-in_order g c =
    let errors = makers_of g.M.Error.Display.output g.S.Error.SinkError.makers in
    let facts = g.M.Matcher.facts c.args.matcher.now in
    let changed =
    rw (settings_is c.self.view_is) at (sym c.is_searched_unchanged.ensures
    ∙ c.if-is_searched_unchanged.false) in
    in_order-each g.S.Sink.step c.args.self.now.settings errors facts _ _
    (λ error. ⊎_elim (λ failed. absurd failed.3) (λ own. (changed, own))) c.args.sink.now
    c.search_source.result c.search_source.new.sink c.search_source.ensures.in_order
