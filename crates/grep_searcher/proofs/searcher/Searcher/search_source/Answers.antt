use Rattle.std.proofs.Common.{◌∙◌, [], false, inl, inr, refl, subst, sym}
use Rattle.grep_definitions.specs.Plans.{IsLawful}
use Rattle.grep_definitions.specs.Searches.{look_of, IsInOrder, read_in_order, IsReadingError}
use Rattle.grep_searcher.proofs.SourceSearchLemmas.{fault-buffers, searched-same, unread-buffers}
use Rattle.grep_searcher.proofs.SourceSearchLemmas.{unread-same}
use Rattle.grep_report.specs.ErrorMakers.{makers_of}
use Rattle.grep_searcher.proofs.searcher.Searcher.search_source.Goals as goal

pub returns-in-Err-clause-searched : goal.returns-in-Err-clause-searched
returns-in-Err-clause-searched g c = λ lawful.
    let errors = makers_of g.M.Error.Display.output g.S.Error.SinkError.makers in
    let facts = g.M.Matcher.facts c.args.matcher.now in
    fault-buffers g.R.Source.remaining g.R.Source.step g.S.Sink.step errors facts c.args.self.now
    (look_of c.args.self.now.settings facts.meaning false) c.args.reader.now c.args.sink.now
    c.in-Err.error
    c.error_io.result c.in-Err.ensures.none c.in-Err.ensures.memory c.error_io.ensures

pub returns-in-Err-clause-succeeds : goal.returns-in-Err-clause-succeeds
returns-in-Err-clause-succeeds g c = λ never infallible lawful.
    let facts = g.M.Matcher.facts c.args.matcher.now in (
      false,
      [],
      c.in-Err.error,
      unread-buffers g.R.Source.remaining g.R.Source.step facts c.args.self.now c.args.reader.now
          c.in-Err.error c.in-Err.ensures.none c.in-Err.ensures.memory,
      c.error_io.ensures,
    )

pub returns-clause-searched : goal.returns-clause-searched
returns-clause-searched g c = λ lawful.
    let errors = makers_of g.M.Error.Display.output g.S.Error.SinkError.makers in
    let facts = g.M.Matcher.facts c.args.matcher.now in
    let same = c.search-search.ensures.config ∙ c.in-Ok.ensures.settings in
    searched-same g.R.Source.remaining g.R.Source.step g.S.Sink.step errors facts
    c.search-search.result.config
    c.args.self.now c.args.reader.now c.args.sink.now c.search_reader-result.result
    c.search_reader-result.new.reader c.search_reader-result.new.sink same
    (c.search_reader-result.ensures.searched (subst (λ k. IsLawful facts k) (sym same) lawful))

pub returns-clause-succeeds : goal.returns-clause-succeeds
returns-clause-succeeds g c = λ never infallible lawful.
    let errors = makers_of g.M.Error.Display.output g.S.Error.SinkError.makers in
    let facts = g.M.Matcher.facts c.args.matcher.now in
    let same = c.search-search.ensures.config ∙ c.in-Ok.ensures.settings in
    unread-same g.R.Source.remaining g.R.Source.step g.S.Sink.step errors facts
    c.search-search.result.config c.args.self.now c.args.reader.now c.search_reader-result.result
    c.search_reader-result.new.reader same (c.search_reader-result.ensures.succeeds never infallible
    (subst (λ k. IsLawful facts k) (sym same) lawful))

pub returns-in-Err-clause-in_order : goal.returns-in-Err-clause-in_order
returns-in-Err-clause-in_order g c =
    read_in_order c.in-Err.error (inr (inr (inr c.in-Err.ensures.memory))) c.error_io.ensures
    (inl refl)

pub returns-clause-in_order : goal.returns-clause-in_order
returns-clause-in_order g c =
    let errors = makers_of g.M.Error.Display.output g.S.Error.SinkError.makers in
    let facts = g.M.Matcher.facts c.args.matcher.now in
    let same = c.search-search.ensures.config ∙ c.in-Ok.ensures.settings in
    let of_reading = IsReadingError g.R.Source.remaining g.R.Source.step c.args.reader.now
    c.search_reader-result.new.reader in
    subst (λ k. IsInOrder g.S.Sink.step errors facts k of_reading c.args.sink.now
    c.search_reader-result.result c.search_reader-result.new.sink) same
    c.search_reader-result.ensures.in_order
