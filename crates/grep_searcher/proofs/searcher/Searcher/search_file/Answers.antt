use Rattle.grep_searcher.specs.FileSearches.{IsFileRead}
use Rattle.grep_definitions.proofs.ReaderViewLemmas.{IsReaderSearched-seen, IsReadingError-seen}
use Rattle.grep_definitions.proofs.ReaderViewLemmas.{IsUnread-seen}
use Rattle.grep_searcher.specs.declared.searcher.files.Opened.{Opened}
use Rattle.grep_definitions.proofs.CallOrderLemmas.{in_order-each}
use Rattle.grep_searcher.proofs.SourceSearchLemmas.{if_err-each}
use Rattle.grep_report.specs.ErrorMakers.{makers_of}
use Rattle.grep_searcher.proofs.searcher.Searcher.search_file.Goals as goal

pub returns-clause-in_order : goal.returns-clause-in_order
returns-clause-in_order g c = λ allowed.
    let errors = makers_of g.M.Error.Display.output g.S.Error.SinkError.makers in
    let facts = g.M.Matcher.facts c.args.matcher in
    in_order-each g.S.Sink.step c.args.self.now.settings errors facts _ _
    (IsReadingError-seen (λ (reader : Opened g.row.F.Denot). reader.file.now)
    (λ reader. reader.file.ghost_name)
    g.F.Read.remaining _ (IsFileRead g.F.Read.remaining) (λ s result t read. read)
    c.args.self.now _ c.search_reader.new.reader c.file-1.given.0 c.file-1.given.1)
    c.args.sink.now c.search_reader.result c.search_reader.new.sink
    (c.search_reader.ensures.in_order allowed)

pub returns-clause-searched : goal.returns-clause-searched
returns-clause-searched g c =
    IsReaderSearched-seen (λ (reader : Opened g.row.F.Denot). reader.file.now)
    (λ reader. reader.file.ghost_name)
    g.F.Read.remaining _ (IsFileRead g.F.Read.remaining) (λ s result t read. read)
    c.args.self.now _ c.search_reader.new.reader c.file-1.given.0 c.file-1.given.1 g.S.Sink.step
    (makers_of g.M.Error.Display.output g.S.Error.SinkError.makers)
    (g.M.Matcher.facts c.args.matcher)
    c.args.sink.now c.search_reader.result c.search_reader.new.sink c.search_reader.ensures.searched

pub returns-clause-succeeds : goal.returns-clause-succeeds
returns-clause-succeeds g c = λ never_fails infallible lawful allowed.
    if_err-each _ _ c.search_reader.result (λ e unread. (
      unread.0,
      unread.1,
      unread.2,
      IsUnread-seen (λ (reader : Opened g.row.F.Denot). reader.file.now)
          (λ reader. reader.file.ghost_name)
          g.F.Read.remaining _ (IsFileRead g.F.Read.remaining) (λ s result t read. read)
          c.args.self.now _ c.search_reader.new.reader c.file-1.given.0 c.file-1.given.1
          (g.M.Matcher.facts c.args.matcher).meaning unread.0 unread.1 unread.2 unread.3,
      unread.4,
    )) (c.search_reader.ensures.succeeds never_fails infallible lawful allowed)
