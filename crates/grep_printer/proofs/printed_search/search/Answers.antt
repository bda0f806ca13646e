use Rattle.grep_printer.proofs.PrintedSearchLemmas.{search-in-order, search-printed, search-same}
use Rattle.grep_printer.proofs.printed_search.search.Goals as goal

pub returns-clause-same : goal.returns-clause-same
returns-clause-same g c =
    search-same g.F.Format.rules g.M.Error.Display.output g.M.Matcher.facts g.M.FindAt.first_at g.W.Output.step
    g.H.Source.remaining g.H.Source.step c.args.searcher.now c.args.haystack.now c.args.sink.now
    c.search_reader.new.reader c.search_reader.new.sink c.args.matcher c.requires _ c.search_reader.result
    c.search_reader.ensures.searched c.search_reader.ensures.in_order

pub returns-clause-printed : goal.returns-clause-printed
returns-clause-printed g c =
    search-printed g.F.Format.rules g.M.Error.Display.output g.M.Matcher.facts g.M.FindAt.first_at g.W.Output.step
    g.H.Source.remaining g.H.Source.step c.args.searcher.now c.args.haystack.now c.args.sink.now
    c.search_reader.new.reader c.search_reader.new.sink c.args.matcher c.requires
    (c.inputs_are_searched.ensures c.args.matcher) c.search_reader.result
    c.search_reader.ensures.searched

pub returns-clause-in_order : goal.returns-clause-in_order
returns-clause-in_order g c =
    search-in-order g.F.Format.rules g.M.Error.Display.output g.M.Matcher.facts g.M.FindAt.first_at g.W.Output.step
    g.H.Source.remaining g.H.Source.step c.args.searcher.now c.args.haystack.now c.args.sink.now
    c.search_reader.new.reader c.search_reader.new.sink c.args.matcher c.requires c.search_reader.result
    c.search_reader.ensures.in_order
