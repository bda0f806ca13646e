use Rattle.std.proofs.lemmas.Result.{err_from_is_err_and}
use Rattle.std.proofs.Common.{ap}
use Rattle.grep_matcher.specs.Literals.{literal_meaning}
use Rattle.lgrep_cli.proofs.CountTextLemmas.{counted, count-unread, allowed, undetected}
use Rattle.lgrep_cli.proofs.CountTextLemmas.{written-failed, written-printed}
use Rattle.lgrep_cli.proofs.SearchLemmas.{out_of_memory}
use Rattle.lgrep_cli.proofs.search.write_count.Goals as goal

pub returns-in-Ok-clause-printed : goal.returns-in-Ok-clause-printed
returns-in-Ok-clause-printed g c =
    let run = c.reader_searches_run.ensures c.in_ok-matcher.matcher c.in_ok-searcher.searcher c.args.reader.now _ _ _
    (undetected c.args.options.now c.in_ok-searcher.searcher c.in_ok-searcher.ensures.settings) (λ _. tt)
    (rw c.in-Ok.is at c.search_reader.ensures.searched) in
    let count = counted g.R.Source.remaining g.R.Source.step g.W.Output.step c.args.options.now c.requires
    c.args.reader.now
    c.search_reader.new.reader c.in_ok-searcher.searcher c.in_ok-matcher.matcher c.search_reader.new.sink run.0.taken _
    c.numbers_change_no_count.ensures.count c.numbers_change_no_count.ensures.bytes c.runs_count_matches.ensures.all
    c.in_ok-searcher.ensures.settings (ap literal_meaning c.in_ok-matcher.ensures.literal) c.new-matches.ensures
    run.1 in
    written-printed g.R.Source.remaining g.R.Source.step g.W.Output.step c.args.options.now c.requires c.args.reader.now
    c.search_reader.new.reader c.search_reader.new.sink c.write_matches.result c.args.writer.now
    c.write_matches.new.writer count
    (rw c.count.ensures at c.write_matches.ensures)

pub returns-in-Ok-clause-failed : goal.returns-in-Ok-clause-failed
returns-in-Ok-clause-failed g c =
    let run = c.reader_searches_run.ensures c.in_ok-matcher.matcher c.in_ok-searcher.searcher c.args.reader.now _ _ _
    (undetected c.args.options.now c.in_ok-searcher.searcher c.in_ok-searcher.ensures.settings) (λ _. tt)
    (rw c.in-Ok.is at c.search_reader.ensures.searched) in
    let count = counted g.R.Source.remaining g.R.Source.step g.W.Output.step c.args.options.now c.requires
    c.args.reader.now
    c.search_reader.new.reader c.in_ok-searcher.searcher c.in_ok-matcher.matcher c.search_reader.new.sink run.0.taken _
    c.numbers_change_no_count.ensures.count c.numbers_change_no_count.ensures.bytes c.runs_count_matches.ensures.all
    c.in_ok-searcher.ensures.settings (ap literal_meaning c.in_ok-matcher.ensures.literal) c.new-matches.ensures
    run.1 in
    written-failed g.R.Source.remaining g.R.Source.step g.W.Output.step c.args.options.now c.requires c.args.reader.now
    c.search_reader.new.reader c.search_reader.new.sink c.write_matches.result c.args.writer.now
    c.write_matches.new.writer count
    (rw c.count.ensures at c.write_matches.ensures)

pub returns-clause-failed : goal.returns-clause-failed
returns-clause-failed g c =
    let fault = (rw c.in-Err.is at c.search_reader.ensures.succeeds) (λ _ _ _ _ _ _ h. h.1) (λ _ _ h. h) (λ _. tt)
    (allowed c.args.options.now c.in_ok-searcher.searcher c.in_ok-matcher.matcher c.in_ok-searcher.ensures.settings) in
    count-unread g.R.Source.remaining g.R.Source.step g.W.Output.step c.args.options.now c.requires c.args.reader.now
    c.search_reader.new.reader c.in_ok-searcher.searcher c.in_ok-matcher.matcher fault.0 fault.1 c.in-Err.error
    fault.2
    c.args.writer.now c.flush.new.self c.flush.result c.in_ok-searcher.ensures.settings
    (ap literal_meaning c.in_ok-matcher.ensures.literal) fault.3 fault.4 c.flush.ensures

pub returns-in_err-searcher-clause-failed : goal.returns-in_err-searcher-clause-failed
returns-in_err-searcher-clause-failed g c =
    let error = err_from_is_err_and c.from_residual.result c.from_residual.ensures.1 in
    rw (error.1, error.2) (out_of_memory g.R.Source.remaining g.R.Source.step g.W.Output.step c.args.options.now
    c.args.reader.now
    c.args.writer.now c.in_err-searcher.field-0.0 c.in_err-searcher.ensures.memory)

pub returns-in_err-matcher-clause-failed : goal.returns-in_err-matcher-clause-failed
returns-in_err-matcher-clause-failed g c =
    let error = err_from_is_err_and c.from_residual-in_err-matcher.result c.from_residual-in_err-matcher.ensures.1 in
    rw (error.1, error.2) (out_of_memory g.R.Source.remaining g.R.Source.step g.W.Output.step c.args.options.now
    c.args.reader.now
    c.args.writer.now c.in_err-matcher.field-0.0 c.in_err-matcher.ensures.memory)
