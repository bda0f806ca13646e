use Rattle.std.proofs.Common.{◌∙◌, sym, subst}
use Rattle.grep_definitions.specs.SliceSearches.{IsContentsSearch}
use Rattle.grep_definitions.proofs.SearchModeLemmas.{look-detects, quit-is}
use Rattle.grep_searcher.proofs.QuittingLemmas.{first-found, quit-searched}
use Rattle.grep_searcher.proofs.search.Search.search_until.Given.{Over}
use Rattle.grep_definitions.specs.Searches.{in_contents, IsInOrder}
use Rattle.grep_searcher.proofs.OrderLemmas.{quit-in-order}
use Rattle.grep_report.specs.ErrorMakers.{makers_of, ErrorMakers}
use Rattle.grep_searcher.proofs.search.Search.search_until.Goals as goal

abbrev errors-of : (g : Over) → ErrorMakers g.row.M-Error.Denot g.row.S-Error.Denot
errors-of g = makers_of g.M.Error.Display.output g.S.Error.SinkError.makers

pub search_quitting-requires-clause-none : goal.search_quitting-requires-clause-none
search_quitting-requires-clause-none g c =
    rw c.new-quitting.ensures.byte (first-found _ _ c.min.ensures c.in-None.ensures)

pub returns-in-Some-clause-searched : goal.returns-in-Some-clause-searched
returns-in-Some-clause-searched g c = λ lawful.
    quit-searched (errors-of g) (g.M.Matcher.facts c.args.matcher.now) c.args.byte
    (quit-is _ _ c.requires.detecting) c.args.bytes.now c.args.is_across _
    (first-found _ _ c.min.ensures c.in-Some.ensures) c.quit_first.ensures.quits

pub returns-in-None-clause-searched : goal.returns-in-None-clause-searched
returns-in-None-clause-searched g c = λ lawful.
    subst (λ s. IsContentsSearch g.S.Sink.step (errors-of g) (g.M.Matcher.facts c.args.matcher.now)
    c.args.self.now.config (in_contents c.args.byte) c.args.is_across c.args.bytes.now
    c.args.sink.now c.search_quitting.result s) (sym (c.sink-1.given.1
    (sym (c.search_quitting.ensures.same_sink ∙ c.new-quitting.ensures.same_sink))))
    (rw (c.new-quitting.ensures.byte, c.new-quitting.ensures.sink) at
    (c.search_quitting.ensures.searched lawful))

pub returns-in-Some-clause-in_order : goal.returns-in-Some-clause-in_order
returns-in-Some-clause-in_order g c =
    quit-in-order _ _ g.S.Sink.may_call (look-detects _ _ c.requires.detecting) _
    c.quit_first.ensures.quits

pub returns-in-None-clause-in_order : goal.returns-in-None-clause-in_order
returns-in-None-clause-in_order g c =
    subst (λ s. IsInOrder g.S.Sink.step (errors-of g) (g.M.Matcher.facts c.args.matcher.now)
    c.args.self.now.config (λ _. ⊥) c.args.sink.now c.search_quitting.result s)
    (sym (c.sink-1.given.1
    (sym (c.search_quitting.ensures.same_sink ∙ c.new-quitting.ensures.same_sink))))
    (rw c.new-quitting.ensures.sink at c.search_quitting.ensures.in_order)

pub search_quitting-requires-clause-detecting : goal.search_quitting-requires-clause-detecting
search_quitting-requires-clause-detecting g c =
    rw c.new-quitting.ensures.byte c.requires.detecting
