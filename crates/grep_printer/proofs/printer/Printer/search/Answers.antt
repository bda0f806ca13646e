use Rattle.std.proofs.Common.{rules}
use Rattle.grep_printer.proofs.printer.Printer.search.Goals as goal

pub returns-clause-printed : goal.returns-clause-printed
returns-clause-printed g c = record {
  begun = c.sink-sink.result;
  ended = c.search-result.new.sink;
  begins = record {
    is_of = c.sink-sink.ensures.now;
    writes_to = c.sink-sink.ensures.writes_to;
    asks = c.sink-sink.ensures.matcher;
    names = c.sink-sink.ensures.path;
    format = c.sink-sink.ensures.format;
  };
  same = c.search-result.ensures.same;
  searches = c.search-result.ensures.printed;
  in_order = c.search-result.ensures.in_order;
  has_match = c.end-has_match.ensures.has_match;
  ends = search rules;
  wrote = search rules;
}
