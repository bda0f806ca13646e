use Rattle.std.proofs.Common.{◌∙◌, rules, subst, sym}
use Rattle.grep_printer.specs.StatsSums.{nanos_of}
use Rattle.linegrep_cli.specs.CountedRuns.{AreAdded}
use Rattle.linegrep_cli.proofs.counted_run.CountedRun.search.Goals as goal

pub returns-clause-printed : goal.returns-clause-printed
returns-clause-printed g c = record {
  printed = record {
    begun = c.sink_with_path-sink.result;
    ended = c.search-result.new.sink;
    begins = record {
      is_of = c.sink_with_path-sink.ensures.now;
      writes_to = c.sink_with_path-sink.ensures.writes_to;
      asks = c.sink_with_path-sink.ensures.matcher;
      names = c.sink_with_path-sink.ensures.path;
      format = c.sink_with_path-sink.ensures.format;
    };
    same = c.search-result.ensures.same;
    searches = rw c.keep.ensures.result c.search-result.ensures.printed;
    in_order = rw c.keep.ensures.result c.search-result.ensures.in_order;
    has_match = c.keep.ensures.has_match ∙ c.end-has_match.ensures.has_match;
    ends = sym (c.keep.ensures.printer ∙ c.end-has_match.ensures.printer);
    wrote = search rules;
  };
  elapsed = nanos_of c.elapsed.result;
  totals = rw c.keep.ensures.result
      (subst (λ stats. AreAdded c.args.self.now.stats stats c.search-result.result
      c.keep.new.self.stats) c.stats-counted.ensures c.keep.ensures.stats);
  start = c.keep.ensures.start;
}
