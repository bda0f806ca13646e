use Rattle.std.proofs.Common.{◌≡◌, ◌∙◌, ap, rules, subst}
use Rattle.grep_printer.specs.JsonTexts.{json_rules}
use Rattle.linegrep_cli.specs.JsonRuns.{IsEndPut}
use Rattle.linegrep_cli.proofs.json_run.JsonRun.search.Goals as goal

pub returns-clause-written : goal.returns-clause-written
returns-clause-written g c = record {
  begun = c.sink_with_path-sink.result;
  ended = c.search-result.new.sink;
  result = c.search-result.result;
  elapsed = c.write_end-ended.ensures.end.0;
  counts = c.write_end-ended.result;
  begins = record {
    is_of = c.sink_with_path-sink.ensures.now;
    writes_to = c.sink_with_path-sink.ensures.writes_to;
    asks = c.sink_with_path-sink.ensures.matcher;
    names = c.sink_with_path-sink.ensures.path;
    format = c.sink_with_path-sink.ensures.format;
  };
  searches = c.search-result.ensures.printed;
  has_match = c.keep.ensures.has_match ∙ (c.end-has_match.ensures.has_match
      ∙ ap (λ format. (json_rules g.R.Replacer.text_at).has_match format) c.write_end-ended.ensures.format);
  ends =
      let printer : c.keep.new.self.printer ≡ c.write_end-ended.new.sink.printer.now = search rules in
      subst (λ w. IsEndPut g.W.Output.step c.search-result.new.sink c.search-result.result
      c.write_end-ended.ensures.end.0 c.write_end-ended.result w c.keep.new.self.printer)
      {x = c.write_end-ended.new.sink.writer.now} (search rules)
      (rw printer c.write_end-ended.ensures.end.1);
  totals = c.keep.ensures.stats;
  start = c.keep.ensures.start;
}
