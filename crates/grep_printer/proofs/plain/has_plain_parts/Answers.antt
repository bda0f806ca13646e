use Rattle.std.proofs.Common.{length, rules}
use Rattle.grep_searcher.specs.Lines.{strip}
use Rattle.grep_printer.proofs.PlainLineLemmas.{ordered-by}
use Rattle.grep_printer.proofs.plain.has_plain_parts.Goals as goal

pub returns : goal.returns
returns c = λ one. record {
  is_match = c.in-Match.is;
  line = rw c.as_byte.ensures at (c.is_one_line.ensures one);
  ended = search rules;
  within = ordered-by (length (strip c.args.terminator c.args.report.now.bytes.now)) c.args.parts.now 0 _ c.requires
      (search rules);
}
