use Rattle.std.proofs.Common.{◌≡◌, ◌+◌, ◌-◌, ◌<◌, ◌^◌, Ok, None, true, false, ℕ, List, length}
use Rattle.grep_decode.specs.DecoderStates.{Decodes}
use Rattle.grep_matcher.specs.Lines.{byte_of}
use Rattle.grep_definitions.specs.Searches.{is_detecting, reports_nothing}
use Rattle.grep_definitions.specs.CallOrder.{HasCalled}
use Rattle.grep_definitions.specs.Plans.{all_true, begins, IsLawful}
use Rattle.grep_searcher.proofs.OrderLemmas.{known_count}
use Rattle.grep_searcher.specs.Rolls.{IsReadingOn}
use Rattle.grep_searcher.specs.SearchBuffers.{IsFitting, detection_of}
use Rattle.grep_walk.specs.Walks.{IsOrdered}
use Rattle.grep_searcher.proofs.search.Search.read_by_line.Given as goal

abbrev pub invariant-fills : goal.invariant-fills
invariant-fills g l = record {
  fitting : IsFitting l.self.config.heap_limit (byte_of l.self.config.line_terminator) l.lines;
  at : l.walk.offset ≡ l.lines.offset + length l.lines.shown;
  below : l.walk.offset < 2 ^ 64;
  ordered : IsOrdered l.walk;
  may_call : g.S.Sink.may_call l.sink;
  decoded : (given : List ℕ) × Decodes g.R.Source.remaining g.R.Source.step l.fn.decoder l.fn.reader
      given l.decoder l.reader;
  detects : l.lines.detection ≡ detection_of l.self.config.binary_detection;
  clear : is_detecting l.self.config.binary_detection ≡ false → l.lines.binary ≡ None;
  noted_clear : is_detecting l.self.config.binary_detection ≡ false → l.binary ≡ None;
  fresh : reports_nothing l.self.config ≡ true
      → (l.lines ≡ l.fn.lines) × (l.decoder ≡ l.fn.decoder) × (l.reader ≡ l.fn.reader);
  calls : HasCalled g.S.Sink.step l.self.config (known_count l.binary) l.fn.sink all_true l.sink;
  noted : IsLawful (g.M.Matcher.facts l.matcher) l.self.config → l.binary ≡ l.lines.binary;
  rolling : IsLawful (g.M.Matcher.facts l.matcher) l.self.config
      → (first : g.row.S.Denot) → g.S.Sink.step first l.self.config begins (Ok true) l.fn.sink
      → IsReadingOn g.S.Sink.step l.self.config (g.M.Matcher.facts l.matcher).meaning
      g.R.Source.remaining g.R.Source.step
      l.fn.decoder l.fn.reader first l.lines l.decoder l.reader l.walk
      (record { sink = l.sink; binary = l.binary });
}

abbrev pub decreases-fills : goal.decreases-fills
decreases-fills g l = 2 ^ 64 - l.walk.offset
