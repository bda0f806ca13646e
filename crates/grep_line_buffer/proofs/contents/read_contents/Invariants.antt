use Rattle.std.proofs.Common.{◌-◌, ◌^◌}
use Rattle.grep_line_buffer.proofs.ContentsLemmas.{IsReading}
use Rattle.grep_line_buffer.proofs.contents.read_contents.Given as goal

abbrev pub invariant-reads : goal.invariant-reads
invariant-reads g l = IsReading g.R.Source.remaining g.R.Source.step l.limit l.fn.contents.cap
    l.fn.decoder l.fn.reader l.len l.contents.items l.contents.cap l.decoder l.reader

abbrev pub decreases-reads : goal.decreases-reads
decreases-reads g l = 2 ^ 64 - l.len
