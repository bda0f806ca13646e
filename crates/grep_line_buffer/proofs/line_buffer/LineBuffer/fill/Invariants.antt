use Rattle.std.proofs.Common.{◌+◌, ◌-◌, ◌^◌, length}
use Rattle.grep_line_buffer.specs.BufferStates.{held_bytes}
use Rattle.grep_line_buffer.proofs.FillLemmas.{HasNone}
use Rattle.grep_line_buffer.proofs.line_buffer.LineBuffer.fill.Given as goal

abbrev pub invariant-reads : goal.invariant-reads
invariant-reads g l = HasNone g.R.Source.remaining g.R.Source.step l.fn.self l.fn.decoder
    l.fn.reader l.self l.decoder l.reader

abbrev pub decreases-reads : goal.decreases-reads
decreases-reads g l = 2 ^ 64 - (l.self.offset + length (held_bytes l.self))
