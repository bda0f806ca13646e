use Rattle.std.proofs.Common.{refl, sym, arith}
use Rattle.grep_line_buffer.proofs.SliceLemmas.{slice-none, slice-join}
use Rattle.grep_line_buffer.proofs.BufferStateLemmas.{window-same}
use Rattle.grep_line_buffer.proofs.line_buffer.LineBuffer.end.Goals as goal

pub returns-clause-same : goal.returns-clause-same
returns-clause-same g c =
    let b = c.self.inside in
    rw (← c.self.view_is) (window-same _ _ _ _ _ _ _ _ _ _ _ _ _ _
    (sym (slice-join b.bytes.items b.start b.line_end b.end (omega arith) (omega arith)))
    (slice-none b.bytes.items b.end) refl refl)
