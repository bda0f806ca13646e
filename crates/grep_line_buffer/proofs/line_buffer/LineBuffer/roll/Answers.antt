use Rattle.std.proofs.Common.{◌-◌, drop, refl, sym, ap, ◌∙◌, arith}
use Rattle.std.specs.Prelude.{slice_range}
use Rattle.grep_line_buffer.proofs.SliceLemmas.{slice-none, slice-join, slice-moved}
use Rattle.grep_line_buffer.proofs.BufferStateLemmas.{window-same}
use Rattle.grep_line_buffer.proofs.line_buffer.LineBuffer.roll.Goals as goal
use lib.Seq.{paste}

pub returns-clause-same : goal.returns-clause-same
returns-clause-same g c =
    let b = c.self.inside in
    let items = b.bytes.items in
    let pasted = paste items 0 (drop b.start items) (b.end - b.start) in
    let moved = ap (λ l. slice_range l 0 (b.end - b.start)) {y = pasted}
    c.move_to_front.ensures.items
    ∙ slice-moved b.bytes.items b.start b.end (omega arith) (omega arith) in
    rw (← c.self.view_is) (window-same _ _ _ _ _ _ _ _ _ _ _ _ _ _
    (moved ∙ sym (slice-join b.bytes.items b.start b.line_end b.end (omega arith) (omega arith)))
    (slice-none _ (b.end - b.start)) c.move_to_front.ensures.len refl)
