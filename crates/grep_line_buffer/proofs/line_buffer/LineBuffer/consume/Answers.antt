use Rattle.std.proofs.Common.{◌≤◌, length, subst, sym, refl, arith}
use Rattle.grep_line_buffer.specs.BufferStates.{BufferState}
use Rattle.grep_line_buffer.proofs.SliceLemmas.{drop-slice, length-slice}
use Rattle.grep_line_buffer.proofs.BufferStateLemmas.{window-same}
use Rattle.grep_line_buffer.proofs.line_buffer.LineBuffer.consume.Goals as goal

pub returns : goal.returns
returns g c =
    let b = c.self.inside in
    let P : BufferState → Type 0 = λ w. c.args.count ≤ length w.shown in
    let fits = subst P (sym c.self.view_is) c.requires in
    rw (← c.self.view_is) (window-same _ _ _ _ _ _ _ _ _ _ _ _ _ _
    (sym (drop-slice b.bytes.items b.start b.line_end c.args.count
    (omega (arith, fits, length-slice b.bytes.items b.start b.line_end (omega arith))))) refl refl
    refl)
