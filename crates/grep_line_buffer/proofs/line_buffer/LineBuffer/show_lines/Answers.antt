use Rattle.std.proofs.Common.{◌+◌, ◌-◌, ◌<◌, ◌≤◌, ℕ, length, drop, length-append, subst, refl}
use Rattle.std.proofs.Common.{arith}
use Rattle.std.specs.Prelude.{slice_range}
use Rattle.grep_line_buffer.specs.BufferStates.{Lacks}
use Rattle.grep_line_buffer.proofs.SliceLemmas.{length-slice}
use Rattle.grep_line_buffer.proofs.BufferStateLemmas.{last_read, length-last_read, drop-last_read}
use Rattle.grep_line_buffer.proofs.BufferStateLemmas.{held-same, EndsWith-shown, Lacks-rest}
use Rattle.grep_line_buffer.proofs.line_buffer.LineBuffer.show_lines.Goals as goal

pub returns-then-length-eq0 : goal.returns-then-length-eq0
returns-then-length-eq0 g c =
    let b = c.self.inside in
    let bs = b.bytes.items in
    let n = c.args.count in
    let r = c.lines_length-length.result in
    let fits = rw (← c.self.view_is) at c.requires.count in
    let rest = length-slice bs b.line_end b.end (omega arith) in
    let read : n ≤ b.end - b.line_end = omega (arith, fits, rest) in
    let low : b.start ≤ b.line_end = omega arith in
    let high : b.line_end ≤ b.end = omega arith in
    let within : b.end ≤ length bs = omega arith in
    let Q : ℕ → Type 0 = λ k. Lacks b.terminator (drop k
    (last_read b.start b.line_end b.end n r b.terminator bs low high within read)) in
    let none = subst Q c.if-length-eq0.true
    (rw c.deref.ensures.value at c.lines_length-length.ensures.none) in (
      refl,
      rw (
        ← c.self.view_is,
        rest,
        drop-last_read b.start b.line_end b.end n r b.terminator bs low high within read,
      ) none,
    )

pub returns : goal.returns
returns g c =
    let b = c.self.inside in
    let bs = b.bytes.items in
    let n = c.args.count in
    let r = c.lines_length-length.result in
    let fits = rw (← c.self.view_is) at c.requires.count in
    let rest = length-slice bs b.line_end b.end (omega arith) in
    let low : b.start ≤ b.line_end = omega arith in
    let high : b.line_end ≤ b.end = omega arith in
    let within : b.end ≤ length bs = omega arith in
    let read : n ≤ b.end - b.line_end = omega (arith, fits, rest) in
    let some : 0 < r = omega arith in
    let len = length-last_read b.start b.line_end b.end n r b.terminator bs low high within read in
    let bound = rw c.deref.ensures.value at c.lines_length-length.ensures.within in
    let part : r ≤ n = omega (arith, len, bound) in
    let m = (b.end - n) + r in
    let shown = length-slice bs b.start m (omega arith) in
    let before = length-slice bs b.start b.line_end (omega arith) in
    let all = length-append (slice_range bs b.start b.line_end) (slice_range bs b.line_end b.end) in
    rw (← c.self.view_is) (record {
      whole = held-same b.start b.line_end b.end n r b.terminator bs low high within read part;
      ends = EndsWith-shown b.start b.line_end b.end n r b.terminator bs low high within read some
          part ((rw c.deref.ensures.value at c.lines_length-length.ensures.last) some);
      none = Lacks-rest b.start b.line_end b.end n r b.terminator bs low high within read part
          (rw c.deref.ensures.value at c.lines_length-length.ensures.none);
      reached = rw (all, before, rest, shown) (omega arith);
      others = refl;
    })
