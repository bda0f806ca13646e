use Rattle.std.proofs.Common.{◌≡◌, ◌+◌, ◌-◌, ◌≤◌, length, take, drop, length-take-le, length-drop}
use Rattle.std.proofs.Common.{ap, ◌∙◌, arith}
use Rattle.std.proofs.lemmas.List.{with_items_is}
use Rattle.std.proofs.lemmas.Result.{err_from_is_err_and}
use Rattle.grep_line_buffer.proofs.SliceLemmas.{slice-kept, slice-grown}
use Rattle.grep_line_buffer.proofs.BufferStateLemmas.{window-same}
use Rattle.grep_line_buffer.proofs.line_buffer.LineBuffer.read.Goals as goal

pub returns-clause-reads : goal.returns-clause-reads
returns-clause-reads g c =
    let b = c.self.inside in
    let n = c.in_ok-count.count in
    let items = b.bytes.items in
    let now = c.read_after.new.bytes in
    let given = take n (drop b.end now) in
    let len : length now ≡ length items = omega arith in
    let whole : length now ≡ b.bytes.len = omega arith in
    let within : b.end + n ≤ length now = c.in_ok-count.ensures.bound in
    let front : take b.end now ≡ take b.end items = c.in_ok-count.ensures.front
    ∙ ap (take b.end) c.deref_mut.ensures.value in
    let left : n ≤ length (drop b.end now) = rw length-drop (omega arith) in
    let free : length now - (b.end + n) ≡ (length items - b.end) - n = omega arith in
    rw (← c.self.view_is) (record {
      given = given;
      counted = length-take-le n (drop b.end now) left;
      fits = omega arith;
      appended = rw (with_items_is b.bytes now whole) (window-same _ _ _ _ _ _ _ _ _ _ _ _ _ _
          (slice-kept items now b.start b.line_end b.end front (omega arith))
          (slice-grown items now b.line_end b.end n front (omega arith)) len free);
      reads = c.in_ok-count.ensures.reads;
    })

pub returns-in_err-count-clause-same : goal.returns-in_err-count-clause-same
returns-in_err-count-clause-same g c =
    let p = err_from_is_err_and c.from_residual.result c.from_residual.ensures.1 in
    let b = c.self.inside in
    let items = b.bytes.items in
    let now = c.read_after.new.bytes in
    let len : length now ≡ length items = omega arith in
    let whole : length now ≡ b.bytes.len = omega arith in
    let front : take b.end now ≡ take b.end items = c.in_err-count.ensures.front
    ∙ ap (take b.end) c.deref_mut.ensures.value in
    rw (p.1, ← c.self.view_is)
    (rw (with_items_is b.bytes now whole) (window-same _ _ _ _ _ _ _ _ _ _ _ _ _ _
    (slice-kept items now b.start b.line_end b.end front (omega arith))
    (slice-kept items now b.line_end b.end b.end front (omega arith)) len
    (ap (λ k. k - b.end) len)))
