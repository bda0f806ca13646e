use Rattle.std.proofs.Common.{◌∙◌, arith, drop, length, sym}
use Rattle.grep_output.proofs.PendingLemmas.{room-filled}
use Rattle.grep_output.proofs.pending.Pending.push.Goals as goal

pub returns : goal.returns
returns c =
    let inside = c.self.inside in
    let size = sym (c.put_at.ensures.same ∙ c.deref_mut.ensures.len) in
    let filled = room-filled inside.start inside.len inside.bytes.len inside.bytes.items c.put_at.new.bytes
    (drop (length c.put_at.new.bytes) inside.bytes.items) c.args.bytes.now c.self.invariant.0
    c.self.invariant.1 (omega arith) size (grind (arith, c.put_at.ensures.put, c.deref_mut.ensures.value)) in
    grind (arith, filled.0, filled.1)
