use Rattle.std.proofs.Common.{◌∷◌, [], ◌∙◌, arith, drop, length, sym}
use Rattle.grep_output.proofs.PendingLemmas.{room-filled}
use Rattle.grep_output.proofs.pending.Pending.push_byte.Goals as goal

pub returns : goal.returns
returns c =
    let inside = c.self.inside in
    let size = sym (c.put_byte.ensures.same ∙ c.deref_mut.ensures.len) in
    let filled = room-filled inside.start inside.len inside.bytes.len inside.bytes.items c.put_byte.new.bytes
    (drop (length c.put_byte.new.bytes) inside.bytes.items) (c.args.byte ∷ []) c.self.invariant.0
    c.self.invariant.1 (omega arith) size (grind (arith, c.put_byte.ensures.put, c.deref_mut.ensures.value)) in
    grind (arith, filled.0, filled.1)
