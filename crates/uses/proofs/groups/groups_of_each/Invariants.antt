use Rattle.std.proofs.Common.{◌≡◌, map, take}
use Rattle.uses.proofs.groups.groups_of_each.Given as goal

abbrev pub invariant-loop-part : goal.invariant-loop-part
invariant-loop-part g l = map (λ groups. groups.items) l.each.items
    ≡ map (λ part. g.M.CapturesAt.groups_at l.matcher l.bytes part.0) (take l.part-index l.part-items)
