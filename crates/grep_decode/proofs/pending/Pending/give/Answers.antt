use Rattle.std.proofs.Common.{◌≡◌, ◌+◌, ◌-◌, arith}
use Rattle.grep_decode.proofs.PieceLemmas.{window-given}
use Rattle.grep_decode.proofs.pending.Pending.give.Goals as goal

pub returns-clause-bytes : goal.returns-clause-bytes
returns-clause-bytes c =
    let start = c.self.inside.start in
    let count = c.min-count.result in
    let same : (start + count) - start ≡ count = omega arith in
    rw (← c.self.view_is)
    (window-given start c.self.inside.end count ((start + count) - start) c.self.inside.bytes
    c.copy_from_slice.new.self _ (omega arith) (omega arith) same c.copy_from_slice.ensures.after)
