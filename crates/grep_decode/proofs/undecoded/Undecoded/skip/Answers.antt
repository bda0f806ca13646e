use Rattle.std.proofs.Common.{◌-◌, ◌≤◌, ap, subst, sym, length, length-take, drop, take, arith}
use Rattle.grep_decode.specs.UndecodedBytes.{UndecodedBytes}
use Rattle.grep_decode.proofs.PieceLemmas.{window-skipped}
use Rattle.grep_decode.proofs.undecoded.Undecoded.skip.Goals as goal

pub returns : goal.returns
returns g c =
    let u = c.self.inside in
    let P : UndecodedBytes → Type 0 = λ now. c.args.count ≤ length now.bytes in
    let fits : c.args.count ≤ length (take (u.end - u.start) (drop u.start u.buffer.items)) =
    subst P (sym c.self.view_is) c.requires in
    rw (← c.self.view_is) (ap (λ bytes. record {
      bytes = bytes;
      has_ended = u.has_ended;
      capacity = length u.buffer.items;
    }) (window-skipped u.start u.end c.args.count u.buffer.items
    (omega (arith, fits, length-take (u.end - u.start) (drop u.start u.buffer.items)))))
