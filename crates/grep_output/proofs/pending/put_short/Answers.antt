use Rattle.std.proofs.Common.{◌++◌, ◌+◌, ◌-◌, ◌≤◌, ◌∙◌, ap, arith, length, take}
use Rattle.grep_output.proofs.DigitLemmas.{take-copied}
use Rattle.grep_output.proofs.pending.put_short.Goals as goal

pub returns-clause-put : goal.returns-clause-put
returns-clause-put c = λ len few.
    let copied = c.copy_from_slice.new.self in
    let within : len ≤ length copied =
    omega (arith, few, c.requires.few, ap length c.copy_from_slice.ensures.after) in
    take-copied c.args.at len (c.args.at + 128 - c.args.at) c.args.bytes.now copied
    (omega (arith, c.requires.room)) within
    ∙ ap (λ bytes. take c.args.at c.args.bytes.now ++ take len bytes) c.copy_from_slice.ensures.after
