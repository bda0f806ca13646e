use Rattle.std.proofs.Common.{◌≡◌, ◌∙◌, ◌+◌, ◌-◌, ◌/◌, ◌%◌, ◌^◌, ap, arith, subst, sym}
use Rattle.std.proofs.lemmas.Nat.{shr-shr}
use Rattle.grep_regex.proofs.windows.marks_from.Goals as goal

pub returns : goal.returns
returns g c = λ k low high may.
    let position = c.args.position in
    let lane = k - position in
    let same : k ≡ position + lane = omega arith in
    let marked = c.lanes.ensures.each lane (omega arith) (subst (g.T.Target.may_follow c.args.target.now) same may) in
    let sum : lane ≡ (c.args.from - position) + (k - c.args.from) = omega arith in
    ap (λ n. n % 2) (shr-shr c.highest_bits.result (c.args.from - position) (k - c.args.from)
    ∙ ap (λ n. c.highest_bits.result / 2 ^ n) (sym sum))
    ∙ (c.highest_bits.ensures lane).1 marked
