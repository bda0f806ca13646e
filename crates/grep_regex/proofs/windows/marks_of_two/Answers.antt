use Rattle.std.proofs.Common.{◌≡◌, ◌+◌, ◌-◌, ◌<◌, ◌≤◌, ◌++◌, ap, arith, get_or, subst, ⊎_elim}
use Rattle.std.proofs.lemmas.Bool.{cases_lt}
use Rattle.std.proofs.lemmas.List.{get_or_append_left, get_or-append-add}
use Rattle.grep_regex.proofs.windows.marks_of_two.Goals as goal

pub returns : goal.returns
returns g c = λ k low high may.
    let at = c.args.at in
    let may_follow = g.T.Target.may_follow c.args.target.now in
    let front = c.lanes.result in
    let back = c.lanes-2.result in
    let lane = k - at in
    let set : 128 ≤ get_or (front ++ back) lane 0 =
    ⊎_elim
    (λ (near : lane < 32).
    let same : k ≡ at + lane = omega arith in
    omega (
      arith,
      c.lanes.ensures.each lane near (subst may_follow same may),
      get_or_append_left front back 0 lane (omega (arith, near, c.lanes.ensures.long)),
    ))
    (λ (far : 32 ≤ lane).
    let same : k ≡ at + 32 + (lane - 32) = omega arith in
    let sum : 32 + (lane - 32) ≡ lane = omega arith in
    omega (
      arith,
      c.lanes-2.ensures.each (lane - 32) (omega (arith, far, high, low)) (subst may_follow same may),
      ap (λ n. get_or (front ++ back) (n + (lane - 32)) 0) c.lanes.ensures.long,
      ap (λ n. get_or (front ++ back) n 0) sum,
      get_or-append-add front back (lane - 32) 0,
    ))
    (cases_lt lane 32) in
    (c.highest_bits_of_two.ensures lane).1 set
