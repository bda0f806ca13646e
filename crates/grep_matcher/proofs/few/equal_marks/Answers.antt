use Rattle.std.proofs.Common.{◌≡◌, ◌∙◌, ℕ, ap, arith, cond, eqb, false, get_or, map, w8, ⊎_elim}
use Rattle.std.proofs.lemmas.Bool.{cases_lt}
use Rattle.std.proofs.lemmas.List.{get_or-map, get_or_past, length-map}
use Rattle.std.proofs.lemmas.Simd.{bit_mask_l, bitmask_splat, get_or-chunk, length-chunk}
use Rattle.std.specs.Int.{bit_at}
use Rattle.std.specs.Simd.Lanes.{chunk}
use Rattle.grep_matcher.proofs.few.equal_marks.Goals as goal

pub returns-clause-each : goal.returns-clause-each
returns-clause-each c k below =
    let bytes = c.args.bytes.now in
    let equals = λ (x : ℕ). eqb x c.args.byte in
    let part = chunk c.args.from 16 bytes in
    let long = length-chunk c.args.from 16 bytes c.requires in
    let mask = bitmask_splat w8 eqb part 16 c.args.byte long (omega arith) in
    let lane = get_or-map equals part k 0 false (omega (arith, long))
    ∙ ap equals (get_or-chunk c.args.from 16 bytes k 0 below) in
    ap (λ m. bit_at m k) mask ∙ (bit_mask_l (map equals part) k ∙ ap (λ b. cond b 1 0) lane)

pub returns-clause-few : goal.returns-clause-few
returns-clause-few c k set =
    let equals = λ (x : ℕ). eqb x c.args.byte in
    let part = chunk c.args.from 16 c.args.bytes.now in
    let long = length-chunk c.args.from 16 c.args.bytes.now c.requires in
    let mask = bitmask_splat w8 eqb part 16 c.args.byte long (omega arith) in
    ⊎_elim (λ low. low) (λ high.
    let none : get_or (map equals part) k false ≡ false =
    get_or_past (map equals part) k false (omega (arith, length-map part equals, long, high)) in
    absurd (omega (
      arith,
      set,
      ap (λ m. bit_at m k) mask ∙ (bit_mask_l (map equals part) k
          ∙ ap (λ b. cond b 1 0) none),
    ))) (cases_lt k 16)
