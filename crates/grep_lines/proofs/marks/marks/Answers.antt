use Rattle.std.proofs.Common.{◌+◌, ◌∙◌, ℕ, ap, arith, cond, eqb, false, get_or, map, refl, w8}
use Rattle.std.proofs.lemmas.List.{get_or-map}
use Rattle.std.proofs.lemmas.Simd.{bit_mask_l, bitmask_splat, get_or-chunk, length-chunk}
use Rattle.std.specs.Int.{bit_at}
use Rattle.std.specs.Simd.Lanes.{chunk}
use Rattle.grep_lines.proofs.MaskLemmas.{is-set}
use Rattle.grep_lines.proofs.marks.marks.Goals as goal

pub returns : goal.returns
returns c k below =
    let bytes = c.args.bytes.now in
    let equals = λ (x : ℕ). eqb x c.args.byte in
    let part = chunk c.args.from 64 bytes in
    let long = length-chunk c.args.from 64 bytes c.requires in
    let mask = bitmask_splat w8 eqb part 64 c.args.byte long (omega arith) in
    let lane = get_or-map equals part k 0 false (omega (arith, long))
    ∙ ap equals (get_or-chunk c.args.from 64 bytes k 0 below) in
    is-set (get_or bytes (c.args.from + k) 0) c.args.byte _ _ refl
    (ap (λ m. bit_at m k) mask ∙ (bit_mask_l (map equals part) k ∙ ap (λ b. cond b 1 0) lane))
