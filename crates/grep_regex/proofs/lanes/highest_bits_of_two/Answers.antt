use Rattle.std.proofs.Common.{◌≡◌, ◌↔◌, ℕ, ◌%◌, ◌^◌, ◌≤◌, ◌++◌, List, cond, get_or, leb, length}
use Rattle.std.proofs.Common.{length-append, map, replicate, sym, ap, subst, ◌∙◌, arith}
use Rattle.std.proofs.lemmas.Simd.{pick_l_whole}
use Rattle.std.specs.Int.{bit_at}
use Rattle.std.specs.Simd.Lanes.{mask_l, zip2, top}
use Rattle.regex_literal.proofs.lemmas.LaneLemmas.{bit_at-mask_l, top_bitmask}
use Rattle.grep_regex.proofs.lanes.highest_bits_of_two.Goals as goal

pub returns : goal.returns
returns c k =
    let v = c.args.a ++ c.args.b in
    let long : length v ≡ 64 = omega (arith, length-append c.args.a c.args.b, c.fits-a.0, c.fits-b.0) in
    let mask = λ (lanes : List ℕ).
    mask_l (map (top 7) (zip2 (λ a b. cond (leb a b) 255 0) (replicate 64 128) lanes)) % 2 ^ 64 in
    subst (λ m. (bit_at m k ≡ 1) ↔ (128 ≤ get_or v k 0))
    (sym (ap mask (pick_l_whole 0 v 64 long) ∙ top_bitmask v 64 long (omega arith))) (bit_at-mask_l v k)
