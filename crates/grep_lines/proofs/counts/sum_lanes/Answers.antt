use Rattle.std.proofs.Common.{◌+◌, arith, ap, subst, sym, ◌∙◌}
use Rattle.std.proofs.lemmas.List.{map-id}
use Rattle.std.proofs.lemmas.Simd.{bytes_below, fold-sum, sum_bound, sum_fits}
use Rattle.grep_lines.proofs.counts.sum_lanes.Goals as goal
use lib.Lanes.{Steps, fold_l}
use mir.Syntax.{w16}
use mir.Val.{Fits}

pub overflow_add-result : goal.overflow_add-result
overflow_add-result c =
    let few = sum_bound 255 c.args.lanes (bytes_below c.args.lanes c.fits-lanes.1) in
    subst (λ xs. Steps (λ s x. Fits w16 (s + x)) (λ s x. s + x) 0 xs) (sym (map-id c.args.lanes))
    (sum_fits w16 0 c.args.lanes (omega arith))

pub returns : goal.returns
returns c = ap (fold_l (λ s x. s + x) 0) (map-id c.args.lanes)
    ∙ omega (arith, fold-sum 0 c.args.lanes)
