use Rattle.std.proofs.Common.{eqb, get_or, replicate, sym, subst, w8}
use Rattle.std.proofs.lemmas.Simd.{tops_compared}
use Rattle.std.specs.Simd.Lanes.{sel_l}
use Rattle.regex_literal.proofs.lemmas.LaneLemmas.{HasLanes-select}
use Rattle.regex_literal.specs.Lanes.{HasLanes, all_or_none}
use Rattle.grep_regex.proofs.lanes.nonzero.Goals as goal

pub returns : goal.returns
returns c =
    let v = c.args.lanes in
    subst (λ ms. HasLanes (sel_l ms (replicate 32 0) (replicate 32 255)) (λ k. all_or_none (get_or v k 0)))
    (sym (tops_compared w8 eqb v (replicate 32 0))) (HasLanes-select eqb v 0 0 255 c.fits-lanes.0)
