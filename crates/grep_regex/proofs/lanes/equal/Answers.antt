use Rattle.std.proofs.Common.{cond, eqb, get_or, replicate, sym, subst, w8}
use Rattle.std.proofs.lemmas.Simd.{tops_compared}
use Rattle.std.specs.Simd.Lanes.{sel_l}
use Rattle.regex_literal.proofs.lemmas.LaneLemmas.{HasLanes-select}
use Rattle.regex_literal.specs.Lanes.{HasLanes}
use Rattle.grep_regex.proofs.lanes.equal.Goals as goal

pub returns : goal.returns
returns c =
    let v = c.args.lanes in
    let byte = c.args.byte in
    subst (λ ms. HasLanes (sel_l ms (replicate 32 255) (replicate 32 0)) (λ k. cond (eqb (get_or v k 0) byte) 255 0))
    (sym (tops_compared w8 eqb v (replicate 32 byte))) (HasLanes-select eqb v byte 255 0 c.fits-lanes.0)
