use Rattle.std.proofs.Common.{◌+◌, cond, eqb, get_or, replicate, sym, subst, ap, ◌∙◌, w8}
use Rattle.memchr.proofs.lemmas.LaneLemmas.{HasLanes-select}
use Rattle.memchr.specs.Lanes.{HasLanes}
use Rattle.std.proofs.lemmas.Simd.{tops_compared, length-chunk, get_or-chunk}
use Rattle.std.specs.Simd.Lanes.{chunk, sel_l}
use Rattle.grep_matcher.proofs.lanes.equal_from.Goals as goal

pub returns : goal.returns
returns c =
    let bytes = c.args.bytes.now in
    let v = chunk c.args.position 32 bytes in
    let lanes = HasLanes-select eqb v c.args.byte 255 0
    (length-chunk c.args.position 32 bytes c.requires) in
    subst (λ ms. HasLanes (sel_l ms (replicate 32 255) (replicate 32 0))
    (λ k. cond (eqb (get_or bytes (c.args.position + k) 0) c.args.byte) 255 0))
    (sym (tops_compared w8 eqb v (replicate 32 c.args.byte))) (record {
      long = lanes.long;
      each = λ k below. lanes.each k below ∙ ap (λ x. cond (eqb x c.args.byte) 255 0)
          (get_or-chunk c.args.position 32 bytes k 0 below);
    })
