use Rattle.std.proofs.Common.{◌≡◌, ◌∙◌, ap, arith, bit_or, cond, eq-eqb, eqb, get_or, w8, Fits}
use Rattle.std.proofs.lemmas.Simd.{Each1-get_or}
use Rattle.regex_literal.specs.Lanes.{all_or_none}
use Rattle.grep_regex.proofs.PrefixLemmas.{high-lane, member-lane}
use Rattle.grep_regex.proofs.prefix.lanes_by.Goals as goal

pub returns : goal.returns
returns c =
    let bytes = c.load-bytes in
    let v = c.either_or_both.result in
    let lanes = c.either_or_both.ensures in
    let fold = c.args.fold.now in
    record {
      long = lanes.long;
      high = λ k below over.
          high-lane v bytes.result c.args.later c.lanes.result lanes k below
          (omega (arith, bytes.ensures.each k below, over));
      member = λ k below has set.
          let same : bit_or (get_or bytes.result k 0) fold.mask ≡ fold.value =
          ap (λ b. bit_or b fold.mask) (bytes.ensures.each k below) ∙ has in
          let equal : cond (eqb (bit_or (get_or bytes.result k 0) fold.mask) fold.value) 255 0 ≡ all_or_none 1 =
          ap (λ t. cond t 255 0) (eq-eqb (bit_or (get_or bytes.result k 0) fold.mask) fold.value same) in
          member-lane v bytes.result c.args.later c.lanes.result lanes k 1 below
          (Each1-get_or (Fits w8) c.args.later k 0 (omega (arith, c.fits-later.0)) c.fits-later.1).fits
          (c.lanes.ensures.each k below ∙ equal) (omega arith) set;
    }
