use Rattle.std.proofs.Common.{◌∙◌, ◌+◌, ◌%◌, ◌/◌, ap, ap₂, get_or, arith, w8, Fits, bit_and}
use Rattle.std.proofs.lemmas.Simd.{Each1-get_or}
use Rattle.regex_literal.specs.Lanes.{all_or_none}
use Rattle.regex_literal.specs.Nibbles.{buckets_of}
use Rattle.grep_regex.proofs.PrefixLemmas.{high-lane, member-lane}
use Rattle.grep_regex.proofs.prefix.lanes_of.Goals as goal

pub returns : goal.returns
returns c =
    let bytes = c.load-bytes in
    let v = c.either_or_both.result in
    let lanes = c.either_or_both.ensures in
    record {
      long = lanes.long;
      high = λ k below over.
          high-lane v bytes.result c.args.later c.in_common-members.result lanes k below
          (omega (arith, bytes.ensures.each k below, over));
      member = λ k below some set.
          let is = bytes.ensures.each k below in
          let at = c.args.at + k in
          let b = get_or c.args.haystack.now at 0 in
          let low = c.by_low_half.ensures.each k below ∙ ap (λ x. get_or c.args.table.now.low (x % 16) 0) is in
          let high = c.by_high_half.ensures.each k below ∙ ap (λ x. get_or c.args.table.now.high (x / 16) 0) is in
          member-lane v bytes.result c.args.later c.in_common-members.result lanes k
          (buckets_of c.args.table.now.low c.args.table.now.high b) below
          (Each1-get_or (Fits w8) c.args.later k 0 (omega (arith, c.fits-later.0)) c.fits-later.1).fits
          (c.in_common-members.ensures.each k below ∙ ap all_or_none (ap₂ bit_and low high)) some set;
    }
