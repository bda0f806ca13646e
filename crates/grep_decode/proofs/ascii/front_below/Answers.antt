use Rattle.std.proofs.Common.{leb, not, arith, refl, ◌≡◌, ◌∙◌}
use Rattle.std.specs.List.{prefix_len}
use Rattle.std.proofs.lemmas.List.Sums.{prefix_len-le-length}
use Rattle.grep_decode.proofs.AsciiBlockLemmas.{below-front, front-length}
use Rattle.grep_decode.proofs.ascii.front_below.Goals as goal

pub returns-clause-within : goal.returns-clause-within
returns-clause-within c =
    let count : c.first_set.result ≡ prefix_len (λ b. not (leb c.args.bound b)) c.args.bytes =
    c.first_set.ensures ∙ front-length c.args.bound c.args.bytes _ c.fits-bytes.0 refl in
    omega (
      arith,
      count,
      c.fits-bytes.0,
      prefix_len-le-length (λ b. not (leb c.args.bound b)) c.args.bytes,
    )

pub returns-clause-below : goal.returns-clause-below
returns-clause-below c = λ n within.
    let count : c.first_set.result ≡ prefix_len (λ b. not (leb c.args.bound b)) c.args.bytes =
    c.first_set.ensures ∙ front-length c.args.bound c.args.bytes _ c.fits-bytes.0 refl in
    below-front c.args.bound c.args.bytes n (omega (arith, count, within))
