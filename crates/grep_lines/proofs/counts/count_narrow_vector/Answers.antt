use Rattle.std.proofs.Common.{ℕ, eqb, ap, drop, ◌∙◌, ◌/◌, ◌^◌, arith, w8}
use Rattle.std.specs.Int.RustNames.{count_ones}
use Rattle.std.proofs.lemmas.Simd.{bitmask_splat, ones-mask_l}
use Rattle.grep_lines.proofs.LaneLemmas.{mask-shifted}
use Rattle.grep_lines.proofs.counts.count_narrow_vector.Goals as goal

pub returns : goal.returns
returns c =
    let equals = λ (x : ℕ). eqb x c.args.terminator in
    ap (λ m. count_ones (m / 2 ^ c.args.skipped))
    (bitmask_splat w8 eqb c.args.bytes 16 c.args.terminator c.fits-bytes.0 (omega arith))
    ∙ (ap count_ones (mask-shifted equals c.args.skipped c.args.bytes)
    ∙ ones-mask_l equals (drop c.args.skipped c.args.bytes))
