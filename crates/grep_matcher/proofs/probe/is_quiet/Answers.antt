use Rattle.std.proofs.Common.{ℕ, ◌+◌, ap, ◌∙◌, arith, ⊎_elim}
use Rattle.std.specs.Int.{bit_at}
use Rattle.std.proofs.lemmas.Nat.Bits.{bit_at-zero}
use Rattle.std.proofs.lemmas.Bool.{eqb-true, cases_lt}
use Rattle.memchr.proofs.lemmas.ScanLemmas.{IsLow, IsLow-either, Nowhere-low}
use Rattle.grep_matcher.proofs.probe.is_quiet.Goals as goal

-- no bit is set, so that no lane of the four vectors is
pub returns : goal.returns
returns g c quiet =
    let clear = λ (k : ℕ). ap (λ m. bit_at m k) (eqb-true _ _ quiet) ∙ bit_at-zero k in
    let all : IsLow c.either.result = λ k below. ⊎_elim (λ low. low)
    (λ high. absurd (omega (arith, clear k, (c.highest_bits.ensures k).1 high))) (cases_lt _ 128) in
    let halves = IsLow-either c.either-front.result c.either-back.result c.either.ensures all in
    let front = IsLow-either c.marks.result c.marks-2.result c.either-front.ensures halves.0 in
    let back = IsLow-either c.marks-3.result c.marks-4.result c.either-back.ensures halves.1 in
    let at = c.args.position in
    λ k low high. ⊎_elim (λ below. Nowhere-low c.marks.ensures front.0 k low below) (λ from1.
    ⊎_elim (λ below. Nowhere-low c.marks-2.ensures front.1 k from1 (omega arith)) (λ from2.
    ⊎_elim (λ below. Nowhere-low c.marks-3.ensures back.0 k from2 (omega arith))
    (λ from3. Nowhere-low c.marks-4.ensures back.1 k from3 (omega arith))
    (cases_lt k (at + 96))) (cases_lt k (at + 64))) (cases_lt k (at + 32))
