use Rattle.std.proofs.Common.{◌≡◌, ◌+◌, ◌∙◌, arith, refl}
use Rattle.std.specs.Prelude.{slice_range}
use Rattle.grep_matcher.proofs.PartLemmas.{found-later}
use Rattle.grep_matcher.proofs.ResemblanceLemmas.{three-occur}
use Rattle.grep_matcher.proofs.literal.LiteralMatcher.first.Goals as goal

pub returns-in-Resembles : goal.returns-in-Resembles
returns-in-Resembles c =
    let part = slice_range c.args.haystack.now 0 c.near_end-end.result in
    let literal = c.needle-literal.ensures ∙ c.self.view_is in
    let nearest = rw literal at c.in-Resembles.ensures in
    let occurs = three-occur part c.args.self.now c.in-Resembles.at
    (rw literal at (c.has_three.ensures.some c.if-has_three.true))
    (rw literal at (c.has_three.ensures.few c.if-has_three.true)) nearest.known in
    let same : 0 + c.in-Resembles.at ≡ c.in-Resembles.at = omega arith in
    rw same at (found-later c.args.haystack.now c.args.self.now 0 c.near_end-end.result
    (omega arith) (omega (arith, c.near_end-end.ensures)) (λ k low below. absurd (omega arith))
    c.in-Resembles.at
    (record { low = omega arith; high = omega (arith, occurs.fits); before = nearest.passed }, occurs))
