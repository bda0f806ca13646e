use Rattle.std.proofs.Common.{◌≡◌, ℕ, ◌+◌, arith, refl, ap, ◌∙◌, slice_index}
use Rattle.grep_matcher.proofs.ResemblanceLemmas.{each-high, same-lane}
use Rattle.grep_matcher.proofs.probe.ThreeBytesBytes.marks.Goals as goal

pub returns-clause-exact : goal.returns-clause-exact
returns-clause-exact c k high =
    let bytes = c.args.self.now in
    let hay = bytes.haystack.now in
    let each = each-high c.equal_from.result c.equal_from-2.result c.equal_from-3.result c.both.result
    c.both-2.result k c.both.ensures c.both-2.ensures high in
    let move : (index : ℕ) → c.args.position + k + index ≡ c.args.position + index + k = λ index. omega arith in
    record {
      fits = omega (arith, each.0, c.requires.room);
      first_is = ap (slice_index hay) (move bytes.first)
          ∙ (same-lane _ _ _ _ refl (c.equal_from.ensures.each k each.0) each.1 ∙ bytes.first_is);
      second_is = ap (slice_index hay) (move bytes.second)
          ∙ (same-lane _ _ _ _ refl (c.equal_from-2.ensures.each k each.0) each.2 ∙ bytes.second_is);
      third_is = ap (slice_index hay) (move bytes.third)
          ∙ (same-lane _ _ _ _ refl (c.equal_from-3.ensures.each k each.0) each.3 ∙ bytes.third_is);
    }
