use Rattle.std.proofs.Common.{◌≡◌, ◌∙◌, ◌+◌, ◌-◌, ◌/◌, ◌%◌, ◌^◌, ap, arith, subst, sym}
use Rattle.std.proofs.lemmas.Nat.{shr-shr}
use Rattle.memchr.specs.Find.{OccursAt}
use Rattle.grep_matcher.specs.Probes.{HasBytesAt}
use Rattle.grep_matcher.proofs.ResemblanceLemmas.{lane-within}
use Rattle.grep_matcher.proofs.short.marks_from.Goals as goal

pub returns-clause-covers : goal.returns-clause-covers
returns-clause-covers c k low high occurs =
    let position = c.args.position in
    let lane = k - position in
    let same : k ≡ position + lane = omega arith in
    let marked = c.marks.ensures.covers.each lane (omega arith)
    (subst (OccursAt c.args.bytes.now.haystack.now c.args.bytes.now.literal.now) same occurs) in
    let sum : lane ≡ (c.args.from - position) + (k - c.args.from) = omega arith in
    ap (λ n. n % 2) (shr-shr c.highest_bits.result (c.args.from - position) (k - c.args.from)
    ∙ ap (λ n. c.highest_bits.result / 2 ^ n) (sym sum))
    ∙ (c.highest_bits.ensures lane).1 marked

pub returns-clause-exact : goal.returns-clause-exact
returns-clause-exact c k set =
    let bytes = c.args.bytes.now in
    let skipped = c.args.from - c.args.position in
    let same : c.args.position + (skipped + k) ≡ c.args.from + k = omega arith in
    let lane = sym (ap (λ n. n % 2) (shr-shr c.highest_bits.result skipped k)) ∙ set in
    subst (HasBytesAt bytes.haystack.now bytes.literal.now bytes.first bytes.second bytes.third) same
    (c.marks.ensures.exact (skipped + k) ((c.highest_bits.ensures (skipped + k)).0 lane))

pub returns-clause-few : goal.returns-clause-few
returns-clause-few c k set =
    let skipped = c.args.from - c.args.position in
    let lane = sym (ap (λ n. n % 2) (shr-shr c.highest_bits.result skipped k)) ∙ set in
    omega (
      arith,
      lane-within c.marks.result (skipped + k) c.marks.ensures.covers.long
          ((c.highest_bits.ensures (skipped + k)).0 lane),
    )
