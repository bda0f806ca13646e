use Rattle.std.proofs.Common.{◌≡◌, ℕ, ◌+◌, ◌-◌, ◌<◌, ◌/◌, ◌%◌, ◌^◌, arith, refl, ap, sym, ◌∙◌, slice_index, length}
use Rattle.std.proofs.Common.{cond, eqb, bit_and}
use Rattle.std.proofs.lemmas.Bool.{eq-eqb}
use Rattle.std.proofs.lemmas.Nat.{shr-shr}
use Rattle.grep_matcher.proofs.ResemblanceLemmas.{all-set, each-set, same-bit}
use Rattle.grep_matcher.proofs.few.half_marks.Goals as goal

pub returns-clause-covers : goal.returns-clause-covers
returns-clause-covers c k low below occurs =
    let hay = c.args.haystack.now in
    let literal = c.args.literal.now in
    let position = c.args.position in
    let lane = k - position in
    let within : lane < 16 = omega arith in
    let set : (index bit : ℕ) → index < length literal
    → bit ≡ cond (eqb (slice_index hay (position + index + lane)) (slice_index literal index)) 1 0
    → bit ≡ 1 = λ index bit inside is.
    let here : position + index + lane ≡ k + index = omega arith in
    is ∙ ap (λ same. cond same 1 0) (eq-eqb _ _ (ap (slice_index hay) here ∙ occurs.reads index inside)) in
    let first : position + 0 + lane ≡ position + lane = omega arith in
    let all = all-set c.equal_marks.result c.equal_marks-2.result c.equal_marks-3.result lane
    (set 0 _ c.requires.some (c.equal_marks.ensures.each lane within
    ∙ ap (λ n. cond (eqb (slice_index hay n) (slice_index literal 0)) 1 0) (sym first)))
    (set (length literal / 2) _ (omega arith) (c.equal_marks-2.ensures.each lane within))
    (set (length literal - 1) _ (omega arith) (c.equal_marks-3.ensures.each lane within)) in
    let marks = bit_and (bit_and c.equal_marks.result c.equal_marks-2.result) c.equal_marks-3.result in
    let sum : lane ≡ (c.args.from - position) + (k - c.args.from) = omega arith in
    ap (λ n. n % 2) (shr-shr marks (c.args.from - position) (k - c.args.from)
    ∙ ap (λ n. marks / 2 ^ n) (sym sum)) ∙ all

pub returns-clause-exact : goal.returns-clause-exact
returns-clause-exact c k set =
    let hay = c.args.haystack.now in
    let literal = c.args.literal.now in
    let skipped = c.args.from - c.args.position in
    let marks = bit_and (bit_and c.equal_marks.result c.equal_marks-2.result) c.equal_marks-3.result in
    let each = each-set c.equal_marks.result c.equal_marks-2.result c.equal_marks-3.result (skipped + k)
    (sym (ap (λ n. n % 2) (shr-shr marks skipped k)) ∙ set) in
    let below = c.equal_marks.ensures.few (skipped + k) each.0 in
    let move : (index : ℕ) → c.args.from + k + index ≡ c.args.position + index + (skipped + k) =
    λ index. omega arith in
    let first : c.args.from + k + 0 ≡ c.args.position + (skipped + k) = omega arith in
    record {
      fits = omega (arith, below, c.requires.room);
      first_is = ap (slice_index hay) first
          ∙ same-bit _ _ _ _ refl (c.equal_marks.ensures.each (skipped + k) below) each.0;
      second_is = ap (slice_index hay) (move (length literal / 2))
          ∙ same-bit _ _ _ _ refl (c.equal_marks-2.ensures.each (skipped + k) below) each.1;
      third_is = ap (slice_index hay) (move (length literal - 1))
          ∙ same-bit _ _ _ _ refl (c.equal_marks-3.ensures.each (skipped + k) below) each.2;
    }

pub returns-clause-few : goal.returns-clause-few
returns-clause-few c k set =
    let skipped = c.args.from - c.args.position in
    let marks = bit_and (bit_and c.equal_marks.result c.equal_marks-2.result) c.equal_marks-3.result in
    let each = each-set c.equal_marks.result c.equal_marks-2.result c.equal_marks-3.result (skipped + k)
    (sym (ap (λ n. n % 2) (shr-shr marks skipped k)) ∙ set) in
    omega (arith, c.equal_marks.ensures.few (skipped + k) each.0)
