-- Where some bytes of a literal are, by lanes and by bits; the bytes of a short one are all of it.
use Rattle.std.proofs.Common.{◌≡◌, ℕ, ◌+◌, ◌-◌, ◌/◌, ◌<◌, ◌≤◌, List, length, Bool, true, false, cond, eqb}
use Rattle.std.proofs.Common.{sym, ap, ◌∙◌, arith, ⊎_elim, slice_index, bit_and}
use Rattle.std.specs.Int.{bit_at}
use Rattle.std.proofs.lemmas.Bool.{cases_lt, eqb-true}
use Rattle.std.proofs.lemmas.List.{get_or_past}
use Rattle.std.proofs.lemmas.Nat.{and_le_l, and_le_r}
use Rattle.std.proofs.lemmas.Nat.Bits.{bit_at_and, bit_at-lt}
use Rattle.memchr.specs.Find.{OccursAt}
use Rattle.memchr.specs.Lanes.{HasLanes}
use Rattle.grep_matcher.specs.Probes.{ResemblesAt}

-- two bytes are equal where a bit, or a lane, says so
pub same-bit : (x y bit : ℕ) (same : Bool) → eqb x y ≡ same → bit ≡ cond same 1 0 → bit ≡ 1 → x ≡ y
same-bit x y bit true equal is set = eqb-true x y equal
same-bit x y bit false equal is set = absurd (omega (arith, is, set))

pub same-lane : (x y lane : ℕ) (same : Bool) → eqb x y ≡ same → lane ≡ cond same 255 0 → 128 ≤ lane → x ≡ y
same-lane x y lane true equal is high = eqb-true x y equal
same-lane x y lane false equal is high = absurd (omega (arith, is, high))

-- a bit is set in three masks if it is in all that they have in common
pub all-set : (a b c k : ℕ) → bit_at a k ≡ 1 → bit_at b k ≡ 1 → bit_at c k ≡ 1
    → bit_at (bit_and (bit_and a b) c) k ≡ 1
all-set a b c k in_a in_b in_c =
    omega (arith, bit_at_and (bit_and a b) c k, bit_at_and a b k, in_a, in_b, in_c)

pub each-set : (a b c k : ℕ) → bit_at (bit_and (bit_and a b) c) k ≡ 1
    → (bit_at a k ≡ 1) × (bit_at b k ≡ 1) × (bit_at c k ≡ 1)
each-set a b c k set =
    let both = bit_at_and (bit_and a b) c k in
    let two = bit_at_and a b k in
    let in_a = bit_at-lt a k in
    let in_b = bit_at-lt b k in
    let in_c = bit_at-lt c k in (
      omega (arith, both, two, in_a, in_b, in_c, set),
      omega (arith, both, two, in_a, in_b, in_c, set),
      omega (arith, both, two, in_a, in_b, in_c, set),
    )

-- a lane whose highest bit is set is one of the vector
pub lane-within : (v : List ℕ) (k : ℕ) → length v ≡ 32 → 128 ≤ slice_index v k → k < 32
lane-within v k long high = ⊎_elim (λ low. low)
    (λ over. absurd (omega (arith, high, get_or_past v k 0 (omega (arith, long, over)))))
    (cases_lt k 32)

-- the highest bit of a lane is set in three vectors if it is in what they have in common, and it is a
-- lane of them
pub each-high : (a b c two all : List ℕ) (k : ℕ)
    → HasLanes two (λ k. bit_and (slice_index a k) (slice_index b k))
    → HasLanes all (λ k. bit_and (slice_index two k) (slice_index c k)) → 128 ≤ slice_index all k
    → (k < 32) × (128 ≤ slice_index a k) × (128 ≤ slice_index b k) × (128 ≤ slice_index c k)
each-high a b c two all k has_two has_all high =
    let lane = lane-within all k has_all.long high in
    let last = has_all.each k lane in
    let first = has_two.each k lane in
    let in_two = and_le_l (slice_index two k) (slice_index c k) in (
      lane,
      omega (arith, high, last, first, in_two, and_le_l (slice_index a k) (slice_index b k)),
      omega (arith, high, last, first, in_two, and_le_r (slice_index a k) (slice_index b k)),
      omega (arith, high, last, and_le_r (slice_index two k) (slice_index c k)),
    )

-- the first, the middle and the last byte are all of a literal that has no more than three
pub three-occur : (hay literal : List ℕ) (k : ℕ) → 0 < length literal → length literal ≤ 3
    → ResemblesAt hay literal k → OccursAt hay literal k
three-occur hay literal k some few has =
    let at : (i j : ℕ) → i ≡ j → slice_index hay (k + i) ≡ slice_index literal i
    → slice_index hay (k + j) ≡ slice_index literal j = λ i j same is.
    sym (ap (λ n. slice_index hay (k + n)) same) ∙ (is ∙ ap (slice_index literal) same) in
    record {
      fits = has.fits;
      reads = λ j below. ⊎_elim (λ first. at 0 j (omega (arith, first)) has.first_is)
          (λ later. ⊎_elim (λ middle. at (length literal / 2) j (omega (arith, few, later, middle)) has.second_is)
          (λ last. at (length literal - 1) j (omega (arith, few, below, later, last)) has.third_is)
          (cases_lt j (length literal - 1))) (cases_lt j 1);
    }
