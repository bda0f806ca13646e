-- What vectors find of the positions at which sequences in buckets may follow.
use Rattle.std.proofs.Common.{◌≡◌, ◌⊎◌, inl, inr, ℕ, suc, ◌+◌, ◌%◌, ◌<◌, ◌≤◌, Bool, false, List, [], ◌∷◌}
use Rattle.std.proofs.Common.{length, get_or, Some, sym, ap, ap₂, ◌∙◌, subst, ⊎_elim, arith, refl, bit_and, bit_or}
use Rattle.std.proofs.Common.{below_more, eqb}
use Rattle.std.proofs.Math.ListN.{get_or-map}
use Rattle.std.proofs.lemmas.Bool.{cases_lt, cond-false}
use Rattle.std.proofs.lemmas.List.{get_or_default, length-map}
use Rattle.std.proofs.lemmas.Nat.Bits.{bit_at_ones, bit_at-zero}
use Rattle.std.specs.Global.{Global}
use Rattle.std.specs.Int.{bit_at}
use Rattle.std.specs.Prelude.{Vec}
use Rattle.memchr.proofs.lemmas.BitLemmas.{or_ge_left, or_ge_right}
use Rattle.memchr.specs.Find.{Nowhere}
use Rattle.regex_literal.proofs.lemmas.BitLemmas.{bit_at_both}
use Rattle.regex_literal.specs.Lanes.{Covers, HasLanes, all_or_none}
use Rattle.regex_literal.specs.Nibbles.{buckets_of}
use Rattle.grep_matcher.specs.declared.byte_set.ByteSet.{ByteSet}
use Rattle.grep_regex.specs.Buckets.{AreInBuckets, AreMarked, HasInBucket, MayFollow}
use Rattle.grep_regex.specs.Choices.{items_of}
use Rattle.grep_regex.specs.Classes.{any_decision, decision, either_decision}
use Rattle.grep_regex.specs.Decisions.{IsPassed, MayMatch}
use Rattle.grep_regex.proofs.PrefixLemmas.{next-may, not-false}

-- the sets of a sequence
pub items-at : (choices : List (Vec ByteSet Global)) (i : ℕ) (sets : Vec ByteSet Global) → i < length choices
    → sets ≡ get_or choices i sets → sets.items ≡ get_or (items_of choices) i []
items-at choices i sets inside is =
    let all : length (items_of choices) ≡ length choices = length-map choices (λ (s : Vec ByteSet Global). s.items) in
    ap (λ (s : Vec ByteSet Global). s.items) is
    ∙ (sym (get_or-map (λ (s : Vec ByteSet Global). s.items) choices i sets)
    ∙ get_or_default (items_of choices) i sets.items [] (omega (arith, all, inside)))

-- the buckets of a table that has all bytes
pub full-buckets : (choices : List (List (List Bool))) (index : ℕ) (low high : List ℕ)
    → ((byte : ℕ) → byte < 128 → buckets_of low high byte ≡ 255) → AreInBuckets choices index low high
full-buckets choices index low high full i inside within byte below has =
    ap (λ n. bit_at n (i % 8)) (full byte below) ∙ bit_at_ones 8 (i % 8) (omega arith)

-- one more sequence whose bucket has the members of a set
pub buckets-more : (choices : List (Vec ByteSet Global)) (index : ℕ) (low high : List ℕ) (n : ℕ)
    (sets : Vec ByteSet Global) → n < length choices → sets ≡ get_or choices n sets
    → ((i : ℕ) → i < n → index < length (get_or (items_of choices) i [])
    → HasInBucket (get_or (get_or (items_of choices) i []) index []) (i % 8) low high)
    → (index < length sets.items → HasInBucket (get_or sets.items index []) (n % 8) low high)
    → (i : ℕ) → i < n + 1 → index < length (get_or (items_of choices) i [])
    → HasInBucket (get_or (get_or (items_of choices) i []) index []) (i % 8) low high
buckets-more choices index low high n sets inside is before here =
    let P : ℕ → Type 0 = λ i. index < length (get_or (items_of choices) i [])
    → HasInBucket (get_or (get_or (items_of choices) i []) index []) (i % 8) low high in
    below_more P n before
    (subst (λ (s : List (List Bool)). index < length s → HasInBucket (get_or s index []) (n % 8) low high)
    (items-at choices n sets inside is) here)

-- and one more that has as many sets
pub least-more : (choices : List (Vec ByteSet Global)) (n size least : ℕ) (sets : Vec ByteSet Global)
    → n < length choices → sets ≡ get_or choices n sets
    → ((i : ℕ) → i < n → size ≤ length (get_or (items_of choices) i [])) → least ≤ size → least ≤ length sets.items
    → (i : ℕ) → i < n + 1 → least ≤ length (get_or (items_of choices) i [])
least-more choices n size least sets inside is before less here =
    let P : ℕ → Type 0 = λ i. least ≤ length (get_or (items_of choices) i []) in
    below_more P n (λ i below. omega (arith, less, before i below))
    (subst (λ (s : List (List Bool)). least ≤ length s) (items-at choices n sets inside is) here)

-- nothing follows of any sequence
none-follows : (choices : List (List (List Bool))) (hay : List ℕ) (p : ℕ)
    → ((i : ℕ) → i < length choices → decision (get_or choices i []) hay p ≡ Some false)
    → any_decision choices hay p ≡ Some false
none-follows [] hay p none = refl
none-follows (sets ∷ choices) hay p none =
    ap₂ either_decision (none 0 (omega arith))
    (none-follows choices hay p (λ i inside. none (suc i) (omega (arith, inside))))

-- past the sets that are looked up each bucket is set
pub all-marked : (choices : List (List (List Bool))) (index : ℕ) (hay : List ℕ) (at : ℕ) (signs buckets : List ℕ)
    → HasLanes signs (λ k. 0) → HasLanes buckets (λ k. 255) → AreMarked choices index hay at signs buckets
all-marked choices index hay at signs buckets none all = record {
  signs_long = none.long;
  buckets_long = all.long;
  each = λ k i below inside may. inr (ap (λ n. bit_at n (i % 8)) (all.each k below) ∙ bit_at_ones 8 (i % 8) (omega arith));
}

-- the marks of a set, by those of the sets after it
pub more-marked : (choices : List (List (List Bool))) (n m : ℕ) (hay low high : List ℕ) (at then : ℕ)
    (bytes signs later v w : List ℕ) → m ≡ suc n → then ≡ at + 1
    → ((i : ℕ) → i < length choices → n < length (get_or choices i [])) → at + 32 ≤ length hay
    → AreInBuckets choices n low high → HasLanes bytes (λ k. get_or hay (at + k) 0)
    → AreMarked choices m hay then signs later
    → HasLanes v (λ k. bit_or (get_or bytes k 0) (get_or signs k 0))
    → HasLanes w (λ k. bit_and (buckets_of low high (get_or bytes k 0)) (get_or later k 0))
    → AreMarked choices n hay at v w
more-marked choices n m hay low high at then bytes signs later v w next one_on long room has loaded after either both =
    record {
      signs_long = either.long;
      buckets_long = both.long;
      each = λ k i below inside may.
          let sets = get_or choices i [] in
          let byte : get_or bytes k 0 ≡ get_or hay (at + k) 0 = loaded.each k below in
          let far : at + k + 1 ≡ then + k = omega (arith, one_on) in
          let same : suc n ≡ m = sym next in
          ⊎_elim
          (λ big. inl (omega (
            arith,
            big,
            byte,
            either.each k below,
            or_ge_left (get_or bytes k 0) (get_or signs k 0),
          )))
          (λ one. ⊎_elim
          (λ sign. inl (omega (
            arith,
            sign,
            either.each k below,
            or_ge_right (get_or bytes k 0) (get_or signs k 0),
          )))
          (λ bit. inr (ap (λ x. bit_at x (i % 8)) (both.each k below)
          ∙ bit_at_both (buckets_of low high (get_or bytes k 0)) (get_or later k 0) (i % 8)
          (ap (λ b. bit_at (buckets_of low high b) (i % 8)) byte
          ∙ has i inside (long i inside) (get_or hay (at + k) 0) one.0 one.1) bit))
          (after.each k i below inside (subst (λ j. MayMatch sets j hay (then + k)) same
          (subst (MayMatch sets (suc n) hay) far one.2))))
          (next-may sets n hay (at + k) (long i inside) (omega (arith, room)) may);
    }

-- the marks of the last set that is looked up
pub last-marked : (choices : List (List (List Bool))) (n : ℕ) (hay low high : List ℕ) (at : ℕ) (bytes all w : List ℕ)
    → ((i : ℕ) → i < length choices → n < length (get_or choices i [])) → at + 32 ≤ length hay
    → AreInBuckets choices n low high → HasLanes bytes (λ k. get_or hay (at + k) 0) → HasLanes all (λ k. 255)
    → HasLanes w (λ k. bit_and (buckets_of low high (get_or bytes k 0)) (get_or all k 0))
    → AreMarked choices n hay at bytes w
last-marked choices n hay low high at bytes all w long room has loaded full both = record {
  signs_long = loaded.long;
  buckets_long = both.long;
  each = λ k i below inside may.
      let byte : get_or bytes k 0 ≡ get_or hay (at + k) 0 = loaded.each k below in
      ⊎_elim
      (λ big. inl (omega (arith, big, byte)))
      (λ one. inr (ap (λ x. bit_at x (i % 8)) (both.each k below)
      ∙ bit_at_both (buckets_of low high (get_or bytes k 0)) (get_or all k 0) (i % 8)
      (ap (λ b. bit_at (buckets_of low high b) (i % 8)) byte
      ∙ has i inside (long i inside) (get_or hay (at + k) 0) one.0 one.1)
      (ap (λ n. bit_at n (i % 8)) (full.each k below) ∙ bit_at_ones 8 (i % 8) (omega arith))))
      (next-may (get_or choices i []) n hay (at + k) (long i inside) (omega (arith, room)) may);
}

-- a lane is set where a byte isn't ASCII, or a bucket may follow
pub marks-cover : (choices : List (List (List Bool))) (hay : List ℕ) (at : ℕ) (signs buckets filled v : List ℕ)
    → AreMarked choices 0 hay at signs buckets → HasLanes filled (λ k. all_or_none (get_or buckets k 0))
    → HasLanes v (λ k. bit_or (get_or signs k 0) (get_or filled k 0)) → Covers (MayFollow choices hay) at v
marks-cover choices hay at signs buckets filled v marked all either = record {
  long = either.long;
  each = λ k below may. ⊎_elim
      (λ (low : get_or v k 0 < 128). absurd (may (none-follows choices hay (at + k) (λ i inside.
      not-false _ (λ follows. ⊎_elim
      (λ sign. omega (
        arith,
        sign,
        low,
        either.each k below,
        or_ge_left (get_or signs k 0) (get_or filled k 0),
      ))
      (λ bit. ⊎_elim
      (λ none. omega (arith, bit, ap (λ x. bit_at x (i % 8)) none, bit_at-zero (i % 8)))
      (λ (some : 0 < get_or buckets k 0).
      let test : eqb (get_or buckets k 0) 0 ≡ false = grind (arith, some) in
      let filled_is : all_or_none (get_or buckets k 0) ≡ 255 = cond-false (eqb (get_or buckets k 0) 0) 0 255 test in
      omega (
        arith,
        low,
        either.each k below,
        all.each k below,
        filled_is,
        or_ge_right (get_or signs k 0) (get_or filled k 0),
      ))
      (zero-or-more (get_or buckets k 0)))
      (marked.each k i below inside follows))))))
      (λ high. high)
      (cases_lt (get_or v k 0) 128);
}
  where
    zero-or-more : (n : ℕ) → (n ≡ 0) ⊎ (0 < n)
    zero-or-more n = ⊎_elim (λ none. inl (omega (arith, none))) (λ some. inr (omega (arith, some))) (cases_lt n 1)

-- where nothing may follow, all is passed
pub unmarked-passed : (choices : List (List (List Bool))) (hay : List ℕ) (from to : ℕ)
    → Nowhere (MayFollow choices hay) from to → IsPassed (any_decision choices hay) from to
unmarked-passed choices hay from to none i low below = not-false (any_decision choices hay i) (none i low below)
