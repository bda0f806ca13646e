-- Where a byte is first, and bytes in which each of them is replaced.
use Rattle.std.proofs.Common.{◌≡◌, ◌≢◌, ℕ, zero, suc, ◌+◌, ◌-◌, ◌<◌, ◌≤◌, Bool, true, false, List}
use Rattle.std.proofs.Common.{[], ◌∷◌, ◌++◌, length, map, take, drop, get_or, set, append-nil}
use Rattle.std.proofs.Common.{length-drop, length-take, Option, None, Some, refl, sym, ap, ◌∙◌}
use Rattle.std.proofs.Common.{arith, if◌then◌else◌, ◌==◌}
use Rattle.std.specs.List.{position, position_or_len}
use Rattle.std.proofs.lemmas.Bool.{eq-eqb, eqb-true, le-ltb, lt-ltb, false_from_ne_true}
use Rattle.std.proofs.lemmas.List.{take_more, take_more_set, drop-set-lt, map-append, drop_more}
use Rattle.std.proofs.lemmas.List.{get_or-take, length-map, nil_from_length, take_all}
use Rattle.std.proofs.lemmas.List.{take-append-drop}
use Rattle.std.proofs.lemmas.Grind.{drop_more_same}
use Rattle.std.proofs.lemmas.Slice.{drop-put_mid, take-put_mid}
use Rattle.memchr.specs.Find.{IsFirstByte, is_byte}
use borrow.Rule.Slice.PartMut.{mid_of, put_mid}

module _ (p : ℕ → Bool) where
  -- no byte passes
  pub length-none : (xs : List ℕ) → ((k : ℕ) → k < length xs → p (get_or xs k 0) ≡ false)
      → position_or_len p xs ≡ length xs
  length-none [] none = refl
  length-none (x ∷ xs) none =
      let first : p x ≡ false = none 0 (omega arith) in
      let later = length-none xs (λ k below. none (suc k) (omega arith)) in
      rw first (omega arith)

  -- the first byte that passes is at i
  pub length-first : (xs : List ℕ) (i : ℕ) → i < length xs → p (get_or xs i 0) ≡ true
      → ((k : ℕ) → k < i → p (get_or xs k 0) ≡ false) → position_or_len p xs ≡ i
  length-first [] i some is before = absurd (omega arith)
  length-first (x ∷ xs) zero some is before = rw is refl
  length-first (x ∷ xs) (suc i) some is before =
      let first : p x ≡ false = before 0 (omega arith) in
      let later = length-first xs i (omega arith) is (λ k below. before (suc k) (omega arith)) in
      rw first (omega arith)

-- a byte that was replaced in bytes whose first ones are: so is the next
pub replaced-next : (f : ℕ → ℕ) (bytes old : List ℕ) (i y : ℕ) → i < length bytes → i < length old
    → take i bytes ≡ map f (take i old) → drop i bytes ≡ drop i old → y ≡ f (get_or bytes i 0)
    → (take (i + 1) (set bytes i y) ≡ map f (take (i + 1) old))
    × (drop (i + 1) (set bytes i y) ≡ drop (i + 1) old)
replaced-next f bytes old i y some more front back is =
    let same : get_or bytes i 0 ≡ get_or old i 0 =
    ap (λ l. get_or l 0 0) (sym (drop_more bytes i 0 some) ∙ back ∙ drop_more old i 0 more) in (
      take_more_set bytes i y some ∙ ap (λ l. l ++ y ∷ []) front
          ∙ ap (λ x. map f (take i old) ++ x ∷ []) (is ∙ ap f same)
          ∙ sym (map-append f (take i old) (get_or old i 0 ∷ []))
          ∙ ap (map f) (sym (take_more old i 0 more)),
      drop-set-lt (i + 1) bytes i y (omega arith) ∙ drop_more_same bytes old i back,
    )

pub eqb-ne : (x src : ℕ) → x ≢ src → (x == src) ≡ false
eqb-ne x src other = false_from_ne_true (x == src) (λ same. other (eqb-true x src same))

-- a byte after replacement, by whether it is one that is replaced
pub replaced-is : (src new x y : ℕ) → x ≡ src → y ≡ new → y ≡ (if x == src then new else x)
replaced-is src new x y same is = rw (eq-eqb x src same) is

pub kept-is : (src new x y : ℕ) → x ≢ src → y ≡ x → y ≡ (if x == src then new else x)
kept-is src new x y other is = rw (eqb-ne x src other) is

-- bytes without the one that is replaced stay as they are
pub map-none : (src new : ℕ) (xs : List ℕ) → ((k : ℕ) → k < length xs → (get_or xs k 0 == src)
    ≡ false) → map (λ b. if b == src then new else b) xs ≡ xs
map-none src new [] none = refl
map-none src new (x ∷ xs) none =
    let first : (x == src) ≡ false = none 0 (omega arith) in
    rw first (ap (λ l. x ∷ l) (map-none src new xs (λ k below. none (suc k) (omega arith))))

-- what a search for the byte found is its first position
pub position-found : (b : ℕ) (xs : List ℕ) (r : Option ℕ) → IsFirstByte (is_byte b) xs r
    → position (λ x. x == b) xs ≡ r
position-found b xs None none =
    let all = length-none (λ x. x == b) xs
    (λ k below. false_from_ne_true _ (none k (omega arith) below)) in
    rw all (rw (le-ltb (length xs) (length xs) (omega arith)) refl)
position-found b xs (Some i) (first, is) =
    let at = length-first (λ x. x == b) xs i first.high is
    (λ k below. false_from_ne_true _ (first.before k (omega arith) below)) in
    rw at (rw (lt-ltb i (length xs) first.high) refl)

-- bytes in which each byte from the first one on was replaced
pub replaced-whole : (src new : ℕ) (xs : List ℕ) (i : ℕ) → i ≤ length xs
    → ((k : ℕ) → k < i → (get_or xs k 0 == src) ≡ false) → put_mid i (length xs - i) xs
    (map (λ b. if b == src then new else b) (mid_of i (length xs - i) xs))
    ≡ map (λ b. if b == src then new else b) xs
replaced-whole src new xs i within none =
    let f : ℕ → ℕ = λ b. if b == src then new else b in
    let now = put_mid i (length xs - i) xs (map f (drop i xs)) in
    let len : length (map f (drop i xs)) ≡ length xs - i = length-map (drop i xs) f
    ∙ length-drop i xs in
    let back : drop (length xs) now ≡ [] =
    drop-put_mid i (length xs - i) xs (map f (drop i xs)) (length xs) (omega arith) within len
    ∙ nil_from_length (drop (length xs) xs) (length-drop (length xs) xs ∙ (omega arith)) in
    let short : (k : ℕ) → k < length (take i xs) → (get_or (take i xs) k 0 == src) ≡ false =
    λ k below.
    let low : k < i = omega (arith, length-take i xs) in
    ap (λ x. x == src) (get_or-take i xs k 0 low) ∙ none k low in
    let mid : mid_of i (length xs - i) xs ≡ drop i xs = take_all (length xs - i) (drop i xs)
    (omega (arith, length-drop i xs)) in
    ap (λ l. put_mid i (length xs - i) xs (map f l)) mid
    ∙ sym (take-append-drop (length xs) now) ∙ ap (λ l. take (length xs) now ++ l) back
    ∙ append-nil (take (length xs) now)
    ∙ take-put_mid i (length xs - i) xs (map f (drop i xs)) (length xs) (omega arith) within
    ∙ ap (λ l. l ++ map f (drop i xs)) (sym (map-none src new (take i xs) short))
    ∙ sym (map-append f (take i xs) (drop i xs)) ∙ ap (map f) (take-append-drop i xs)
