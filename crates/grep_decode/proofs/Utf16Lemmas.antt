-- What bytes of UTF-16 spell, one scalar value at a time.
use Rattle.std.proofs.Common.{◌≡◌, ◌⊎◌, ℕ, ◌<◌, ◌≤◌, Bool, true, false, cond, ◌&&◌, List, [], ◌∷◌}
use Rattle.std.proofs.Common.{◌++◌, length, drop, slice_index, encode_utf8, encode_utf8_all, refl}
use Rattle.std.proofs.Common.{sym, ap, inl, inr, ◌∙◌, arith}
use Rattle.std.proofs.lemmas.Bool.Decides.{nat_tests}
use Rattle.std.specs.Char.Utf16.{is_low_surrogate, is_high_surrogate, surrogate_pair_char}
use Rattle.grep_decode.specs.declared.byte_order.ByteOrder.{ByteOrder}
use Rattle.grep_decode.specs.Decoded.{IsUnfinishedUtf16, odd_scalars, unit_of, units_of}
use Rattle.grep_decode.specs.Decoded.{has_odd_byte, alone, scalars_of, utf16_text}
use Rattle.grep_decode.specs.Spellings.{replacement}

-- a unit that begins no pair
pub scalars_of-alone : (odd : Bool) (unit : ℕ) (units : List ℕ) → is_high_surrogate unit ≡ false
    → scalars_of odd (unit ∷ units) ≡ alone unit ∷ scalars_of odd units
unfolding scalars_of
scalars_of-alone odd unit [] not =
    ap (λ b. cond b (replacement ∷ []) (alone unit ∷ odd_scalars odd)) not
scalars_of-alone odd unit (next ∷ units) not =
    ap (λ b. cond (b && is_low_surrogate next) (surrogate_pair_char unit next
    ∷ scalars_of odd units) (alone unit ∷ scalars_of odd (next ∷ units))) not

-- a leading surrogate with no trailing one after it
pub scalars_of-high : (odd : Bool) (unit next : ℕ) (units : List ℕ) → is_high_surrogate unit ≡ true
    → is_low_surrogate next ≡ false
    → scalars_of odd (unit ∷ next ∷ units) ≡ alone unit ∷ scalars_of odd (next ∷ units)
unfolding scalars_of
scalars_of-high odd unit next units lead not =
    ap (λ b. cond (b && is_low_surrogate next) (surrogate_pair_char unit next
    ∷ scalars_of odd units) (alone unit ∷ scalars_of odd (next ∷ units))) lead
    ∙ ap (λ b. cond b (surrogate_pair_char unit next ∷ scalars_of odd units)
    (alone unit ∷ scalars_of odd (next ∷ units))) not

pub scalars_of-pair : (odd : Bool) (unit next : ℕ) (units : List ℕ) → is_high_surrogate unit ≡ true
    → is_low_surrogate next ≡ true
    → scalars_of odd (unit ∷ next ∷ units) ≡ surrogate_pair_char unit next ∷ scalars_of odd units
unfolding scalars_of
scalars_of-pair odd unit next units lead also =
    ap (λ b. cond (b && is_low_surrogate next) (surrogate_pair_char unit next
    ∷ scalars_of odd units) (alone unit ∷ scalars_of odd (next ∷ units))) lead
    ∙ ap (λ b. cond b (surrogate_pair_char unit next ∷ scalars_of odd units)
    (alone unit ∷ scalars_of odd (next ∷ units))) also

-- what a unit is
pub high_is : (u : ℕ) → 0xD800 ≤ u → u < 0xDC00 → is_high_surrogate u ≡ true
high_is u low high = grind (arith, nat_tests)

pub low_is : (u : ℕ) → 0xDC00 ≤ u → u < 0xE000 → is_low_surrogate u ≡ true
low_is u low high = grind (arith, nat_tests)

pub not_low : (u : ℕ) → (u < 0xDC00) ⊎ (0xE000 ≤ u) → is_low_surrogate u ≡ false
not_low u h = grind (arith, nat_tests)

pub not_high : (u : ℕ) → (u < 0xD800) ⊎ (0xDC00 ≤ u) → is_high_surrogate u ≡ false
not_high u h = grind (arith, nat_tests)

pub alone-plain : (u : ℕ) → (u < 0xD800) ⊎ (0xE000 ≤ u) → alone u ≡ u
alone-plain u h = grind (arith, nat_tests)

pub alone-surrogate : (u : ℕ) → 0xD800 ≤ u → u < 0xE000 → alone u ≡ replacement
alone-surrogate u low high = grind (arith, nat_tests)

-- a unit at the front that begins no pair
pub text-alone : (order : ByteOrder) (xs more : List ℕ) (u : ℕ) → 2 ≤ length xs → u
    ≡ unit_of order (slice_index xs 0) (slice_index xs 1) → is_high_surrogate u ≡ false
    → utf16_text order (xs ++ more) ≡ encode_utf8 (alone u) ++ utf16_text order (drop 2 xs ++ more)
unfolding utf16_text units_of has_odd_byte
text-alone order [] more u long is not = absurd (omega arith)
text-alone order (a ∷ []) more u long is not = absurd (omega arith)
text-alone order (a ∷ b ∷ xs) more u long is not =
    let odd = has_odd_byte (xs ++ more) in
    let units = units_of order (xs ++ more) in
    ap (λ v. encode_utf8_all (scalars_of odd (v ∷ units))) (sym is)
    ∙ ap encode_utf8_all (scalars_of-alone odd u units not)

-- a leading surrogate, and then a unit that is no trailing one
pub text-high : (order : ByteOrder) (xs more : List ℕ) (u v : ℕ) → 4 ≤ length xs → u
    ≡ unit_of order (slice_index xs 0) (slice_index xs 1)
    → v ≡ unit_of order (slice_index xs 2) (slice_index xs 3) → is_high_surrogate u ≡ true
    → is_low_surrogate v ≡ false
    → utf16_text order (xs ++ more) ≡ encode_utf8 (alone u) ++ utf16_text order (drop 2 xs ++ more)
unfolding utf16_text units_of has_odd_byte
text-high order [] more u v long is then lead not = absurd (omega arith)
text-high order (a ∷ []) more u v long is then lead not = absurd (omega arith)
text-high order (a ∷ b ∷ []) more u v long is then lead not = absurd (omega arith)
text-high order (a ∷ b ∷ c ∷ []) more u v long is then lead not = absurd (omega arith)
text-high order (a ∷ b ∷ c ∷ d ∷ xs) more u v long is then lead not =
    let odd = has_odd_byte (xs ++ more) in
    let units = units_of order (xs ++ more) in
    ap (λ w. encode_utf8_all (scalars_of odd (w ∷ unit_of order c d ∷ units))) (sym is)
    ∙ ap encode_utf8_all (scalars_of-high odd u (unit_of order c d) units lead
    (ap is_low_surrogate (sym then) ∙ not))

-- a pair
pub text-pair : (order : ByteOrder) (xs more : List ℕ) (u v : ℕ) → 4 ≤ length xs → u
    ≡ unit_of order (slice_index xs 0) (slice_index xs 1)
    → v ≡ unit_of order (slice_index xs 2) (slice_index xs 3) → is_high_surrogate u ≡ true
    → is_low_surrogate v ≡ true
    → utf16_text order (xs ++ more) ≡ encode_utf8 (surrogate_pair_char u v)
    ++ utf16_text order (drop 4 xs ++ more)
unfolding utf16_text units_of has_odd_byte
text-pair order [] more u v long is then lead also = absurd (omega arith)
text-pair order (a ∷ []) more u v long is then lead also = absurd (omega arith)
text-pair order (a ∷ b ∷ []) more u v long is then lead also = absurd (omega arith)
text-pair order (a ∷ b ∷ c ∷ []) more u v long is then lead also = absurd (omega arith)
text-pair order (a ∷ b ∷ c ∷ d ∷ xs) more u v long is then lead also =
    let odd = has_odd_byte (xs ++ more) in
    let units = units_of order (xs ++ more) in
    ap (λ w. encode_utf8_all (scalars_of odd (w ∷ unit_of order c d ∷ units))) (sym is)
    ∙ ap (λ w. encode_utf8_all (scalars_of odd (u ∷ w ∷ units))) (sym then)
    ∙ ap encode_utf8_all (scalars_of-pair odd u v units lead also)

-- at the end of the input: a leading surrogate, and an odd byte after it or none
pub text-waiting : (order : ByteOrder) (xs more : List ℕ) (u : ℕ) → 2 ≤ length xs → length xs < 4
    → u ≡ unit_of order (slice_index xs 0) (slice_index xs 1)
    → is_high_surrogate u ≡ true → more ≡ []
    → utf16_text order (xs ++ more) ≡ encode_utf8 replacement
    ++ utf16_text order (drop (length xs) xs ++ more)
unfolding utf16_text units_of has_odd_byte scalars_of
text-waiting order [] more u long short is lead none = absurd (omega arith)
text-waiting order (a ∷ []) more u long short is lead none = absurd (omega arith)
text-waiting order (a ∷ b ∷ []) more u long short is lead none = rw (none, ← is, lead) refl
text-waiting order (a ∷ b ∷ c ∷ []) more u long short is lead none = rw (none, ← is, lead) refl
text-waiting order (a ∷ b ∷ c ∷ d ∷ xs) more u long short is lead none = absurd (omega arith)

-- at the end of the input: an odd byte
pub text-odd : (order : ByteOrder) (xs more : List ℕ) → length xs ≡ 1 → more ≡ []
    → utf16_text order (xs ++ more) ≡ encode_utf8 replacement
    ++ utf16_text order (drop 1 xs ++ more)
unfolding utf16_text units_of has_odd_byte scalars_of
text-odd order [] more one none = absurd (omega arith)
text-odd order (a ∷ []) more one none = rw none refl
text-odd order (a ∷ b ∷ xs) more one none = absurd (omega arith)

-- bytes that could become a scalar value: no byte, one, or a leading surrogate
pub unfinished-few : (order : ByteOrder) (xs : List ℕ) → length xs < 2 → IsUnfinishedUtf16 order xs
unfolding units_of
unfinished-few order [] few = inl refl
unfinished-few order (a ∷ []) few = inl refl
unfinished-few order (a ∷ b ∷ xs) few = absurd (omega arith)

pub unfinished-pair : (order : ByteOrder) (xs : List ℕ) (u : ℕ) → 2 ≤ length xs → length xs < 4
    → u ≡ unit_of order (slice_index xs 0) (slice_index xs 1)
    → is_high_surrogate u ≡ true → IsUnfinishedUtf16 order xs
unfolding units_of
unfinished-pair order [] u long short is lead = absurd (omega arith)
unfinished-pair order (a ∷ []) u long short is lead = absurd (omega arith)
unfinished-pair order (a ∷ b ∷ []) u long short is lead =
    inr (u, ap (λ unit. unit ∷ []) (sym is), lead)
unfinished-pair order (a ∷ b ∷ c ∷ []) u long short is lead =
    inr (u, ap (λ unit. unit ∷ []) (sym is), lead)
unfinished-pair order (a ∷ b ∷ c ∷ d ∷ xs) u long short is lead = absurd (omega arith)
