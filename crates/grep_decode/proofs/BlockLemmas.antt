-- Blocks of units in UTF-16 that are no surrogates.
use Rattle.std.proofs.Common.{◌≡◌, ◌⊎◌, ℕ, suc, zero, ◌+◌, ◌-◌, ◌*◌, ◌/◌, ◌%◌, ◌^◌, ◌<◌, ◌≤◌, Bool}
use Rattle.std.proofs.Common.{true, false, cond, List, [], ◌∷◌, ◌++◌, length, take, drop, map, leb}
use Rattle.std.proofs.Common.{w8, Fits, replicate, slice_index_or, encode_utf8, encode_utf8_all}
use Rattle.std.proofs.Common.{refl, sym, ap, subst, ◌∙◌, arith, inl, inr, append_assoc}
use Rattle.std.proofs.Math.Seq.{drop-append_seam}
use Rattle.grep_decode.proofs.PieceLemmas.{take-put_mid_into}
use Rattle.std.proofs.lemmas.List.{append-nil, drop-drop, length-take, take-take}
use Rattle.std.proofs.lemmas.Bool.Decides.{nat_tests}
use Rattle.std.specs.Simd.Lanes.{Each1, chunk, sel_l, top, zip2}
use Rattle.grep_decode.specs.declared.byte_order.ByteOrder.{ByteOrder}
use Rattle.grep_decode.specs.declared.byte_order.ByteOrder.TheVariants.{Little, Big}
use Rattle.grep_decode.specs.Decoded.{utf16_text, unit_of}
use Rattle.grep_decode.specs.UnitBytes.{AreBelow, AreSpelled, AreInFours, IsSpelled, IsPut}
use Rattle.grep_decode.specs.UnitBytes.{NoneIsSurrogate, evens, odds, joined}
use Rattle.grep_decode.proofs.AsciiBlockLemmas.{first-is, two-each, whole-chunks}
use Rattle.grep_decode.proofs.EncodeLemmas.{encode-one, encode-two, encode-three}
use Rattle.grep_decode.proofs.Utf16Lemmas.{text-alone, alone-plain, not_high}
use borrow.Rule.Slice.PartMut.{put_mid}
use mir.Val.{bits, hbits}

-- ---- what is done to one lane

abbrev plus : ℕ → ℕ → ℕ
plus a b = (a + b) % 2 ^ bits w8

abbrev left : ℕ → ℕ → ℕ
left a b = (a * 2 ^ b) % 2 ^ bits w8

abbrev right : ℕ → ℕ → ℕ
right a b = a / 2 ^ b

abbrev lanes_at_least : ℕ → ℕ → List ℕ → List Bool
lanes_at_least n bound xs =
    map (top (hbits w8)) (zip2 (λ a b. cond (leb a b) (2 ^ bits w8 - 1) 0) (replicate n bound) xs)

abbrev middles : ℕ → List ℕ → List ℕ → List ℕ
middles n lows highs = zip2 plus (zip2 right (zip2 left highs (replicate n 4)) (replicate n 2))
    (zip2 right lows (replicate n 6))

abbrev thirds : ℕ → List ℕ → List ℕ
thirds n lows = zip2 plus (zip2 right (zip2 left lows (replicate n 2)) (replicate n 2))
    (replicate n 0x80)

abbrev firsts : ℕ → List ℕ → List ℕ → List ℕ
firsts n lows highs = sel_l (lanes_at_least n 8 highs) (zip2 plus (zip2 right highs (replicate n 4))
    (replicate n 0xE0)) (sel_l (lanes_at_least n 2 (middles n lows highs))
    (zip2 plus (middles n lows highs) (replicate n 0xC0)) lows)

abbrev seconds : ℕ → List ℕ → List ℕ → List ℕ
seconds n lows highs = sel_l (lanes_at_least n 8 highs)
    (zip2 plus (middles n lows highs) (replicate n 0x80)) (thirds n lows)

abbrev sizes : ℕ → List ℕ → List ℕ → List ℕ
sizes n lows highs = sel_l (lanes_at_least n 8 highs) (replicate n 3)
    (sel_l (lanes_at_least n 2 (middles n lows highs)) (replicate n 2) (replicate n 1))

-- ---- the bytes of a unit

three-bytes : (low high middle third : ℕ) → low < 256 → high < 256 → 8 ≤ high
    → middle ≡ high % 16 * 4 + low / 64 → third ≡ low % 64 + 128
    → encode_utf8 (high * 256 + low) ≡ ((high / 16 + 0xE0) % 256) ∷ ((middle + 0x80) % 256) ∷ third
    ∷ []
three-bytes low high middle third l h large is-middle is-third =
    let unit = high * 256 + low in
    let one : 224 + unit / 4096 ≡ (high / 16 + 0xE0) % 256 = omega arith in
    let two : 128 + unit / 64 % 64 ≡ (middle + 0x80) % 256 = omega arith in
    let three : 128 + unit % 64 ≡ third = omega arith in
    let bytes = encode-three unit (omega arith) (omega arith) in cc

two-bytes : (low high middle third : ℕ) → low < 256 → high < 8 → 2 ≤ middle
    → middle ≡ high % 16 * 4 + low / 64 → third ≡ low % 64 + 128
    → encode_utf8 (high * 256 + low) ≡ ((middle + 0xC0) % 256) ∷ third ∷ []
two-bytes low high middle third l h large is-middle is-third =
    let unit = high * 256 + low in
    let one : 192 + unit / 64 ≡ (middle + 0xC0) % 256 = omega arith in
    let two : 128 + unit % 64 ≡ third = omega arith in
    let bytes = encode-two unit (omega arith) (omega arith) in cc

one-byte : (low high middle : ℕ) → low < 256 → high < 8 → middle < 2 → middle ≡ high % 16 * 4
    + low / 64 → encode_utf8 (high * 256 + low) ≡ low ∷ []
one-byte low high middle l h small is-middle =
    let unit = high * 256 + low in
    let one : unit ≡ low = omega arith in
    let bytes = encode-one unit (omega arith) in cc

lane : (low high middle third : ℕ) (three two : Bool) → leb 8 high ≡ three → leb 2 middle ≡ two
    → low < 256 → high < 256 → middle ≡ high % 16 * 4 + low / 64 → third ≡ low % 64 + 128
    → IsSpelled low high
    (cond (top (hbits w8) (cond three (2 ^ bits w8 - 1) 0)) (plus (right high 4) 0xE0)
    (cond (top (hbits w8) (cond two (2 ^ bits w8 - 1) 0)) (plus middle 0xC0) low))
    (cond (top (hbits w8) (cond three (2 ^ bits w8 - 1) 0)) (plus middle 0x80) third) third
    (cond (top (hbits w8) (cond three (2 ^ bits w8 - 1) 0)) 3
    (cond (top (hbits w8) (cond two (2 ^ bits w8 - 1) 0)) 2 1))
lane low high middle third true two is-three is-two l h is-middle is-third = record {
  some = omega arith;
  few = omega arith;
  spells = sym (three-bytes low high middle third l h (grind (arith, nat_tests)) is-middle
      is-third);
}
lane low high middle third false true is-three is-two l h is-middle is-third = record {
  some = omega arith;
  few = omega arith;
  spells = sym (two-bytes low high middle third l (grind (arith, nat_tests))
      (grind (arith, nat_tests)) is-middle is-third);
}
lane low high middle third false false is-three is-two l h is-middle is-third = record {
  some = omega arith;
  few = omega arith;
  spells = sym (one-byte low high middle l (grind (arith, nat_tests)) (grind (arith, nat_tests))
      is-middle);
}

middle-is : (low high : ℕ) → low < 256
    → plus (right (left high 4) 2) (right low 6) ≡ high % 16 * 4 + low / 64
middle-is low high l = omega arith

third-is : (low : ℕ) → plus (right (left low 2) 2) 0x80 ≡ low % 64 + 128
third-is low = omega arith

-- each lane is spelled by the bytes at its index
pub spelled : (n : ℕ) (lows highs : List ℕ) → length lows ≡ n → length highs ≡ n
    → Each1 (Fits w8) lows → Each1 (Fits w8) highs → (i : ℕ) → i < n
    → IsSpelled (slice_index_or lows i 0) (slice_index_or highs i 0)
    (slice_index_or (firsts n lows highs) i 0)
    (slice_index_or (seconds n lows highs) i 0) (slice_index_or (thirds n lows) i 0)
    (slice_index_or (sizes n lows highs) i 0)
spelled zero lows highs long long' fits fits' i within = absurd (omega (arith, within))
spelled (suc n) [] highs long long' fits fits' i within = absurd (omega (arith, long))
spelled (suc n) (low ∷ lows) [] long long' fits fits' i within = absurd (omega (arith, long'))
spelled (suc n) (low ∷ lows) (high ∷ highs) long long' (fit, fits) (fit', fits') zero within =
    lane low high _ _ _ _ refl refl fit.fits fit'.fits (middle-is low high fit.fits) (third-is low)
spelled (suc n) (low ∷ lows) (high ∷ highs) long long' (fit, fits) (fit', fits') (suc i) within =
    spelled n lows highs (omega (arith, long)) (omega (arith, long')) fits fits' i
    (omega (arith, within))

-- ---- which units are no surrogates

plain-high : (high : ℕ) → high < 256 → (high + 0x20) % 2 ^ bits w8 < 0xF8 → (high < 0xD8)
    ⊎ (0xE0 ≤ high)
plain-high high h below = grind arith

pub plain-highs : (n k : ℕ) (highs : List ℕ) → length highs ≡ k → Each1 (Fits w8) highs
    → AreBelow 0xF8 (take n (zip2 plus highs (replicate k 0x20))) → NoneIsSurrogate (take n highs)
plain-highs zero k highs long fits below = tt
plain-highs (suc n) k [] long fits below = tt
plain-highs (suc n) zero (high ∷ highs) long fits below = absurd (omega (arith, long))
plain-highs (suc n) (suc k) (high ∷ highs) long (fit, fits) (below, more) =
    (plain-high high fit.fits below, plain-highs n k highs (omega (arith, long)) fits more)

-- ---- the text of a block

plain-unit : (order : ByteOrder) (first second low high : ℕ) (bytes : List ℕ) → high * 256 + low
    ≡ unit_of order first second → (high < 0xD8) ⊎ (0xE0 ≤ high) → low < 256
    → utf16_text order (first ∷ second ∷ bytes) ≡ encode_utf8 (high * 256 + low)
    ++ utf16_text order bytes
plain-unit order first second low high bytes is plain small =
    let unit = high * 256 + low in
    let range : (unit < 0xD800) ⊎ (0xE000 ≤ unit) =
    elim plain [ inl h ↦ inl (omega (arith, h)) | inr h ↦ inr (omega (arith, h)) ] in
    let whole : (unit < 0xD800) ⊎ (0xDC00 ≤ unit) =
    elim plain [ inl h ↦ inl (omega (arith, h)) | inr h ↦ inr (omega (arith, h)) ] in
    text-alone order (first ∷ second ∷ []) bytes unit (omega arith) is (not_high unit whole)
    ∙ ap (λ u. encode_utf8 u ++ utf16_text order bytes) (alone-plain unit range)

abbrev pub AreBytes : List ℕ → Type 0
AreBytes xs = (i : ℕ) → Fits w8 (slice_index_or xs i 0)

pub little-plain : (n : ℕ) (bytes more : List ℕ) → 2 * n ≤ length bytes → AreBytes bytes
    → NoneIsSurrogate (take n (odds bytes)) → utf16_text Little (bytes ++ more)
    ≡ encode_utf8_all (take n (joined (evens bytes) (odds bytes)))
    ++ utf16_text Little (drop (2 * n) bytes ++ more)
little-plain zero bytes more long fits plain = refl
little-plain (suc n) [] more long fits plain = absurd (omega (arith, long))
little-plain (suc n) (x ∷ []) more long fits plain = absurd (omega (arith, long))
little-plain (suc n) (x ∷ y ∷ bytes) more long fits (first, plain) =
    let text = encode_utf8_all (take n (joined (evens bytes) (odds bytes))) in
    let rest = utf16_text Little (drop (2 * n) bytes ++ more) in
    plain-unit Little x y x y (bytes ++ more) refl first (fits zero).fits
    ∙ (ap (λ l. encode_utf8 (y * 256 + x) ++ l)
    (little-plain n bytes more (omega (arith, long)) (λ i. fits (suc (suc i))) plain)
    ∙ (sym (append_assoc (encode_utf8 (y * 256 + x)) text rest)
    ∙ ap (λ k. (encode_utf8 (y * 256 + x) ++ text) ++ utf16_text Little (drop k (x ∷ y ∷ bytes)
    ++ more)) (sym (two-each n))))

pub big-plain : (n : ℕ) (bytes more : List ℕ) → 2 * n ≤ length bytes → AreBytes bytes
    → NoneIsSurrogate (take n (evens bytes))
    → utf16_text Big (bytes ++ more) ≡ encode_utf8_all (take n (joined (odds bytes) (evens bytes)))
    ++ utf16_text Big (drop (2 * n) bytes ++ more)
big-plain zero bytes more long fits plain = refl
big-plain (suc n) [] more long fits plain = absurd (omega (arith, long))
big-plain (suc n) (x ∷ []) more long fits plain = absurd (omega (arith, long))
big-plain (suc n) (x ∷ y ∷ bytes) more long fits (first, plain) =
    let text = encode_utf8_all (take n (joined (odds bytes) (evens bytes))) in
    let rest = utf16_text Big (drop (2 * n) bytes ++ more) in
    plain-unit Big x y y x (bytes ++ more) refl first (fits (suc zero)).fits
    ∙ (ap (λ l. encode_utf8 (x * 256 + y) ++ l)
    (big-plain n bytes more (omega (arith, long)) (λ i. fits (suc (suc i))) plain)
    ∙ (sym (append_assoc (encode_utf8 (x * 256 + y)) text rest)
    ∙ ap (λ k. (encode_utf8 (x * 256 + y) ++ text) ++ utf16_text Big (drop k (x ∷ y ∷ bytes)
    ++ more)) (sym (two-each n))))

pub little-put : (input lows highs written more : List ℕ) (taken : ℕ) → length input ≡ 32
    → AreBytes input → lows ≡ evens (chunk 0 16 input ++ chunk 16 16 input) → highs
    ≡ odds (chunk 0 16 input ++ chunk 16 16 input) → IsPut lows highs taken written
    → utf16_text Little (input ++ more) ≡ written ++ utf16_text Little (drop taken input ++ more)
little-put input lows highs written more taken long fits first second put =
    let firsts-are : lows ≡ evens input = first ∙ ap evens (whole-chunks input long) in
    let seconds-are : highs ≡ odds input = second ∙ ap odds (whole-chunks input long) in
    let text : written ≡ encode_utf8_all (take put.count (joined (evens input) (odds input))) =
    put.text ∙ (ap (λ l. encode_utf8_all (take put.count (joined l highs))) firsts-are
    ∙ ap (λ l. encode_utf8_all (take put.count (joined (evens input) l))) seconds-are) in
    little-plain put.count input more (omega (arith, long, put.few)) fits
    (subst (λ (l : List ℕ). NoneIsSurrogate (take put.count l)) seconds-are put.plain)
    ∙ (ap (λ l. l ++ utf16_text Little (drop (2 * put.count) input ++ more)) (sym text)
    ∙ ap (λ k. written ++ utf16_text Little (drop k input ++ more)) (sym put.counted))

pub big-put : (input lows highs written more : List ℕ) (taken : ℕ) → length input ≡ 32
    → AreBytes input → highs ≡ evens (chunk 0 16 input ++ chunk 16 16 input) → lows
    ≡ odds (chunk 0 16 input ++ chunk 16 16 input) → IsPut lows highs taken written
    → utf16_text Big (input ++ more) ≡ written ++ utf16_text Big (drop taken input ++ more)
big-put input lows highs written more taken long fits first second put =
    let firsts-are : highs ≡ evens input = first ∙ ap evens (whole-chunks input long) in
    let seconds-are : lows ≡ odds input = second ∙ ap odds (whole-chunks input long) in
    let text : written ≡ encode_utf8_all (take put.count (joined (odds input) (evens input))) =
    put.text ∙ (ap (λ l. encode_utf8_all (take put.count (joined l highs))) seconds-are
    ∙ ap (λ l. encode_utf8_all (take put.count (joined (odds input) l))) firsts-are) in
    big-plain put.count input more (omega (arith, long, put.few)) fits
    (subst (λ (l : List ℕ). NoneIsSurrogate (take put.count l)) firsts-are put.plain)
    ∙ (ap (λ l. l ++ utf16_text Big (drop (2 * put.count) input ++ more)) (sym text)
    ∙ ap (λ k. written ++ utf16_text Big (drop k input ++ more)) (sym put.counted))

-- ---- one unit more

length-joined : (lows highs : List ℕ) → length highs ≡ length lows → length (joined lows highs)
    ≡ length lows
length-joined [] highs same = refl
length-joined (low ∷ lows) [] same = absurd (omega (arith, same))
length-joined (low ∷ lows) (high ∷ highs) same =
    let rest = length-joined lows highs (omega (arith, same)) in omega (arith, rest)

joined-at : (lows highs : List ℕ) (i : ℕ) → i < length lows → length highs ≡ length lows
    → slice_index_or (joined lows highs) i 0 ≡ slice_index_or highs i 0 * 256
    + slice_index_or lows i 0
joined-at [] highs i within same = absurd (omega (arith, within))
joined-at (low ∷ lows) [] i within same = absurd (omega (arith, same))
joined-at (low ∷ lows) (high ∷ highs) zero within same = refl
joined-at (low ∷ lows) (high ∷ highs) (suc i) within same =
    joined-at lows highs i (omega (arith, within)) (omega (arith, same))

text-next : (units : List ℕ) (i : ℕ) → i < length units
    → encode_utf8_all (take (suc i) units) ≡ encode_utf8_all (take i units)
    ++ encode_utf8 (slice_index_or units i 0)
text-next [] i within = absurd (omega (arith, within))
text-next (unit ∷ units) zero within = append-nil (encode_utf8 unit)
text-next (unit ∷ units) (suc i) within =
    ap (λ l. encode_utf8 unit ++ l) (text-next units i (omega (arith, within)))
    ∙ sym (append_assoc (encode_utf8 unit) (encode_utf8_all (take i units))
    (encode_utf8 (slice_index_or units i 0)))

-- ---- the bytes of units, one unit after another

-- the bytes at one index after another, those of the third list twice
abbrev fours : List ℕ → List ℕ → List ℕ → List ℕ
fours [] seconds thirds = []
fours (first ∷ firsts) [] thirds = []
fours (first ∷ firsts) (second ∷ seconds) [] = []
fours (first ∷ firsts) (second ∷ seconds) (third ∷ thirds) =
    first ∷ second ∷ third ∷ third ∷ fours firsts seconds thirds

abbrev picked_fours : ℕ → ℕ → List ℕ → List ℕ → List ℕ
picked_fours zero at both thirds = []
picked_fours (suc n) at both thirds = slice_index_or both at 0 ∷ slice_index_or both (16 + at) 0
    ∷ slice_index_or thirds at 0 ∷ slice_index_or thirds at 0 ∷ picked_fours n (1 + at) both thirds

one-more : (xs rest : List ℕ) (at next x : ℕ) → next ≡ at + 1 → drop at xs ≡ x ∷ rest → drop next xs
    ≡ rest
one-more xs rest at next x is e = ap (λ k. drop k xs) is ∙ (sym (drop-drop 1 at xs) ∙ ap (drop 1) e)

fours-picked : (n at : ℕ) (both twice fs ss ts more tail : List ℕ) → drop at both ≡ fs ++ more
    → drop (16 + at) both ≡ ss → drop at twice ≡ ts ++ tail → length fs ≡ n → length ss ≡ n
    → length ts ≡ n → picked_fours n at both twice ≡ fours fs ss ts
fours-picked zero at both twice [] ss ts more tail first second third a b c = refl
fours-picked zero at both twice (x ∷ fs) ss ts more tail first second third a b c =
    absurd (omega (arith, a))
fours-picked (suc n) at both twice [] ss ts more tail first second third a b c =
    absurd (omega (arith, a))
fours-picked (suc n) at both twice (x ∷ fs) [] ts more tail first second third a b c =
    absurd (omega (arith, b))
fours-picked (suc n) at both twice (x ∷ fs) (y ∷ ss) [] more tail first second third a b c =
    absurd (omega (arith, c))
fours-picked (suc n) at both twice (x ∷ fs) (y ∷ ss) (z ∷ ts) more tail first second third a b c =
    let one = first-is both (fs ++ more) at x first in
    let two = first-is both ss (16 + at) y second in
    let three = first-is twice (ts ++ tail) at z third in
    let rest = fours-picked n (1 + at) both twice fs ss ts more tail
    (one-more both (fs ++ more) at (1 + at) x (omega arith) first)
    (one-more both ss (16 + at) (16 + (1 + at)) y (omega arith) second)
    (one-more twice (ts ++ tail) at (1 + at) z (omega arith) third)
    (omega (arith, a)) (omega (arith, b)) (omega (arith, c)) in
    cc (one, two, three, rest)

four-each : (n : ℕ) → 4 * suc n ≡ suc (suc (suc (suc (4 * n))))
four-each n = omega arith

fours-at : (firsts seconds thirds : List ℕ) (i : ℕ) → i < length firsts → length seconds
    ≡ length firsts → length thirds ≡ length firsts
    → take 3 (drop (4 * i) (fours firsts seconds thirds))
    ≡ slice_index_or firsts i 0 ∷ slice_index_or seconds i 0 ∷ slice_index_or thirds i 0 ∷ []
fours-at [] seconds thirds i within same same' = absurd (omega (arith, within))
fours-at (x ∷ firsts) [] thirds i within same same' = absurd (omega (arith, same))
fours-at (x ∷ firsts) (y ∷ seconds) [] i within same same' = absurd (omega (arith, same'))
fours-at (x ∷ firsts) (y ∷ seconds) (z ∷ thirds) zero within same same' = refl
fours-at (x ∷ firsts) (y ∷ seconds) (z ∷ thirds) (suc i) within same same' =
    ap (λ k. take 3 (drop k (x ∷ y ∷ z ∷ z ∷ fours firsts seconds thirds))) (four-each i)
    ∙ fours-at firsts seconds thirds i (omega (arith, within)) (omega (arith, same))
    (omega (arith, same'))

pub fours-found : (firsts seconds thirds : List ℕ) → length firsts ≡ 16 → length seconds ≡ 16
    → length thirds ≡ 16
    → AreInFours firsts seconds thirds (picked_fours 16 0 (firsts ++ seconds) (thirds ++ thirds))
fours-found firsts seconds thirds a b c = λ i within.
    let behind : drop 16 (firsts ++ seconds) ≡ seconds =
    ap (λ k. drop k (firsts ++ seconds)) (sym a) ∙ drop-append_seam firsts seconds in
    ap (λ l. take 3 (drop (4 * i) l)) (fours-picked 16 0 (firsts ++ seconds) (thirds ++ thirds)
    firsts seconds thirds seconds thirds refl behind refl a b c)
    ∙ fours-at firsts seconds thirds i (omega (arith, within, a)) (b ∙ sym a) (c ∙ sym a)

put-some : (output bytes : List ℕ) (at size part x y z : ℕ) → at ≤ length output → size ≤ 3
    → take 3 bytes ≡ x ∷ y ∷ z ∷ []
    → take (at + size) (put_mid at part output bytes) ≡ take at output ++ take size (x ∷ y ∷ z ∷ [])
put-some output bytes at size part x y z room few is =
    let long : 3 ≤ length bytes = omega (arith, ap length is, length-take 3 bytes) in
    take-put_mid_into at part size output bytes room (omega (arith, long, few))
    ∙ ap (λ l. take at output ++ l) (sym (take-take size 3 bytes few) ∙ ap (take size) is)

pub put-unit : (lows highs firsts seconds thirds sizes quads output : List ℕ)
    (i written part count : ℕ)
    → length lows ≡ 16 → length highs ≡ 16 → AreInFours firsts seconds thirds quads → count ≡ 4 → i
    < 16 → written ≤ length output → AreSpelled lows highs firsts seconds thirds sizes
    → take written output ≡ encode_utf8_all (take i (joined lows highs))
    → take (written + slice_index_or sizes i 0)
    (put_mid written part output (take count (drop (4 * i) quads)))
    ≡ encode_utf8_all (take (i + 1) (joined lows highs))
put-unit lows highs firsts seconds thirds sizes quads output i written part count a b are four
    within room spelled before =
    let units = joined lows highs in
    let spelling = spelled i within in
    let same : length highs ≡ length lows = b ∙ sym a in
    let all : length units ≡ 16 = length-joined lows highs same ∙ a in
    let next : suc i ≡ i + 1 = omega arith in
    let bytes : take 3 (take count (drop (4 * i) quads))
    ≡ slice_index_or firsts i 0 ∷ slice_index_or seconds i 0 ∷ slice_index_or thirds i 0 ∷ [] =
    take-take 3 count (drop (4 * i) quads) (omega (arith, four)) ∙ are i within in
    put-some output (take count (drop (4 * i) quads)) written (slice_index_or sizes i 0) part _ _ _
    room spelling.few bytes
    ∙ (ap (λ l. l ++ take (slice_index_or sizes i 0) (slice_index_or firsts i 0
    ∷ slice_index_or seconds i 0 ∷ slice_index_or thirds i 0 ∷ [])) before
    ∙ (ap (λ l. encode_utf8_all (take i units) ++ l) (spelling.spells
    ∙ ap encode_utf8 (sym (joined-at lows highs i (omega (arith, within, a)) same)))
    ∙ (sym (text-next units i (omega (arith, within, all)))
    ∙ ap (λ k. encode_utf8_all (take k units)) next)))
