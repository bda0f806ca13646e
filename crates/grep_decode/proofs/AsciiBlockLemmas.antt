-- Blocks of ASCII in UTF-16.
use Rattle.std.proofs.Common.{◌≡◌, ℕ, suc, zero, ◌+◌, ◌-◌, ◌*◌, ◌%◌, ◌^◌, ◌<◌, ◌≤◌, Bool, true}
use Rattle.std.proofs.Common.{false, not, cond, List, [], ◌∷◌, ◌++◌, length, take, drop, map, leb}
use Rattle.std.proofs.Common.{w8, replicate, if◌then◌else◌, nat_eq, slice_index_or, encode_utf8}
use Rattle.std.proofs.Common.{refl, sym, ap, subst, ◌∙◌, arith, inl}
use Rattle.std.proofs.lemmas.Bool.Decides.{nat_tests}
use Rattle.std.proofs.lemmas.List.{drop-drop, get_or-drop, length-map, take_all}
use Rattle.std.proofs.Math.Seq.{take-add}
use Rattle.std.proofs.lemmas.Simd.{first_set_mask_l, mask_l-mod, tops_compared, zip2_splat_left}
use Rattle.std.specs.Int.Count.{count_trailing_zeros}
use Rattle.std.specs.List.{prefix_len}
use Rattle.std.specs.Simd.Lanes.{chunk, mask_l, top, zip2}
use Rattle.grep_decode.specs.declared.byte_order.ByteOrder.{ByteOrder}
use Rattle.grep_decode.specs.declared.byte_order.ByteOrder.TheVariants.{Little, Big}
use Rattle.grep_decode.specs.Decoded.{utf16_text, unit_of}
use Rattle.grep_decode.specs.UnitBytes.{AreBelow, evens, odds}
use Rattle.grep_decode.proofs.EncodeLemmas.{encode-one}
use Rattle.grep_decode.proofs.Utf16Lemmas.{text-alone, alone-plain, not_high}
use mir.Val.{bits, hbits}

-- the bytes before the first that isn't below a bound are below it
below-step : (bound byte n rest : ℕ) (b : Bool) → leb bound byte ≡ b → suc n
    ≤ cond (not b) (1 + rest) 0 → (byte < bound) × (n ≤ rest)
below-step bound byte n rest true is within = absurd (omega (arith, within))
below-step bound byte n rest false is within = (grind (arith, nat_tests), omega (arith, within))

pub below-front : (bound : ℕ) (bytes : List ℕ) (n : ℕ) → n
    ≤ prefix_len (λ b. not (leb bound b)) bytes → AreBelow bound (take n bytes)
below-front bound bytes zero within = tt
below-front bound [] (suc n) within = tt
below-front bound (byte ∷ bytes) (suc n) within =
    let step = below-step bound byte n (prefix_len (λ b. not (leb bound b)) bytes) (leb bound byte)
    refl within in
    (step.0, below-front bound bytes n step.1)

-- how many bytes these are, by the lowest bit of the mask of the others
pub front-length : (bound : ℕ) (bytes : List ℕ) (mask : ℕ) → length bytes ≡ 16
    → mask ≡ mask_l (map (top (hbits w8)) (zip2 (λ a b. cond (leb a b) (2 ^ bits w8 - 1) 0)
    (replicate 16 bound) bytes)) % 2 ^ 64
    → (if nat_eq mask 0 then 16 else count_trailing_zeros 64 mask)
    ≡ prefix_len (λ b. not (leb bound b)) bytes
front-length bound bytes mask long is =
    let tests = map (λ b. leb bound b) bytes in
    let plain : mask ≡ mask_l tests =
    is ∙ ap (λ ms. mask_l ms % 2 ^ 64) (tops_compared w8 leb (replicate 16 bound) bytes
    ∙ zip2_splat_left leb bound 16 bytes long)
    ∙ mask_l-mod tests 64 (omega (arith, length-map bytes (λ b. leb bound b), long)) in
    ap (λ n. if nat_eq n 0 then 16 else count_trailing_zeros 64 n) plain
    ∙ first_set_mask_l (λ b. leb bound b) bytes 16 long (omega arith)

-- ---- the bytes of units, apart

abbrev pub picked : ℕ → ℕ → List ℕ → List ℕ
picked zero at xs = []
picked (suc n) at xs = slice_index_or xs at 0 ∷ picked n (2 + at) xs

pub first-is : (xs rest : List ℕ) (at x : ℕ) → drop at xs ≡ x ∷ rest → slice_index_or xs at 0 ≡ x
first-is xs rest at x e =
    let zero-more : at + 0 ≡ at = omega arith in
    sym (ap (λ k. slice_index_or xs k 0) zero-more)
    ∙ (sym (get_or-drop at xs 0 0) ∙ ap (λ l. slice_index_or l 0 0) e)

two-more : (xs rest : List ℕ) (at x y : ℕ) → drop at xs ≡ x ∷ y ∷ rest → drop (2 + at) xs ≡ rest
two-more xs rest at x y e =
    let swap : 2 + at ≡ at + 2 = omega arith in
    ap (λ k. drop k xs) swap ∙ (sym (drop-drop 2 at xs) ∙ ap (drop 2) e)

pub picked-evens : (n at : ℕ) (xs rest : List ℕ) → drop at xs ≡ rest → length rest ≡ 2 * n
    → picked n at xs ≡ evens rest
picked-evens zero at xs [] e long = refl
picked-evens zero at xs (x ∷ rest) e long = absurd (omega (arith, long))
picked-evens (suc n) at xs [] e long = absurd (omega (arith, long))
picked-evens (suc n) at xs (x ∷ []) e long = absurd (omega (arith, long))
picked-evens (suc n) at xs (x ∷ y ∷ rest) e long =
    ap (λ z. z ∷ picked n (2 + at) xs) (first-is xs (y ∷ rest) at x e)
    ∙ ap (λ l. x ∷ l) (picked-evens n (2 + at) xs rest (two-more xs rest at x y e)
    (omega (arith, long)))

pub picked-odds : (n at : ℕ) (xs rest : List ℕ) → drop at xs ≡ rest → length rest ≡ 2 * n
    → picked n (1 + at) xs ≡ odds rest
picked-odds zero at xs [] e long = refl
picked-odds zero at xs (x ∷ rest) e long = absurd (omega (arith, long))
picked-odds (suc n) at xs [] e long = absurd (omega (arith, long))
picked-odds (suc n) at xs (x ∷ []) e long = absurd (omega (arith, long))
picked-odds (suc n) at xs (x ∷ y ∷ rest) e long =
    let one : drop (1 + at) xs ≡ y ∷ rest =
    (let swap : 1 + at ≡ at + 1 = omega arith in ap (λ k. drop k xs) swap
    ∙ (sym (drop-drop 1 at xs) ∙ ap (drop 1) e)) in
    let next : 2 + (1 + at) ≡ 1 + (2 + at) = omega arith in
    ap (λ z. z ∷ picked n (2 + (1 + at)) xs) (first-is xs rest (1 + at) y one)
    ∙ (ap (λ k. y ∷ picked n k xs) next
    ∙ ap (λ l. y ∷ l) (picked-odds n (2 + at) xs rest (two-more xs rest at x y e)
    (omega (arith, long))))

-- ---- the text of a block

ascii-unit : (order : ByteOrder) (first second u : ℕ) (bytes : List ℕ) → u
    ≡ unit_of order first second → u < 128
    → utf16_text order (first ∷ second ∷ bytes) ≡ u ∷ utf16_text order bytes
ascii-unit order first second u bytes is small =
    text-alone order (first ∷ second ∷ []) bytes u (omega arith) is
    (not_high u (inl (omega (arith, small)))) ∙ ap (λ l. l ++ utf16_text order bytes)
    (ap encode_utf8 (alone-plain u (inl (omega (arith, small)))) ∙ encode-one u small)

pub two-each : (n : ℕ) → 2 * suc n ≡ suc (suc (2 * n))
two-each n = omega arith

pub little-text : (n : ℕ) (bytes more : List ℕ) → 2 * n ≤ length bytes
    → AreBelow 128 (take n (evens bytes)) → AreBelow 1 (take n (odds bytes))
    → utf16_text Little (bytes ++ more) ≡ take n (evens bytes)
    ++ utf16_text Little (drop (2 * n) bytes ++ more)
little-text zero bytes more long small none = refl
little-text (suc n) [] more long small none = absurd (omega (arith, long))
little-text (suc n) (x ∷ []) more long small none = absurd (omega (arith, long))
little-text (suc n) (x ∷ y ∷ bytes) more long (low, smaller) (high, nothing) =
    ascii-unit Little x y x (bytes ++ more) (omega (arith, high)) low
    ∙ (ap (λ l. x ∷ l) (little-text n bytes more (omega (arith, long)) smaller nothing)
    ∙ ap (λ k. x ∷ (take n (evens bytes) ++ utf16_text Little (drop k (x ∷ y ∷ bytes) ++ more)))
    (sym (two-each n)))

pub big-text : (n : ℕ) (bytes more : List ℕ) → 2 * n ≤ length bytes
    → AreBelow 128 (take n (odds bytes)) → AreBelow 1 (take n (evens bytes))
    → utf16_text Big (bytes ++ more) ≡ take n (odds bytes)
    ++ utf16_text Big (drop (2 * n) bytes ++ more)
big-text zero bytes more long small none = refl
big-text (suc n) [] more long small none = absurd (omega (arith, long))
big-text (suc n) (x ∷ []) more long small none = absurd (omega (arith, long))
big-text (suc n) (x ∷ y ∷ bytes) more long (low, smaller) (high, nothing) =
    ascii-unit Big x y y (bytes ++ more) (omega (arith, high)) low
    ∙ (ap (λ l. y ∷ l) (big-text n bytes more (omega (arith, long)) smaller nothing)
    ∙ ap (λ k. y ∷ (take n (odds bytes) ++ utf16_text Big (drop k (x ∷ y ∷ bytes) ++ more)))
    (sym (two-each n)))

pub whole-chunks : (input : List ℕ) → length input ≡ 32 → chunk 0 16 input ++ chunk 16 16 input
    ≡ input
whole-chunks input long = sym (take-add 16 16 input) ∙ take_all 32 input (omega (arith, long))

pub little-block : (input lows highs output more : List ℕ) (n : ℕ) → length input ≡ 32 → n ≤ 16
    → lows ≡ evens (chunk 0 16 input ++ chunk 16 16 input)
    → highs ≡ odds (chunk 0 16 input ++ chunk 16 16 input) → output ≡ lows
    → AreBelow 128 (take n lows) → AreBelow 1 (take n highs)
    → utf16_text Little (input ++ more) ≡ take n output ++ utf16_text Little (drop (2 * n) input
    ++ more)
little-block input lows highs output more n long few first second same small none =
    let firsts : lows ≡ evens input = first ∙ ap evens (whole-chunks input long) in
    let seconds : highs ≡ odds input = second ∙ ap odds (whole-chunks input long) in
    little-text n input more (omega (arith, long, few))
    (subst (λ (l : List ℕ). AreBelow 128 (take n l)) firsts small)
    (subst (λ (l : List ℕ). AreBelow 1 (take n l)) seconds none)
    ∙ ap (λ l. take n l ++ utf16_text Little (drop (2 * n) input ++ more)) (sym (same ∙ firsts))

pub big-block : (input lows highs output more : List ℕ) (n : ℕ) → length input ≡ 32 → n ≤ 16 → highs
    ≡ evens (chunk 0 16 input ++ chunk 16 16 input)
    → lows ≡ odds (chunk 0 16 input ++ chunk 16 16 input) → output ≡ lows
    → AreBelow 128 (take n lows) → AreBelow 1 (take n highs)
    → utf16_text Big (input ++ more) ≡ take n output ++ utf16_text Big (drop (2 * n) input ++ more)
big-block input lows highs output more n long few first second same small none =
    let firsts : highs ≡ evens input = first ∙ ap evens (whole-chunks input long) in
    let seconds : lows ≡ odds input = second ∙ ap odds (whole-chunks input long) in
    big-text n input more (omega (arith, long, few))
    (subst (λ (l : List ℕ). AreBelow 128 (take n l)) seconds small)
    (subst (λ (l : List ℕ). AreBelow 1 (take n l)) firsts none)
    ∙ ap (λ l. take n l ++ utf16_text Big (drop (2 * n) input ++ more)) (sym (same ∙ seconds))
