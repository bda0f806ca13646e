-- `utf8_lossy` from the front of some bytes on.
use Rattle.std.proofs.Common.{◌≡◌, ℕ, ◌+◌, ◌-◌, ◌<◌, ◌≤◌, List, [], ◌∷◌, ◌++◌, length, take, drop}
use Rattle.std.proofs.Common.{slice_index, None, Some, unwrap_or, IsUtf8, encode_utf8_all, refl}
use Rattle.std.proofs.Common.{sym, ap, subst, ◌∙◌, arith, length-append, length-drop, take-add}
use Rattle.std.proofs.Common.{append_assoc, append-nil}
use Rattle.std.proofs.lemmas.Bool.Decides.{nat_tests}
use Rattle.std.proofs.lemmas.List.{get_or_append_left, drop-append-le, drop-drop, length-take-le}
use Rattle.std.proofs.lemmas.List.{take-append-le, take_rest, take-append-drop}
use Rattle.std.proofs.lemmas.Str.{IsUtf8-append, encodes-append, utf8_valid_len-IsValidUpTo}
use Rattle.grep_decode.specs.Utf8.{IsUnfinishedUtf8}
use Rattle.std.specs.Str.{IsValidUpTo}
use Rattle.std.specs.Str.Lossy.{utf8_error_len, utf8_lossy, utf8_valid_len, replacement_bytes}
use Rattle.bstr.specs.Utf8.{Decoded, decoded, bad, second, continues, or_replacement, lossy_chars}
use Rattle.bstr.proofs.lemmas.LossyLemmas.{lossy_chars-front, lossy_chars-utf8_lossy}
use Rattle.bstr.proofs.lemmas.LossyLemmas.{utf8_invalid_len-decoded}
use Rattle.bstr.proofs.lemmas.PieceLemmas.{by-shape, lossy_chars-step, value-2, value-3, value-5}
use Rattle.bstr.proofs.lemmas.PieceLemmas.{value-8, value-11}
use Rattle.bstr.proofs.lemmas.UnicodeLemmas as unicode

-- UTF-8 at the front stays as it is
pub utf8_lossy-front : (text rest : List ℕ) → IsUtf8 text → utf8_lossy (text ++ rest) ≡ text
    ++ utf8_lossy rest
utf8_lossy-front text rest is =
    let cs = is.0 in
    sym (lossy_chars-utf8_lossy (text ++ rest))
    ∙ ap (λ t. encode_utf8_all (lossy_chars (t ++ rest))) (sym is.1.1)
    ∙ ap encode_utf8_all (lossy_chars-front cs rest is.1.0) ∙ encodes-append cs (lossy_chars rest)
    ∙ (λ i. is.1.1 i ++ lossy_chars-utf8_lossy rest i)

-- bytes at the front that are no character become one U+FFFD
utf8_lossy-bad : (bs : List ℕ) (size : ℕ) → 0 < length bs → decoded bs ≡ bad size
    → utf8_lossy bs ≡ replacement_bytes ++ utf8_lossy (drop size bs)
utf8_lossy-bad bs size some is =
    sym (lossy_chars-utf8_lossy bs) ∙ ap encode_utf8_all (lossy_chars-step bs some ∙ ap
    (λ (p : Decoded). or_replacement p.char ∷ lossy_chars (drop p.size bs)) is)
    ∙ ap (λ t. t ++ encode_utf8_all (lossy_chars (drop size bs))) unicode.replacement_bytes
    ∙ ap (λ t. replacement_bytes ++ t) (lossy_chars-utf8_lossy (drop size bs))

-- an ill-formed part that ends before the bytes do is the same before any more bytes
decoded-ill_formed : (bs more : List ℕ) (size : ℕ) → (decoded bs).char ≡ None → utf8_error_len bs
    ≡ Some size → decoded (bs ++ more) ≡ bad size
unfolding utf8_error_len
decoded-ill_formed bs more size none fault =
    let n = length bs in
    let b = slice_index bs 0 in let c = slice_index bs 1 in let d = slice_index bs 2 in let e =
    slice_index bs 3 in
    let all = bs ++ more in
    let b' = slice_index all 0 in let c' = slice_index all 1 in let d' =
    slice_index all 2 in let e' = slice_index all
    3 in
    let longer : n ≤ length all = omega (arith, length-append bs more) in
    let size_is : (decoded bs).size ≡ size = sym (utf8_invalid_len-decoded bs none)
    ∙ ap (λ o. unwrap_or o n) fault in
    let at = λ (i : ℕ) (within : i < n). get_or_append_left bs more 0 i within in
    let same = λ (k : ℕ) (is : decoded bs ≡ bad k). ap bad (sym (ap (λ (p : Decoded). p.size) is)
    ∙ size_is) in
    let char = λ (p : Decoded) (is : decoded bs ≡ p). sym (ap (λ (q : Decoded). q.char) is)
    ∙ none in
    by-shape {P = decoded all ≡ bad size} n b c d e
    (λ h. let ends : utf8_error_len bs ≡ None = grind (arith, nat_tests) in cc)
    (λ h. let k = char _ h.2 in cc)
    (λ h. let p = at 0 h.0 in value-2 (length all) b' c' d' e' (
      omega arith,
      omega arith,
      omega arith,
    ) ∙ same 1 h.3)
    (λ h. let p = at 0 h.0 in value-3 (length all) b' c' d' e' (omega arith, omega arith)
    ∙ same 1 h.2) (λ h. let ends : utf8_error_len bs ≡ None = grind (arith, nat_tests) in cc) (λ h.
    let p = at 0 (omega arith) in let q = at 1 (omega arith) in
    value-5 (length all) b' c' d' e' (
      omega arith,
      omega arith,
      omega arith,
      (λ i. second (p i) (q i)) ∙ h.3,
    ) ∙ same 1 h.4) (λ h. let k = char _ h.4 in cc)
    (λ h. let ends : utf8_error_len bs ≡ None = grind (arith, nat_tests) in cc) (λ h.
    let p = at 0 (omega arith) in let q = at 1 (omega arith) in let r = at 2 (omega arith) in
    value-8 (length all) b' c' d' e' (
      omega arith,
      omega arith,
      omega arith,
      (λ i. second (p i) (q i)) ∙ h.3,
      ap continues r ∙ h.4,
    ) ∙ same 2 h.5) (λ h. let k = char _ h.5 in cc)
    (λ h. let ends : utf8_error_len bs ≡ None = grind (arith, nat_tests) in cc) (λ h.
    let p = at 0 (omega arith) in let q = at 1 (omega arith) in let r =
    at 2 (omega arith) in let s = at 3
    (omega arith) in
    value-11 (length all) b' c' d' e' (
      omega arith,
      omega arith,
      omega arith,
      (λ i. second (p i) (q i)) ∙ h.3,
      ap continues r ∙ h.4,
      ap continues s ∙ h.5,
    ) ∙ same 3 h.6) (λ h. let k = char _ h.6 in cc)

-- after the longest front that is UTF-8, an ill-formed part that ends before the bytes do becomes
-- one U+FFFD
pub utf8_lossy-ill_formed : (bs more : List ℕ) (valid size : ℕ) → IsValidUpTo bs valid
    → utf8_error_len (drop valid bs) ≡ Some size → valid + size ≤ length bs
    → utf8_lossy (drop valid bs ++ more) ≡ replacement_bytes
    ++ utf8_lossy (drop (valid + size) bs ++ more)
utf8_lossy-ill_formed bs more valid size front fault within =
    let rest = drop valid bs in
    let short = front.short in
    let len = length-drop valid bs in
    let some : 0 < length (rest ++ more) = omega (arith, length-append rest more) in
    utf8_lossy-bad (rest ++ more) size some
    (decoded-ill_formed rest more size (unicode.none_after_valid bs valid front) fault)
    ∙ ap (λ t. replacement_bytes ++ utf8_lossy t)
    (drop-append-le size rest more (omega arith) ∙ ap (λ t. t ++ more) (drop-drop size valid bs))

-- and so do the bytes after it if they end within a character, and no more follow
pub utf8_lossy-incomplete : (bs more : List ℕ) (valid size : ℕ) → IsValidUpTo bs valid
    → utf8_error_len (drop valid bs) ≡ None → more ≡ [] → valid + size ≡ length bs
    → utf8_lossy (drop valid bs ++ more) ≡ replacement_bytes
    ++ utf8_lossy (drop (valid + size) bs ++ more)
utf8_lossy-incomplete bs more valid size front fault no_more whole =
    let rest = drop valid bs in
    let short = front.short in
    let len = length-drop valid bs in
    let none = unicode.none_after_valid bs valid front in
    let size_is : (decoded rest).size ≡ size =
    sym (utf8_invalid_len-decoded rest none) ∙ ap (λ o. unwrap_or o (length rest)) fault
    ∙ omega arith in
    let is : decoded rest ≡ bad size = λ i. record { char = none i; size = size_is i } in
    let nothing : rest ++ more ≡ rest = ap (λ t. rest ++ t) no_more ∙ append-nil rest in
    ap utf8_lossy nothing ∙ utf8_lossy-bad rest size (omega arith) is
    ∙ ap (λ t. replacement_bytes ++ utf8_lossy t)
    (drop-drop size valid bs ∙ sym (ap (λ t. drop (valid + size) bs ++ t) no_more ∙ append-nil _))

-- after the longest front that is UTF-8 no character begins
none-valid : (bs : List ℕ) (valid : ℕ) → IsValidUpTo bs valid → utf8_valid_len (drop valid bs) ≡ 0
none-valid bs valid front =
    let rest = drop valid bs in
    utf8_valid_len-IsValidUpTo rest 0 (record {
      short = omega (arith, front.short, length-drop valid bs);
      front = ([], (refl, refl));
      longest = λ m above text. front.longest (valid + m) (omega (arith, above))
          (subst IsUtf8 (sym (take-add valid m bs))
          (IsUtf8-append (take valid bs) (take m rest) front.front text));
    })

-- where the bytes end within a character, more could complete it
pub unfinished-ended : (bs : List ℕ) (valid : ℕ) → IsValidUpTo bs valid
    → utf8_error_len (drop valid bs) ≡ None → IsUnfinishedUtf8 (drop valid bs)
unfinished-ended bs valid front fault = (none-valid bs valid front, fault)

-- once all are taken, none is left
unfinished-none : (bs : List ℕ) → length bs ≡ 0 → IsUnfinishedUtf8 bs
unfolding utf8_valid_len utf8_error_len
unfinished-none [] none = (refl, refl)
unfinished-none (b ∷ bs) none = absurd (omega (arith, none))

pub unfinished-taken : (bs : List ℕ) → IsUnfinishedUtf8 (drop (length bs) bs)
unfinished-taken bs = unfinished-none (drop (length bs) bs)
    (omega (arith, length-drop (length bs) bs))

-- bytes that are cut at `room`
cut : (bs more : List ℕ) (room k : ℕ) → k ≤ room → room ≤ length bs → drop k bs ++ more
    ≡ drop k (take room bs) ++ (drop room bs ++ more)
cut bs more room k before within =
    let front = take room bs in
    ap (λ t. drop k t ++ more) (sym (take-append-drop room bs)) ∙ ap (λ t. t ++ more)
    (drop-append-le k front (drop room bs) (omega (arith, length-take-le room bs within)))
    ∙ append_assoc (drop k front) (drop room bs) more

-- what one U+FFFD replaces there is what it replaces in all the bytes
pub utf8_lossy-cut : (bs more : List ℕ) (room valid end : ℕ) → valid ≤ end → end ≤ room → room
    ≤ length bs → ((later : List ℕ) → utf8_lossy (drop valid (take room bs) ++ later)
    ≡ replacement_bytes ++ utf8_lossy (drop end (take room bs) ++ later))
    → utf8_lossy (drop valid bs ++ more) ≡ replacement_bytes ++ utf8_lossy (drop end bs ++ more)
utf8_lossy-cut bs more room valid end order before within replaced =
    ap utf8_lossy (cut bs more room valid (omega arith) within) ∙ replaced (drop room bs ++ more)
    ∙ ap (λ t. replacement_bytes ++ utf8_lossy t) (sym (cut bs more room end before within))

-- a part of what is left that was written after what was
text-written : (whole out next new left rest : List ℕ) → whole ≡ out ++ left → left ≡ next ++ rest
    → new ≡ out ++ next → whole ≡ new ++ rest
text-written whole out next new left rest before split put =
    before ∙ ap (λ t. out ++ t) split ∙ sym (append_assoc out next rest)
    ∙ ap (λ t. t ++ rest) (sym put)

-- UTF-8 that was copied from the first of the bytes that weren't taken
pub text-copied : (whole input more out new : List ℕ) (taken written n : ℕ) → taken + n
    ≤ length input → IsUtf8 (take n (take (length input - taken) (drop taken input)))
    → whole ≡ out ++ utf8_lossy (drop taken input ++ more)
    → take (written + length (take (taken + n - taken) (drop taken input))) new ≡ out
    ++ take (taken + n - taken) (drop taken input)
    → whole ≡ take (written + n) new ++ utf8_lossy (drop (taken + n) input ++ more)
text-copied whole input more out new taken written n within text before put =
    let rest = drop taken input in
    let left : n ≤ length rest = omega (arith, length-drop taken input) in
    let count : taken + n - taken ≡ n = omega arith in
    let size : length (take (taken + n - taken) rest) ≡ n = ap (λ k. length (take k rest)) count
    ∙ length-take-le n rest left in
    let is : IsUtf8 (take n rest) = subst (λ t. IsUtf8 (take n t)) (take_rest input taken) text in
    let split : utf8_lossy (rest ++ more) ≡ take n rest
    ++ utf8_lossy (drop (taken + n) input ++ more) =
    ap (λ t. utf8_lossy (t ++ more)) (sym (take-append-drop n rest))
    ∙ ap utf8_lossy (append_assoc (take n rest) (drop n rest) more)
    ∙ utf8_lossy-front (take n rest) (drop n rest ++ more) is
    ∙ ap (λ t. take n rest ++ utf8_lossy (t ++ more)) (drop-drop n taken input) in
    let copied : take (written + n) new ≡ out ++ take n rest =
    ap (λ k. take (written + k) new) (sym size) ∙ put ∙ ap (λ k. out ++ take k rest) count in
    text-written whole out (take n rest) (take (written + n) new) _ _ before split copied

-- U+FFFD that was written for the ill-formed part after it
pub text-replaced : (whole input more out new : List ℕ) (taken n size : ℕ)
    → utf8_lossy (drop n (take (length input - taken) (drop taken input)) ++ more)
    ≡ replacement_bytes ++ utf8_lossy
    (drop (n + size) (take (length input - taken) (drop taken input)) ++ more)
    → whole ≡ out ++ utf8_lossy (drop (taken + n) input ++ more) → new ≡ out ++ replacement_bytes
    → whole ≡ new ++ utf8_lossy (drop (taken + n + size) input ++ more)
text-replaced whole input more out new taken n size replaced before put =
    let all = take_rest input taken in
    let end : taken + (n + size) ≡ taken + n + size = omega arith in
    let split : utf8_lossy (drop (taken + n) input ++ more) ≡ replacement_bytes
    ++ utf8_lossy (drop (taken + n + size) input ++ more) =
    ap (λ t. utf8_lossy (t ++ more)) (sym (ap (drop n) all ∙ drop-drop n taken input)) ∙ replaced
    ∙ ap (λ t. replacement_bytes ++ utf8_lossy (t ++ more))
    (ap (drop (n + size)) all ∙ drop-drop (n + size) taken input ∙ ap (λ k. drop k input) end) in
    text-written whole out replacement_bytes new _ _ before split put

-- UTF-8 that was copied from the front of the first `room` bytes
pub text-front : (input more new : List ℕ) (room n : ℕ) → room ≤ length input → n
    ≤ length (take room input) → IsUtf8 (take n (take room input))
    → take (0 + length (take n input)) new ≡ take n input
    → utf8_lossy (input ++ more) ≡ take n new ++ utf8_lossy (drop n input ++ more)
text-front input more new room n fits within text put =
    let short : n ≤ room = omega (arith, length-take-le room input fits) in
    let first : take n (take room input) ≡ take n input =
    sym (take-append-le n (take room input) (drop room input) within)
    ∙ ap (take n) (take-append-drop room input) in
    let size : 0 + length (take n input) ≡ n =
    omega (arith, length-take-le n input (omega arith)) in
    ap (λ t. utf8_lossy (t ++ more)) (sym (take-append-drop n input))
    ∙ ap utf8_lossy (append_assoc (take n input) (drop n input) more)
    ∙ utf8_lossy-front (take n input) (drop n input ++ more) (subst IsUtf8 first text)
    ∙ ap (λ t. t ++ utf8_lossy (drop n input ++ more)) (sym put ∙ ap (λ k. take k new) size)
