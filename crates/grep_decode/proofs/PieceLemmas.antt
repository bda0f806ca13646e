-- Lists that are read and written in pieces.
use Rattle.std.proofs.Common.{◌≡◌, ℕ, ◌+◌, ◌-◌, ◌≤◌, List, ◌++◌, length, take, drop, sym, ap, ◌∙◌}
use Rattle.std.proofs.Common.{append_assoc, arith}
use Rattle.std.proofs.Math.Seq.{take-append-add, take-add}
use Rattle.std.proofs.lemmas.List.{take-append-drop, take-append-le, length-take-le, length-drop}
use Rattle.std.proofs.lemmas.List.{take_at, drop-drop, drop-append-le, drop-take}
use Rattle.std.proofs.lemmas.List.Edits.{take-paste, length-paste}
use Rattle.std.specs.List.{copy_within}
use borrow.Rule.Slice.PartMut.{put_mid}

-- a prefix that goes some elements into a part that was written
pub take-put_mid_into : {X : Type 0} (from size more : ℕ) (xs ys : List X) → from ≤ length xs → more
    ≤ length ys → take (from + more) (put_mid from size xs ys) ≡ take from xs ++ take more ys
take-put_mid_into from size more xs ys within part =
    let rest = put_mid from size xs ys in
    let here : length (take from xs) ≡ from = length-take-le from xs within in
    ap (λ n. take (n + more) rest) (sym here) ∙ take-append-add (take from xs) _ more
    ∙ ap (λ l. take from xs ++ l) (take-append-le more ys _ part)

-- the first elements of a window, copied out, and the rest of the window
pub window-given : {X : Type 0} (start end count size : ℕ) (xs front zs : List X) → count ≤ end
    - start → end ≤ length xs → size ≡ count → front ≡ take size (drop start xs)
    → take (end - start) (drop start xs) ≡ take count (front ++ zs)
    ++ take (end - (start + count)) (drop (start + count) xs)
window-given start end count size xs front zs fits within same copied =
    let window = drop start xs in
    let is : front ≡ take count window = copied ∙ ap (λ k. take k window) same in
    let long : count ≤ length window = rw length-drop (omega arith) in
    let len : length front ≡ count = ap length is ∙ length-take-le count window long in
    let sum : end - start ≡ count + (end - (start + count)) = omega arith in
    ap (λ k. take k window) sum ∙ take-add count (end - (start + count)) window
    ∙ ap (λ l. l ++ take (end - (start + count)) (drop count window))
    (sym is ∙ sym (take_at front zs count len))
    ∙ ap (λ l. take count (front ++ zs) ++ take (end - (start + count)) l)
    (drop-drop count start xs)

-- a window without its first elements
pub window-skipped : {X : Type 0} (start end count : ℕ) (xs : List X) → count ≤ end - start
    → take (end - (start + count)) (drop (start + count) xs)
    ≡ drop count (take (end - start) (drop start xs))
window-skipped start end count xs fits =
    let sum : end - start ≡ count + (end - (start + count)) = omega arith in
    sym (ap (λ k. drop count (take k (drop start xs))) sum ∙ drop-take count (end - (start + count))
    (drop start xs) ∙ ap (take (end - (start + count))) (drop-drop count start xs))

zero-add : (n : ℕ) → n ≡ 0 + n
zero-add n = omega arith

-- a window that was moved to the front, and then elements that were written after it
pub window-appended : {X : Type 0} (start end size count : ℕ) (xs moved values ys : List X) → start
    ≤ end → end ≤ length xs
    → moved ≡ copy_within xs start end 0 → values ≡ moved → count ≤ length ys
    → take (((end - start) + count) - 0) (drop 0 (put_mid (end - start) size values ys))
    ≡ take (end - start) (drop start xs) ++ take count ys
window-appended start end size count xs moved values ys ordered within is same part =
    let held = end - start in
    let rest : held ≤ length (drop start xs) = rw length-drop (omega arith) in
    let long : length values ≡ length xs = ap length (same ∙ is)
    ∙ length-paste xs 0 (drop start xs) held (omega arith) rest in
    let front : take held values ≡ take held (drop start xs) =
    ap (take held) (same ∙ is) ∙ (ap (λ k. take k (copy_within xs start end 0)) (zero-add held)
    ∙ take-paste xs 0 (drop start xs) held (omega arith) rest) in
    let all : (held + count) - 0 ≡ held + count = omega arith in
    ap (λ k. take k (put_mid held size values ys)) all
    ∙ take-put_mid_into held size count values ys (omega (arith, long)) part
    ∙ ap (λ l. l ++ take count ys) front

-- a text whose first part was written, and then the next part
pub text-more : (text : List ℕ → List ℕ) (input output buffer more : List ℕ)
    (taken written next count size : ℕ) → written ≤ length output
    → count ≤ length buffer → text (input ++ more) ≡ take written output
    ++ text (drop taken input ++ more) → text (drop taken input ++ more) ≡ take count buffer
    ++ text (drop next (drop taken input) ++ more)
    → text (input ++ more) ≡ take (written + count) (put_mid written size output buffer)
    ++ text (drop (taken + next) input ++ more)
text-more text input output buffer more taken written next count size within part before now =
    let rest = text (drop (taken + next) input ++ more) in
    before ∙ (ap (λ l. take written output ++ l) (now
    ∙ ap (λ l. take count buffer ++ text (l ++ more)) (drop-drop next taken input))
    ∙ (sym (append_assoc (take written output) (take count buffer) rest)
    ∙ ap (λ l. l ++ rest) (sym (take-put_mid_into written size count output buffer within part))))

-- what is made of some front of a block of the input is made of the input
pub text-front : (text : List ℕ → List ℕ) (input output after more : List ℕ) (block size count : ℕ)
    → count ≤ length output → size ≤ length (take block input)
    → ((later : List ℕ) → text (take block input ++ later)
    ≡ take count output ++ text (drop size (take block input) ++ later))
    → text (input ++ more) ≡ take count (output ++ after) ++ text (drop size input ++ more)
text-front text input output after more block size count few within written =
    let front = take block input in
    let back = drop block input in
    let split : front ++ back ≡ input = take-append-drop block input in
    let whole : front ++ (back ++ more) ≡ input ++ more = sym (append_assoc front back more)
    ∙ ap (λ l. l ++ more) split in
    let left : drop size front ++ back ≡ drop size input =
    sym (drop-append-le size front back within) ∙ ap (drop size) split in
    let rest : drop size front ++ (back ++ more) ≡ drop size input ++ more =
    sym (append_assoc (drop size front) back more) ∙ ap (λ l. l ++ more) left in
    ap text (sym whole) ∙ (written (back ++ more) ∙ (ap (λ l. take count output ++ text l) rest
    ∙ ap (λ l. l ++ text (drop size input ++ more)) (sym (take-append-le count output after few))))

-- what is left of some bytes once the first are dropped, and then some more
pub dropped : (head rest : List ℕ) (n : ℕ) → rest ≡ drop n head → (front : List ℕ)
    × (head ≡ front ++ rest)
dropped head rest n is = (
  take n head,
  sym (take-append-drop n head) ∙ ap (λ l. take n head ++ l) (sym is),
)

pub dropped-twice : (head rest last : List ℕ) (n m : ℕ) → rest ≡ drop n head → last ≡ drop m rest
    → (front : List ℕ) × (head ≡ front ++ last)
dropped-twice head rest last n m first second =
    let a = dropped head rest n first in
    let b = dropped rest last m second in
    (a.0 ++ b.0, a.1 ∙ (ap (λ l. a.0 ++ l) b.1 ∙ sym (append_assoc a.0 b.0 last)))
