-- Bytes in which parts are replaced, one part after another.
use Rattle.std.proofs.Common.{◌≡◌, ℕ, ◌+◌, ◌-◌, ◌≤◌, List, [], ◌∷◌, ◌++◌}
use Rattle.std.proofs.Common.{length, drop, slice_range, take, arith, sym}
use Rattle.std.proofs.Common.{ap, ◌∙◌, append_assoc, append-nil, length-append}
use Rattle.std.proofs.Common.{length-drop, length-take, Option, None, Some}
use Rattle.std.proofs.Math.Seq.{take-length}
use Rattle.grep_replace.specs.MatchedParts.{AreInOrder}
use Rattle.grep_replace.specs.ReplacedBytes.{replaced_bytes, replaced_parts}
use Rattle.grep_printer.specs.ReplacedTexts.{ended}

range-length : (bytes : List ℕ) (from to : ℕ) → from ≤ to → to ≤ length bytes
    → length (slice_range bytes from to) ≡ to - from
range-length bytes from to ordered within =
    omega (arith, length-take (to - from) (drop from bytes), length-drop from bytes)

-- what is there so far, and what is still to be replaced, from a position on
pub record IsReplacing (text_at : ℕ → List ℕ) (bytes : List ℕ) (parts : List (ℕ × ℕ)) (made : List ℕ)
    (put : List (ℕ × ℕ)) (position : ℕ) (rest : List (ℕ × ℕ)) : Type 0 where
  pub bytes_are : made ++ replaced_bytes text_at bytes position rest ≡ replaced_bytes text_at bytes 0 parts
  pub parts_are : put ++ replaced_parts text_at (length made) position rest ≡ replaced_parts text_at 0 0 parts
  pub ordered : AreInOrder position (length bytes) rest
  pub within : position ≤ length bytes

-- one more part
pub replacing-more : (text_at : ℕ → List ℕ) (bytes : List ℕ) (parts : List (ℕ × ℕ)) (made : List ℕ)
    (put : List (ℕ × ℕ)) (position : ℕ) (part : ℕ × ℕ) (later rest : List (ℕ × ℕ)) (between after : List ℕ)
    (longer : List (ℕ × ℕ)) → rest ≡ part ∷ later → between ≡ made ++ slice_range bytes position part.0
    → after ≡ between ++ text_at part.0 → longer ≡ put ++ (length between, length after) ∷ []
    → IsReplacing text_at bytes parts made put position rest
    → IsReplacing text_at bytes parts after longer part.1 later
replacing-more text_at bytes parts made put position part later rest between after longer is front back more before =
    let order = subst-order in
    let range = slice_range bytes position part.0 in
    let text = text_at part.0 in
    let others = replaced_bytes text_at bytes part.1 later in
    record {
      bytes_are = rw (back, front) (append_assoc (made ++ range) text others
          ∙ (append_assoc made range (text ++ others) ∙ here));
      parts_are = rw more (append_assoc put ((length between, length after) ∷ []) _ ∙ there);
      ordered = order.3;
      within = omega (arith, order.1, order.2);
    }
  where
    subst-order : AreInOrder position (length bytes) (part ∷ later)
    subst-order = rw is at before.ordered

    here : made ++ (slice_range bytes position part.0 ++ (text_at part.0 ++ replaced_bytes text_at bytes part.1 later))
        ≡ replaced_bytes text_at bytes 0 parts
    here = rw is at before.bytes_are

    start : length between ≡ length made + (part.0 - position)
    start = ap length front ∙ (length-append made _
        ∙ ap (λ n. length made + n) (range-length bytes position part.0 subst-order.0
        (omega (arith, subst-order.1, subst-order.2))))

    end : length after ≡ length made + (part.0 - position) + length (text_at part.0)
    end = ap length back ∙ (length-append between _ ∙ ap (λ n. n + length (text_at part.0)) start)

    there : put ++ ((length between, length after) ∷ replaced_parts text_at (length after) part.1 later)
        ≡ replaced_parts text_at 0 0 parts
    there = rw (end, start) (rw is at before.parts_are)

-- what was put in lies in order in what was made of bytes from a position on, after so many others
parts-in-order : (text_at : ℕ → List ℕ) (bytes : List ℕ) (parts : List (ℕ × ℕ)) (count position high : ℕ)
    → AreInOrder position (length bytes) parts → count + length (replaced_bytes text_at bytes position parts) ≤ high
    → AreInOrder count high (replaced_parts text_at count position parts)
parts-in-order text_at bytes [] count position high ordered fits = tt
parts-in-order text_at bytes (part ∷ later) count position high ordered fits =
    let text = text_at part.0 in
    let rest = replaced_bytes text_at bytes part.1 later in
    let sized = range-length bytes position part.0 ordered.0 (omega (arith, ordered.1, ordered.2)) in
    let whole = length-append (slice_range bytes position part.0) (text ++ rest) in
    let others = length-append text rest in (
      omega arith,
      omega arith,
      omega (arith, fits, sized, whole, others),
      parts-in-order text_at bytes later (count + (part.0 - position) + length text) part.1 high ordered.3
          (omega (arith, fits, sized, whole, others)),
    )

-- an end makes bytes no shorter
ended-longer : (end : Option ℕ) (bytes : List ℕ) → length bytes ≤ length (ended end bytes)
ended-longer None bytes = omega arith
ended-longer (Some end) [] = omega arith
ended-longer (Some end) (byte ∷ bytes) = omega arith

replaced-in-order : (end : Option ℕ) (text_at : ℕ → List ℕ) (bytes : List ℕ) (parts : List (ℕ × ℕ))
    → AreInOrder 0 (length bytes) parts
    → AreInOrder 0 (length (ended end (replaced_bytes text_at bytes 0 parts))) (replaced_parts text_at 0 0 parts)
replaced-in-order end text_at bytes parts ordered =
    let made = replaced_bytes text_at bytes 0 parts in
    let longer = ended-longer end made in
    parts-in-order text_at bytes parts 0 0 (length (ended end made)) ordered (omega (arith, longer))

-- with the bytes after the last part, and the end, all is replaced
pub replaced-all : (end : Option ℕ) (text_at : ℕ → List ℕ) (bytes : List ℕ) (parts : List (ℕ × ℕ)) (made : List ℕ)
    (put : List (ℕ × ℕ)) (position : ℕ) (rest : List (ℕ × ℕ)) (whole last : List ℕ) → rest ≡ []
    → IsReplacing text_at bytes parts made put position rest
    → whole ≡ made ++ take (length bytes - position) (drop position bytes) → last ≡ ended end whole
    → AreInOrder 0 (length bytes) parts
    → (last ≡ ended end (replaced_bytes text_at bytes 0 parts)) × (put ≡ replaced_parts text_at 0 0 parts)
    × AreInOrder 0 (length last) put
replaced-all end text_at bytes parts made put position rest whole last none before tail ends ordered =
    (bytes-are, parts-are, rw (bytes-are, parts-are) (replaced-in-order end text_at bytes parts ordered))
  where
    left : take (length bytes - position) (drop position bytes) ≡ drop position bytes
    left = ap (λ n. take n (drop position bytes)) (sym (length-drop position bytes)) ∙ take-length (drop position bytes)

    whole-is : whole ≡ replaced_bytes text_at bytes 0 parts
    whole-is = tail ∙ (ap (λ b. made ++ b) left ∙ (rw none at before.bytes_are))

    bytes-are : last ≡ ended end (replaced_bytes text_at bytes 0 parts)
    bytes-are = ends ∙ ap (ended end) whole-is

    parts-are : put ≡ replaced_parts text_at 0 0 parts
    parts-are = sym (append-nil put) ∙ (rw none at before.parts_are)
