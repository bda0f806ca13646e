-- How long the lines of some bytes are, and with which bytes they begin and end.
use Rattle.std.proofs.Common.{◌≡◌, ◌≢◌, ℕ, ◌+◌, ◌-◌, ◌<◌, ◌≤◌, List, [], ◌∷◌, ◌++◌, length, take}
use Rattle.std.proofs.Common.{get_or, slice_index, refl, ap, sym, ◌∙◌, subst, arith, append-nil}
use Rattle.std.proofs.Common.{length-append}
use Rattle.std.proofs.lemmas.Bool.{ne_eqb}
use Rattle.std.proofs.lemmas.List.{get_or-append-add, take_at}
use Rattle.std.proofs.lemmas.List.Elements.{All-nil, All-cons, All-head, All-tail, All-weaker}
use Rattle.std.specs.List.{concat}
use Rattle.std.specs.Prelude.{All, slice_index_or}
use Rattle.grep_matcher.specs.Lines.{lines, line_start, onto_first}
use Rattle.grep_matcher.specs.AreLines.{AreEnded}
use Rattle.grep_matcher.proofs.LineLemmas.{AreLines-lines}

-- no piece is longer than all pieces joined
pieces-within : (pieces : List (List ℕ)) → All (λ piece. length piece ≤ length (concat pieces))
    pieces
pieces-within [] = All-nil (λ piece. length piece ≤ 0)
pieces-within (piece ∷ later) =
    let both = length-append piece (concat later) in
    All-cons (λ p. length p ≤ length (piece ++ concat later)) piece later (omega arith)
    (All-weaker (λ p. length p ≤ length (concat later)) (λ p. length p
    ≤ length (piece ++ concat later)) (λ p within. omega arith) later (pieces-within later))

-- no line is longer than the bytes
pub lines-within : (t : ℕ) (bytes : List ℕ) → All (λ line. length line ≤ length bytes)
    (lines t bytes)
lines-within t bytes =
    subst (λ bs. All (λ line. length line ≤ length bs) (lines t bytes))
    (AreLines-lines t bytes).joined (pieces-within (lines t bytes))

-- if all pieces but the last end in t, and all pieces joined do, then each piece does
pieces-end : (t : ℕ) (pieces : List (List ℕ)) → All (λ piece. 0 < length piece) pieces
    → AreEnded t pieces
    → (0 < length (concat pieces) → slice_index (concat pieces) (length (concat pieces) - 1) ≡ t)
    → All (λ piece. slice_index piece (length piece - 1) ≡ t) pieces
pieces-end t [] filled ended closed = All-nil (λ piece. slice_index piece (length piece - 1) ≡ t)
pieces-end t (last ∷ []) filled ended closed =
    let ends = subst (λ bs. 0 < length bs → slice_index bs (length bs - 1) ≡ t) (append-nil last)
    closed in
    All-cons (λ piece. slice_index piece (length piece - 1) ≡ t) last []
    (ends (All-head (λ piece. 0 < length piece) last [] filled))
    (All-nil (λ piece. slice_index piece (length piece - 1) ≡ t))
pieces-end t (piece ∷ next ∷ later) filled ended closed =
    let rest : List ℕ = concat (next ∷ later) in
    let both = length-append piece rest in
    All-cons (λ p. slice_index p (length p - 1) ≡ t) piece (next ∷ later) ended.0
    (pieces-end t (next ∷ later) (All-tail (λ p. 0 < length p) piece (next ∷ later) filled) ended.1
    (λ some.
    let last : length piece + (length rest - 1) ≡ length (piece ++ rest) - 1 = omega arith in
    sym (get_or-append-add piece rest (length rest - 1) 0)
    ∙ (ap (λ i. get_or (piece ++ rest) i 0) last ∙ closed (omega arith))))

-- every line of bytes that are empty or end in the terminator ends in it
pub lines-end : (t : ℕ) (bytes : List ℕ) → (0 < length bytes → slice_index bytes (length bytes - 1)
    ≡ t) → All (λ line. slice_index line (length line - 1) ≡ t) (lines t bytes)
lines-end t bytes closed =
    let is = AreLines-lines t bytes in
    pieces-end t (lines t bytes) is.filled is.ended
    (subst (λ bs. 0 < length bs → slice_index bs (length bs - 1) ≡ t) (sym is.joined) closed)

-- bytes without a terminator begin the first line
pub first-begins : (t : ℕ) (tail more : List ℕ) → All (λ b. b ≢ t) tail
    → slice_index_or (lines t (tail ++ more)) 0 [] ≡ tail ++ slice_index_or (lines t more) 0 []
first-begins t [] more lacks = refl
first-begins t (b ∷ tail) more lacks =
    let no = ne_eqb b t (All-head (λ c. c ≢ t) b tail lacks) in
    let later = first-begins t tail more (All-tail (λ c. c ≢ t) b tail lacks) in
    rw no (onto (lines t (tail ++ more)) ∙ ap (λ line. b ∷ line) later)
  where
    onto : (ls : List (List ℕ)) → get_or (onto_first b ls) 0 [] ≡ b ∷ get_or ls 0 []
    onto [] = refl
    onto (line ∷ ls) = refl

-- so they are its front
pub first-open : (t : ℕ) (tail more : List ℕ) → All (λ b. b ≢ t) tail
    → (take (length tail) (slice_index_or (lines t (tail ++ more)) 0 []) ≡ tail)
    × (length tail ≤ length (slice_index_or (lines t (tail ++ more)) 0 []))
first-open t tail more lacks =
    let begins = first-begins t tail more lacks in
    let rest : List ℕ = slice_index_or (lines t more) 0 [] in (
      ap (take (length tail)) begins ∙ take_at tail rest (length tail) refl,
      omega (arith, ap length begins, length-append tail rest),
    )

-- the second line begins where the first one ends
pub second-start : (t : ℕ) (bytes : List ℕ) → line_start t bytes 1
    ≡ length (slice_index_or (lines t bytes) 0 [])
second-start t bytes = go (lines t bytes)
  where
    go : (ls : List (List ℕ)) → length (concat (take 1 ls)) ≡ length (get_or ls 0 [])
    go [] = refl
    go (line ∷ ls) = ap length (append-nil line)

-- and no second line begins before they end
pub first-long : (t : ℕ) (tail more : List ℕ) → All (λ b. b ≢ t) tail → length tail
    ≤ line_start t (tail ++ more) 1
first-long t tail more lacks = omega (
  arith,
  second-start t (tail ++ more),
  (first-open t tail more lacks).1,
)
