-- Where lines start, by the laws of the lines of some bytes.
use Rattle.std.proofs.Common.{◌≡◌, ℕ, zero, suc, ◌+◌, ◌-◌, ◌<◌, ◌≤◌, List, [], ◌∷◌, ◌++◌, length}
use Rattle.std.proofs.Common.{take, drop, get_or, ap, sym, ◌∙◌, refl, arith, ⊎_elim, length-append}
use Rattle.std.proofs.Common.{take-append-drop}
use Rattle.std.proofs.lemmas.Bool.{cases_lt}
use Rattle.std.proofs.lemmas.List.{take_more, take_all, append-nil}
use Rattle.std.proofs.lemmas.List.Elements.{All-get_or}
use Rattle.std.proofs.lemmas.List.Folds.{concat-append}
use Rattle.std.proofs.Math.Seq.{take-length}
use Rattle.std.specs.List.{concat}
use Rattle.grep_matcher.specs.Lines.{lines, line_start}
use Rattle.grep_matcher.proofs.LineLemmas.{AreLines-lines}

-- a line starts after all of the line before it
pub line_start-more : (t : ℕ) (bytes : List ℕ) (i : ℕ) → i < length (lines t bytes)
    → line_start t bytes (i + 1) ≡ line_start t bytes i + length (get_or (lines t bytes) i [])
line_start-more t bytes i below =
    let all : List (List ℕ) = lines t bytes in
    ap (λ ls. length (concat ls)) (take_more all i [] below)
    ∙ ap length (concat-append (take i all) (get_or all i [] ∷ []))
    ∙ length-append (concat (take i all)) (get_or all i [] ++ [])
    ∙ ap (λ line. length (concat (take i all)) + length line) (append-nil (get_or all i []))

-- the next line starts no earlier
pub line_start-next : (t : ℕ) (bytes : List ℕ) (i : ℕ) → line_start t bytes i
    ≤ line_start t bytes (i + 1)
line_start-next t bytes i = ⊎_elim (λ below. omega (arith, line_start-more t bytes i below))
    (λ beyond.
    let all : List (List ℕ) = lines t bytes in
    let same = ap (λ ls. length (concat ls)) (take_all (i + 1) all (omega arith)
    ∙ sym (take_all i all beyond)) in
    omega arith) (cases_lt i (length (lines t bytes)))

-- a later line starts no earlier
pub line_start-le : (t : ℕ) (bytes : List ℕ) (i j : ℕ) → i ≤ j → line_start t bytes i
    ≤ line_start t bytes j
line_start-le t bytes i j low = at (j - i) j (omega arith)
  where
    at : (d m : ℕ) → m ≡ i + d → line_start t bytes i ≤ line_start t bytes m
    at zero m is = let same : m ≡ i = omega arith in rw same (omega arith)
    at (suc d) m is =
        let next : m ≡ (i + d) + 1 = omega arith in
        rw next (omega (arith, at d (i + d) refl, line_start-next t bytes (i + d)))

module _ (t : ℕ) (bytes : List ℕ) where
  -- a line begins before the next one
  pub line_start-ascends : (i : ℕ) → i < length (lines t bytes) → line_start t bytes i
      < line_start t bytes (i + 1)
  line_start-ascends i below =
      let filled : 0 < length (get_or (lines t bytes) i []) = All-get_or (λ line. 0 < length line)
      (lines t bytes) i [] below (AreLines-lines t bytes).filled in
      omega (arith, line_start-more t bytes i below)

  -- no line begins after the end of the bytes
  pub line_start-within : (i : ℕ) → line_start t bytes i ≤ length bytes
  line_start-within i =
      let all : List (List ℕ) = lines t bytes in
      let cut = ap (λ ls. length (concat ls)) (take-append-drop i all) in
      omega (
        arith,
        ap length (concat-append (take i all) (drop i all)),
        length-append (concat (take i all)) (concat (drop i all)),
        ap length (AreLines-lines t bytes).joined,
      )

  -- after the last line the bytes end
  pub line_start-last : line_start t bytes (length (lines t bytes)) ≡ length bytes
  line_start-last = ap (λ ls. length (concat ls)) (take-length (lines t bytes))
      ∙ ap length (AreLines-lines t bytes).joined
