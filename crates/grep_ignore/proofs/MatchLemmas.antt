-- A test of what pieces match, from the end of a glob on, and that it says what the definition does.
use Rattle.std.proofs.Common.{◌≡◌, ℕ, zero, suc, Bool, ◌&&◌, ◌==◌}
use Rattle.std.proofs.Common.{List, [], ◌∷◌, ◌++◌, IsTrue, inl, inr}
use Rattle.std.proofs.Common.{refl, sym, ap, ◌∙◌, arith, append_assoc}
use Rattle.std.proofs.lemmas.Bool.{and_parts, and_from, or_cases, or_left, or_right}
use Rattle.std.proofs.lemmas.Bool.{false≢true, eqb-true}
use Rattle.std.specs.List.{All}
use Rattle.grep_matcher.specs.ByteSets.{holds}
use Rattle.grep_ignore.specs.declared.wildcards.Piece.{Piece}
use Rattle.grep_ignore.specs.declared.wildcards.Piece.TheVariants.{One, Many, Folders}
use Rattle.grep_ignore.specs.Matches.{Fits, Matches}
use Rattle.grep_ignore.specs.Rows.{one_step, many_step, slash_step, step, decides}

-- a path that a piece's step passes has a part for the piece, and a rest that the test passes
abbrev Splits : Piece → (List ℕ → Bool) → List ℕ → Type 0
Splits piece f path = (part : List ℕ) × (rest : List ℕ)
    × (path ≡ part ++ rest) × Fits piece part × IsTrue (f rest)

one-splits : (f : List ℕ → Bool) (set : List Bool) (path : List ℕ) → IsTrue (one_step f set path)
    → Splits (One set) f path
one-splits f set [] passes = absurd (false≢true passes)
one-splits f set (byte ∷ rest) passes =
    let both : IsTrue (holds set byte) × IsTrue (f rest) = and_parts (holds set byte) (f rest) passes in
    (byte ∷ [], rest, refl, (byte, refl, both.0), both.1)

all-cons : (set : List Bool) (byte : ℕ) (part : List ℕ) → IsTrue (holds set byte)
    → All (λ b. IsTrue (holds set b)) part → All (λ b. IsTrue (holds set b)) (byte ∷ part)
all-cons set byte part first later zero d below = first
all-cons set byte part first later (suc k) d below = later k d (omega arith)

many-splits : (f : List ℕ → Bool) (set : List Bool) (path : List ℕ) → IsTrue (many_step f set path)
    → Splits (Many set) f path
many-splits f set [] passes = ([], [], refl, (λ k d below. absurd (omega arith)), passes)
many-splits f set (byte ∷ rest) passes =
    elim (or_cases (f (byte ∷ rest)) (holds set byte && many_step f set rest) passes) [
      | inl now ↦ ([], byte ∷ rest, refl, (λ k d below. absurd (omega arith)), now)
      | inr later ↦ let both : IsTrue (holds set byte) × IsTrue (many_step f set rest) =
          and_parts (holds set byte) (many_step f set rest) later in
          let tail : Splits (Many set) f rest = many-splits f set rest both.1 in
          (byte ∷ tail.0, tail.1, ap (λ l. byte ∷ l) tail.2, all-cons set byte tail.0 both.0 tail.3, tail.4)
    ]

slash-splits : (f : List ℕ → Bool) (path : List ℕ) → IsTrue (slash_step f path)
    → (front : List ℕ) × (rest : List ℕ) × (path ≡ front ++ 47 ∷ rest) × IsTrue (f rest)
slash-splits f [] passes = absurd (false≢true passes)
slash-splits f (byte ∷ rest) passes =
    elim (or_cases (slash_step f rest) ((byte == 47) && f rest) passes) [
      | inl later ↦ let tail : (front : List ℕ) × (after : List ℕ) × (rest ≡ front ++ 47 ∷ after)
          × IsTrue (f after) = slash-splits f rest later in
          (byte ∷ tail.0, tail.1, ap (λ l. byte ∷ l) tail.2, tail.3)
      | inr here ↦ let both : IsTrue (byte == 47) × IsTrue (f rest) =
          and_parts (byte == 47) (f rest) here in
          ([], rest, ap (λ b. b ∷ rest) (eqb-true byte 47 both.0), both.1)
    ]

splits : (piece : Piece) (f : List ℕ → Bool) (path : List ℕ) → IsTrue (step piece f path)
    → Splits piece f path
splits (One set) f path passes = one-splits f set path passes
splits (Many set) f path passes = many-splits f set path passes
splits Folders f path passes = elim (or_cases (f path) (slash_step f path) passes) [
  | inl now ↦ ([], path, refl, inl refl, now)
  | inr later ↦ let found : (front : List ℕ) × (rest : List ℕ) × (path ≡ front ++ 47 ∷ rest)
      × IsTrue (f rest) = slash-splits f path later in (
        found.0 ++ 47 ∷ [],
        found.1,
        found.2 ∙ sym (append_assoc found.0 (47 ∷ []) found.1),
        inr (found.0, refl),
        found.3,
      )
]

many-joins : (f : List ℕ → Bool) (set : List Bool) (part rest : List ℕ)
    → All (λ b. IsTrue (holds set b)) part → IsTrue (f rest) → IsTrue (many_step f set (part ++ rest))
many-joins f set [] [] all passes = passes
many-joins f set [] (byte ∷ rest) all passes =
    or_left (f (byte ∷ rest)) (holds set byte && many_step f set rest) passes
many-joins f set (byte ∷ part) rest all passes =
    or_right (f (byte ∷ (part ++ rest))) (holds set byte && many_step f set (part ++ rest))
    (and_from (holds set byte) (many_step f set (part ++ rest)) (all 0 0 (omega arith))
    (many-joins f set part rest (λ k d below. all (suc k) d (omega arith)) passes))

slash-joins : (f : List ℕ → Bool) (front rest : List ℕ) → IsTrue (f rest)
    → IsTrue (slash_step f (front ++ 47 ∷ rest))
slash-joins f [] rest passes = or_right (slash_step f rest) (f rest) passes
slash-joins f (byte ∷ front) rest passes =
    or_left (slash_step f (front ++ 47 ∷ rest)) ((byte == 47) && f (front ++ 47 ∷ rest))
    (slash-joins f front rest passes)

joins : (piece : Piece) (f : List ℕ → Bool) (part rest : List ℕ) → Fits piece part → IsTrue (f rest)
    → IsTrue (step piece f (part ++ rest))
joins (One set) f part rest fits passes = rw fits.1 (and_from (holds set fits.0) (f rest) fits.2 passes)
joins (Many set) f part rest fits passes = many-joins f set part rest fits passes
joins Folders f part rest fits passes = elim fits [
  | inl empty ↦ rw empty (or_left (f rest) (slash_step f rest) passes)
  | inr ends ↦ rw (ends.1, append_assoc ends.0 (47 ∷ []) rest)
      (or_right (f (ends.0 ++ 47 ∷ rest)) (slash_step f (ends.0 ++ 47 ∷ rest))
      (slash-joins f ends.0 rest passes))
]

-- what the test says is so
pub matches-if : (pieces : List Piece) (path : List ℕ) → IsTrue (decides pieces path)
    → Matches pieces path
matches-if [] [] passes = refl
matches-if [] (byte ∷ rest) passes = absurd (false≢true passes)
matches-if (piece ∷ later) path passes =
    let found : Splits piece (decides later) path = splits piece (decides later) path passes in
    (found.0, found.1, found.2, found.3, matches-if later found.1 found.4)

-- and it says all that is
pub decided : (pieces : List Piece) (path : List ℕ) → Matches pieces path
    → IsTrue (decides pieces path)
decided [] path matches = rw matches refl
decided (piece ∷ later) path matches = rw matches.2
    (joins piece (decides later) matches.0 matches.1 matches.3 (decided later matches.1 matches.4))
