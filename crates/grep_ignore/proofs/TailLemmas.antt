-- Pieces of which the last is one byte, and the last byte of a path.
use Rattle.std.proofs.Common.{◌≡◌, ℕ, ◌+◌, ◌≤◌, Bool, true, false, List, [], ◌∷◌, ◌++◌, length, take, get_or}
use Rattle.std.proofs.Common.{refl, sym, ap, ◌∙◌, subst, arith, append_assoc, IsTrue, ◌↔◌, length-append}
use Rattle.std.proofs.lemmas.Bool.{false≢true}
use Rattle.std.proofs.lemmas.List.{take_more, take_all, append-nil}
use Rattle.grep_matcher.specs.ByteSets.{holds}
use Rattle.grep_ignore.specs.Matches.{Matches}
use Rattle.grep_ignore.specs.declared.wildcards.Piece.{Piece}
use Rattle.grep_ignore.specs.declared.wildcards.Piece.TheVariants.{One}

-- what matches ends in a byte of the last piece, and before it what matches the others
EndsSo : List Piece → List Bool → List ℕ → Type 0
EndsSo front set path = (before : List ℕ) × (byte : ℕ) × (path ≡ before ++ byte ∷ [])
    × IsTrue (holds set byte) × Matches front before

last-matches : (front : List Piece) (set : List Bool) (path : List ℕ)
    → Matches (front ++ One set ∷ []) path → EndsSo front set path
unfolding EndsSo
last-matches [] set path (part, rest, is, fits, none) = (
  [],
  fits.0,
  is ∙ ap (λ l. part ++ l) none ∙ append-nil part ∙ fits.1,
  fits.2,
  refl,
)
last-matches (piece ∷ later) set path (part, rest, is, fits, matches) =
    let found : EndsSo later set rest = last-matches later set rest matches in (
      part ++ found.0,
      found.1,
      is ∙ ap (λ l. part ++ l) found.2 ∙ sym (append_assoc part found.0 (found.1 ∷ [])),
      found.3,
      (part, found.0, refl, fits, found.4),
    )

joined : (front : List Piece) (set : List Bool) (before : List ℕ) (byte : ℕ) → Matches front before
    → IsTrue (holds set byte) → Matches (front ++ One set ∷ []) (before ++ byte ∷ [])
joined [] set before byte matches holds-it =
    (byte ∷ [], [], ap (λ l. l ++ byte ∷ []) matches, (byte, refl, holds-it), refl)
joined (piece ∷ later) set before byte (part, rest, is, fits, matches) holds-it = (
  part,
  rest ++ byte ∷ [],
  ap (λ l. l ++ byte ∷ []) is ∙ append_assoc part rest (byte ∷ []),
  fits,
  joined later set rest byte matches holds-it,
)

-- two lists that are equal with a last byte each
head-same : (x y : ℕ) (xs ys : List ℕ) → x ∷ xs ≡ y ∷ ys → (x ≡ y) × (xs ≡ ys)
head-same x y xs ys is = (ap (λ l. get_or l 0 0) is, ap tail-of is)
  where
    tail-of : List ℕ → List ℕ
    tail-of [] = []
    tail-of (z ∷ zs) = zs

last-same : (xs ys : List ℕ) (x y : ℕ) → xs ++ x ∷ [] ≡ ys ++ y ∷ [] → (xs ≡ ys) × (x ≡ y)
last-same [] [] x y is = (refl, (head-same x y [] [] is).0)
last-same [] (z ∷ ys) x y is =
    let long : length (z ∷ (ys ++ y ∷ [])) ≡ 1 = ap length (sym is) in
    absurd (omega (arith, length-append ys (y ∷ [])))
last-same (z ∷ xs) [] x y is =
    let long : length (z ∷ (xs ++ x ∷ [])) ≡ 1 = ap length is in
    absurd (omega (arith, length-append xs (x ∷ [])))
last-same (w ∷ xs) (z ∷ ys) x y is =
    let both : (w ≡ z) × (xs ++ x ∷ [] ≡ ys ++ y ∷ []) = head-same w z _ _ is in
    let later : (xs ≡ ys) × (x ≡ y) = last-same xs ys x y both.1 in
    (ap (λ h. h ∷ xs) both.0 ∙ ap (λ t. z ∷ t) later.0, later.1)

-- pieces with one byte last match where they do before the last byte, and it is of the set
pub last-is : (front : List Piece) (set : List Bool) (before : List ℕ) (byte : ℕ)
    → IsTrue (holds set byte) → Matches (front ++ One set ∷ []) (before ++ byte ∷ []) ↔ Matches front before
unfolding EndsSo
last-is front set before byte holds-it = (
  (λ matches.
      let found : EndsSo front set (before ++ byte ∷ []) = last-matches front set (before ++ byte ∷ []) matches in
      let same : (before ≡ found.0) × (byte ≡ found.1) = last-same before found.0 byte found.1 found.2 in
      subst (Matches front) (sym same.0) found.4),
  (λ matches. joined front set before byte matches holds-it),
)

-- and nowhere if it isn't
pub last-apart : (front : List Piece) (set : List Bool) (before : List ℕ) (byte : ℕ)
    → holds set byte ≡ false → Matches (front ++ One set ∷ []) (before ++ byte ∷ []) → ⊥
unfolding EndsSo
last-apart front set before byte apart matches =
    let found : EndsSo front set (before ++ byte ∷ []) = last-matches front set (before ++ byte ∷ []) matches in
    let same : (before ≡ found.0) × (byte ≡ found.1) = last-same before found.0 byte found.1 found.2 in
    false≢true (sym apart ∙ ap (holds set) same.1 ∙ found.3)

-- the first pieces, and the first bytes of a path, of which each list has one more
ends-so : (pieces : List Piece) (path : List ℕ) (n count m length' : ℕ) (piece : Piece) (set : List Bool)
    → n + 1 ≡ count → m + 1 ≡ length' → count ≤ length pieces → length' ≤ length path
    → piece ≡ get_or pieces n piece → piece ≡ One set
    → (take count pieces ≡ take n pieces ++ One set ∷ []) × (take length' path ≡ take m path ++ get_or path m 0 ∷ [])
ends-so pieces path n count m length' piece set next after within most at is = (
  ap (λ k. take k pieces) (sym next) ∙ take_more pieces n piece (omega arith)
      ∙ ap (λ p. take n pieces ++ p ∷ []) (sym at ∙ is),
  ap (λ k. take k path) (sym after) ∙ take_more path m 0 (omega arith),
)

pub ends-fit : (pieces : List Piece) (path : List ℕ) (n count m length' : ℕ) (piece : Piece) (set : List Bool)
    → n + 1 ≡ count → m + 1 ≡ length' → count ≤ length pieces → length' ≤ length path
    → piece ≡ get_or pieces n piece → piece ≡ One set → true ≡ holds set (get_or path m 0)
    → Matches pieces path ↔ Matches (take count pieces) (take length' path)
    → Matches pieces path ↔ Matches (take n pieces) (take m path)
ends-fit pieces path n count m length' piece set next after within most at is fits same =
    let both = ends-so pieces path n count m length' piece set next after within most at is in
    let last : Matches (take count pieces) (take length' path) ↔ Matches (take n pieces) (take m path) =
    subst (λ p. Matches p (take length' path) ↔ Matches (take n pieces) (take m path)) (sym both.0)
    (subst (λ l. Matches (take n pieces ++ One set ∷ []) l ↔ Matches (take n pieces) (take m path)) (sym both.1)
    (last-is (take n pieces) set (take m path) (get_or path m 0) (sym fits))) in
    ((λ h. last.0 (same.0 h)), (λ h. same.1 (last.1 h)))

pub ends-apart : (pieces : List Piece) (path : List ℕ) (n count m length' : ℕ) (piece : Piece) (set : List Bool)
    → n + 1 ≡ count → m + 1 ≡ length' → count ≤ length pieces → length' ≤ length path
    → piece ≡ get_or pieces n piece → piece ≡ One set → false ≡ holds set (get_or path m 0)
    → Matches pieces path ↔ Matches (take count pieces) (take length' path) → Matches pieces path → ⊥
ends-apart pieces path n count m length' piece set next after within most at is apart same matches =
    let both = ends-so pieces path n count m length' piece set next after within most at is in
    last-apart (take n pieces) set (take m path) (get_or path m 0) (sym apart)
    (subst (λ l. Matches (take n pieces ++ One set ∷ []) l) both.1
    (subst (λ p. Matches p (take length' path)) both.0 (same.0 matches)))

-- at the start all are left
pub all-left : (pieces : List Piece) (path : List ℕ)
    → Matches pieces path ↔ Matches (take (length pieces) pieces) (take (length path) path)
all-left pieces path =
    let first : take (length pieces) pieces ≡ pieces = take_all (length pieces) pieces (omega arith) in
    let second : take (length path) path ≡ path = take_all (length path) path (omega arith) in
    rw (first, second) ((λ h. h), (λ h. h))
