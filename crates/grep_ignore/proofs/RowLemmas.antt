-- A row after another piece, position by position.
use Rattle.std.proofs.Common.{◌≡◌, ℕ, zero, suc, ◌+◌, ◌<◌, ◌≤◌, Bool, true, false, ◌&&◌, ◌||◌}
use Rattle.std.proofs.Common.{◌==◌, List, [], ◌∷◌, length, drop, get_or, set, refl, sym, ap, ◌∙◌, arith}
use Rattle.std.proofs.Common.{inl, inr, ◌↔◌, IsTrue, subst, ◌++◌, replicate, length-append, take, ◌-◌}
use Rattle.std.proofs.lemmas.List.{length-replicate}
use Rattle.std.proofs.lemmas.List.{drop_more, drop_all, get_or-set_same, get_or-set_other, length-set}
use Rattle.std.proofs.lemmas.Bool.{cases_eq}
use Rattle.grep_matcher.specs.ByteSets.{holds}
use Rattle.grep_ignore.specs.Matches.{Matches}
use Rattle.grep_ignore.specs.declared.wildcards.Piece.{Piece}
use Rattle.grep_ignore.specs.declared.wildcards.Piece.TheVariants.{Folders}
use Rattle.grep_ignore.specs.Rows.{IsRow, at_end, one_step, many_step, slash_step, step, decides}
use Rattle.grep_ignore.proofs.MatchLemmas.{matches-if, decided}

-- up to a position a row has what one test says, and from there on what another one does
abbrev pub IsPartly : ℕ → (List ℕ → Bool) → (List ℕ → Bool) → List ℕ → List Bool → Type 0
IsPartly at low high path row = (length row ≡ length path + 1)
    × ((k : ℕ) → k < at → get_or row k false ≡ low (drop k path))
    × ((k : ℕ) → at ≤ k → k ≤ length path → get_or row k false ≡ high (drop k path))

-- another position has what the first test says
pub sets-low : (at : ℕ) (low high : List ℕ → Bool) (path : List ℕ) (row : List Bool) (b : Bool)
    → at ≤ length path → IsPartly at low high path row → b ≡ low (drop at path)
    → IsPartly (at + 1) low high path (set row at b)
sets-low at low high path row b within is same = (
  length-set row at b ∙ is.0,
  (λ k below. elim (cases_eq k at) [
    | inl here ↦ rw here (get_or-set_same row at b false (omega (arith, is.0)) ∙ same)
    | inr other ↦ get_or-set_other row at k b false other ∙ is.1 k (omega arith)
  ]),
  (λ k above most. get_or-set_other row at k b false (λ e. omega arith) ∙ is.2 k (omega arith) most),
)

-- the position before has what the second test says
pub sets-high : (m at : ℕ) (low high : List ℕ → Bool) (path : List ℕ) (row : List Bool) (b : Bool)
    → m + 1 ≡ at → at ≤ length path + 1 → IsPartly at low high path row → b ≡ high (drop m path)
    → IsPartly m low high path (set row m b)
sets-high m at low high path row b before within is same = (
  length-set row m b ∙ is.0,
  (λ k below. get_or-set_other row m k b false (λ e. omega arith) ∙ is.1 k (omega arith)),
  (λ k above most. elim (cases_eq k m) [
    | inl here ↦ rw here (get_or-set_same row m b false (omega (arith, is.0)) ∙ same)
    | inr other ↦ get_or-set_other row m k b false other ∙ is.2 k (omega (arith, other)) most
  ]),
)

-- at last it has what the other one says
pub row-low : (at : ℕ) (low high : List ℕ → Bool) (path : List ℕ) (row : List Bool)
    → length path ≤ at → IsPartly (at + 1) low high path row → IsRow low path row
row-low at low high path row all is = (is.0, (λ k most. is.1 k (omega arith)))

pub row-high : (at : ℕ) (low high : List ℕ → Bool) (path : List ℕ) (row : List Bool) → at ≤ 0
    → IsPartly at low high path row → IsRow high path row
row-high at low high path row all is = (is.0, (λ k most. is.2 k (omega arith) most))

-- what each step says at a position
pub one-is : (f : List ℕ → Bool) (set : List Bool) (path : List ℕ) (row : List Bool) (at : ℕ)
    → at < length path → IsPartly at (one_step f set) f path row
    → (holds set (get_or path at 0) && get_or row (at + 1) false) ≡ one_step f set (drop at path)
one-is f set path row at below is =
    let later : get_or row (at + 1) false ≡ f (drop (at + 1) path) =
    is.2 (at + 1) (omega arith) (omega arith) in
    rw (drop_more path at 0 below, later) refl

pub one-ends : (f : List ℕ → Bool) (set : List Bool) (path : List ℕ) (at : ℕ) → length path ≤ at
    → false ≡ one_step f set (drop at path)
one-ends f set path at all = rw (drop_all at path all) refl

pub many-is : (f : List ℕ → Bool) (set : List Bool) (path : List ℕ) (row : List Bool) (m at : ℕ)
    → m + 1 ≡ at → at ≤ length path → IsPartly at f (many_step f set) path row
    → (get_or row m false || (holds set (get_or path m 0) && get_or row (m + 1) false))
    ≡ many_step f set (drop m path)
many-is f set path row m at before within is =
    let here : get_or row m false ≡ f (drop m path) = is.1 m (omega arith) in
    let later : get_or row (m + 1) false ≡ many_step f set (drop (m + 1) path) =
    is.2 (m + 1) (omega arith) (omega arith) in
    let below : m < length path = omega arith in
    rw (here, later, drop_more path m 0 below) refl

pub ends-is : (f : List ℕ → Bool) (path : List ℕ) (m at : ℕ) (later after : Bool) → m + 1 ≡ at
    → at ≤ length path → later ≡ slash_step f (drop at path) → after ≡ f (drop at path)
    → (later || ((get_or path m 0 == 47) && after)) ≡ slash_step f (drop m path)
ends-is f path m at later after before within ends is =
    let below : m < length path = omega arith in
    rw (ends, is, drop_more path m 0 below, ← before) refl

pub folders-is : (f : List ℕ → Bool) (path : List ℕ) (at : ℕ) (here ends : Bool)
    → here ≡ f (drop at path) → ends ≡ slash_step f (drop at path)
    → (here || ends) ≡ step Folders f (drop at path)
folders-is f path at here ends is end = rw (is, end) refl

-- the row of a piece and those after it
pub row-more : (pieces : List Piece) (m at : ℕ) (piece : Piece) (path : List ℕ) (row : List Bool)
    → m + 1 ≡ at → at ≤ length pieces → piece ≡ get_or pieces m piece
    → IsRow (step piece (decides (drop at pieces))) path row → IsRow (decides (drop m pieces)) path row
row-more pieces m at piece path row before within is row-is =
    let below : m < length pieces = omega arith in
    let same : decides (drop m pieces) ≡ step piece (decides (drop at pieces)) =
    ap decides (drop_more pieces m piece below)
    ∙ ap (λ p. step p (decides (drop (m + 1) pieces))) (sym is)
    ∙ ap (λ n. step piece (decides (drop n pieces))) before in
    subst (λ f. IsRow f path row) (sym same) row-is

-- the row of all pieces begins with whether the whole path matches
pub first-is : (pieces : List Piece) (at : ℕ) (path : List ℕ) (row : List Bool) → at ≤ 0
    → IsRow (decides (drop at pieces)) path row → IsTrue (get_or row 0 false) ↔ Matches pieces path
first-is pieces zero path row all is = (
  (λ passes. matches-if pieces path (sym (is.1 0 (omega arith)) ∙ passes)),
  (λ matches. is.1 0 (omega arith) ∙ decided pieces path matches),
)
first-is pieces (suc at) path row all is = absurd (omega arith)

-- the row of no pieces: they match at the end alone
pub first-at : (path : List ℕ) (k : ℕ) → k ≤ length path
    → get_or (replicate (length path) false ++ true ∷ []) k false ≡ at_end (drop k path)
first-at [] zero most = refl
first-at [] (suc k) most = absurd (omega arith)
first-at (byte ∷ path) zero most = refl
first-at (byte ∷ path) (suc k) most = first-at path k (omega arith)

pub first-row : (path : List ℕ) (row : List Bool)
    → row ≡ replicate (length path) false ++ true ∷ [] → IsRow at_end path row
first-row path row is = rw is (
  length-append (replicate (length path) false) (true ∷ [])
      ∙ ap (λ n. n + 1) (length-replicate (length path) false),
  first-at path,
)

take-none : (n : ℕ) → take {A = Bool} n [] ≡ []
take-none zero = refl
take-none (suc n) = refl

-- what an empty row is filled up with
pub filled : (items old : List Bool) (n len : ℕ) → items ≡ take n old ++ replicate (n - len) false
    → old ≡ [] → len ≡ 0 → items ≡ replicate n false
filled items old n len is none zero-len =
    let all : n - len ≡ n = omega arith in
    is ∙ ap (λ l. take n l ++ replicate (n - len) false) none
    ∙ ap (λ l. l ++ replicate (n - len) false) (take-none n)
    ∙ ap (λ m. replicate m false) all
