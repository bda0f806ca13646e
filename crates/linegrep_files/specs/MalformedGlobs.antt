-- Which texts of globs can't be read.
use Rattle.std.specs.Prelude.{◌≡◌, ℕ, ◌<◌, ◌⊎◌, Bool, true, false, List, [], ◌∷◌, ◌++◌, length}
use Rattle.std.specs.Prelude.{MatchBool}
use Rattle.std.specs.Borrow.{Bor}
use Rattle.std.specs.List.{Any}
use Rattle.linegrep_files.specs.Braces.{AreClosed, StandsFor, has_braces}
use Rattle.linegrep_files.specs.ClassTexts.{IsMalformedClass}
use Rattle.linegrep_files.specs.Globs.{ArePieceTexts, glob_text}
use Rattle.linegrep_files.specs.declared.braces.TheConstants.{MOST_TEXTS}
use Rattle.grep_ignore.specs.declared.wildcards.Piece.{Piece}

-- no piece can be read: a backslash is at the end, or a class isn't well formed
abbrev pub IsFault : List ℕ → Type 0
IsFault text = (text ≡ 92 ∷ []) ⊎ ((class : List ℕ) × (text ≡ 91 ∷ class) × IsMalformedClass class)

-- after some pieces of a text without braces no other can be read
abbrev pub IsMalformedText : Bool → List ℕ → Type 0
IsMalformedText ignores_case text = (pieces : List Piece) × (next : Bool) × (rest : List ℕ)
    × ArePieceTexts ignores_case true text pieces next rest × IsFault rest

-- a text ends where a choice of an open brace begins. Before each open brace is a text that stands
-- for some texts, and after it are choices that have ended
pub data EndsOpen : List ℕ → Type 0 where
  outermost : {text closed : List ℕ} {texts choices : List (List ℕ)} → StandsFor false text texts
      → AreClosed closed choices → EndsOpen (text ++ 123 ∷ closed)
  inner : {outer text closed : List ℕ} {texts choices : List (List ℕ)} → EndsOpen outer
      → StandsFor true text texts → AreClosed closed choices
      → EndsOpen (outer ++ (text ++ 123 ∷ closed))

-- a glob is read up to a rest: what is after the innermost open brace, if one is open, stands for
-- some texts
pub record IsReadTo (is_inside : Bool) (texts : List (List ℕ)) (glob rest : List ℕ) : Type 0 where
  pub outer : List ℕ
  pub text : List ℕ
  pub is : glob ≡ outer ++ (text ++ rest)
  pub is_open : MatchBool is_inside (EndsOpen outer) (outer ≡ [])
  pub stands : StandsFor is_inside text texts

-- the braces of a glob can't be read: a brace isn't opened or isn't closed; a part between braces
-- can't be read; or the glob stands for too many texts
pub data AreMalformed (glob : List ℕ) : Type 0 where
  unopened : {texts : List (List ℕ)} {rest : List ℕ} → IsReadTo false texts glob (125 ∷ rest)
      → AreMalformed glob
  unclosed : {texts : List (List ℕ)} → IsReadTo true texts glob [] → AreMalformed glob
  of_part : {is_inside : Bool} {texts : List (List ℕ)} {rest : List ℕ}
      → IsReadTo is_inside texts glob rest → IsFault rest → AreMalformed glob
  too_many : {is_inside : Bool} {texts : List (List ℕ)} {rest : List ℕ}
      → IsReadTo is_inside texts glob rest → MOST_TEXTS < length texts → AreMalformed glob

-- a glob can't be read: its braces can't, or one of the texts that it stands for can't
abbrev pub IsMalformedGlob : Bool → List ℕ → Type 0
IsMalformedGlob ignores_case glob = MatchBool (has_braces glob)
    (AreMalformed glob ⊎ ((texts : List (List ℕ)) × StandsFor false glob texts
    × Any (IsMalformedText ignores_case) texts)) (IsMalformedText ignores_case glob)

-- the glob of one of some texts can't be read
abbrev pub HaveMalformed : Bool → List (Bor (List ℕ)) → Type 0
HaveMalformed ignores_case texts =
    Any (λ text. IsMalformedGlob ignores_case (glob_text text.now)) texts
