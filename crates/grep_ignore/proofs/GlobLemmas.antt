-- The texts of pieces, one after another.
use Rattle.std.proofs.Common.{◌≡◌, ℕ, zero, suc, ◌<◌, Bool, true, ◌==◌}
use Rattle.std.proofs.Common.{List, [], ◌∷◌, ◌++◌, length, drop, replicate, refl, ap, ◌∙◌, subst, arith}
use Rattle.std.proofs.Common.{inl, inr, length-append}
use Rattle.grep_ignore.specs.Classes.{begins_with, is_in_range, is_either, other_case}
use Rattle.grep_ignore.specs.Globs.{ArePieceTexts, HasStars, IsPieceText, IsPlain}
use Rattle.grep_ignore.specs.declared.wildcards.Piece.{Piece}
use Rattle.grep_ignore.specs.declared.wildcards.Piece.TheVariants.{One, Many, Folders}
use Rattle.grep_ignore.proofs.ClassLemmas.{begins-is, range-same, class-shorter}

-- one star more, where they go on
stars-shift : (more : ℕ) (rest : List ℕ) → replicate more 42 ++ 42 ∷ rest ≡ 42 ∷ (replicate more 42 ++ rest)
stars-shift zero rest = refl
stars-shift (suc more) rest = ap (λ l. 42 ∷ l) (stars-shift more rest)

pub stars-more : (more : ℕ) (glob rest : List ℕ) → glob ≡ replicate more 42 ++ rest
    → begins_with 42 rest ≡ true → glob ≡ replicate (suc more) 42 ++ drop 1 rest
stars-more more glob rest is begins =
    is ∙ ap (λ l. replicate more 42 ++ l) (begins-is 42 rest begins) ∙ stars-shift more (drop 1 rest)

-- a byte alone, in either case
pub byte-either : (ignores : Bool) (byte k : ℕ)
    → is_either ignores (is_in_range (byte, byte)) k ≡ is_either ignores (λ b. b == byte) k
byte-either ignores byte k = rw (range-same byte k, range-same byte (other_case k)) refl

-- the text of a piece after those of some others
pub texts-more : (ignores begins : Bool) (glob : List ℕ) (pieces : List Piece) (middle : Bool) (mid : List ℕ)
    (piece : Piece) (next : Bool) (rest : List ℕ) → ArePieceTexts ignores begins glob pieces middle mid
    → IsPieceText ignores middle mid piece next rest
    → ArePieceTexts ignores begins glob (pieces ++ piece ∷ []) next rest
texts-more ignores begins glob [] middle mid piece next rest are text = (
  next,
  rest,
  subst (λ b. IsPieceText ignores b glob piece next rest) are.0
      (subst (λ g. IsPieceText ignores middle g piece next rest) are.1 text),
  (refl, refl),
)
texts-more ignores begins glob (first ∷ later) middle mid piece next rest (m, g, one, are) text =
    (m, g, one, texts-more ignores m g later middle mid piece next rest are text)

-- what is left after the text of a piece is shorter
plain-shorter : (byte : ℕ) (glob rest : List ℕ) → IsPlain byte glob rest → length rest < length glob
plain-shorter byte glob rest (inl plain) = rw plain.1 (omega arith)
plain-shorter byte glob rest (inr escaped) = rw escaped (omega arith)

stars-shorter : (more : ℕ) (glob rest : List ℕ) → HasStars more glob rest → length rest < length glob
stars-shorter more glob rest stars =
    rw stars.0 (omega (arith, length-append (replicate more 42) rest))

pub piece-shorter : (ignores begins : Bool) (glob : List ℕ) (piece : Piece) (next : Bool) (rest : List ℕ)
    → IsPieceText ignores begins glob piece next rest → length rest < length glob
piece-shorter ignores begins glob (One set) next rest (inl any) = rw any.0 (omega arith)
piece-shorter ignores begins glob (One set) next rest (inr (inl plain)) =
    plain-shorter plain.0 glob rest plain.1
piece-shorter ignores begins glob (One set) next rest (inr (inr class)) =
    let less : length rest < length class.0 = class-shorter ignores set class.0 rest class.3 in
    rw class.1 (omega arith)
piece-shorter ignores begins glob (Many set) next rest stars =
    stars-shorter stars.0 glob rest stars.1
piece-shorter ignores begins glob Folders next rest stars =
    let less : length (47 ∷ rest) < length glob = stars-shorter stars.0 glob (47 ∷ rest) stars.1 in
    omega arith
