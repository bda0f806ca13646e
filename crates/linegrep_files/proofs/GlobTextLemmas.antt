-- The texts that a glob stands for, and the pieces of each.
use Rattle.std.proofs.Common.{◌≡◌, ℕ, ◌+◌, ◌<◌, Bool, false, List, [], ◌∷◌, ◌++◌, ◌∙◌, ap, get_or, length, refl}
use Rattle.std.proofs.Common.{subst, sym, take}
use Rattle.std.proofs.lemmas.List.{map_push, take_more}
use Rattle.std.specs.Global.{Global}
use Rattle.std.specs.Prelude.{Vec}
use Rattle.grep_ignore.specs.declared.wildcards.Piece.{Piece}
use Rattle.linegrep_files.specs.Braces.{bytes_of, has_braces}
use Rattle.linegrep_files.specs.Globs.{AreOfTexts, ArePieces, IsGlobOf}
use Rattle.linegrep_files.specs.declared.glob.Glob.{Glob}

texts-more : (is_of_names ignores : Bool) (texts : List (List ℕ)) (choices : List (List Piece)) (text : List ℕ)
    (pieces : List Piece) → AreOfTexts is_of_names ignores texts choices → ArePieces is_of_names ignores text pieces
    → AreOfTexts is_of_names ignores (texts ++ text ∷ []) (choices ++ pieces ∷ [])
texts-more is_of_names ignores [] choices text pieces are of =
    (pieces, [], ap (λ l. l ++ pieces ∷ []) are, of, refl)
texts-more is_of_names ignores (first ∷ later) choices text pieces (one, others, same, is, are) of = (
  one,
  others ++ pieces ∷ [],
  ap (λ l. l ++ pieces ∷ []) same,
  is,
  texts-more is_of_names ignores later others text pieces are of,
)

-- one text more
pub texts-next : (is_of_names ignores : Bool) (texts : List (Vec ℕ Global)) (at : ℕ) (text : Vec ℕ Global)
    (old new : List (List Piece)) (pieces : List Piece) → at < length texts → text ≡ get_or texts at text
    → AreOfTexts is_of_names ignores (bytes_of (take at texts)) old → new ≡ old ++ pieces ∷ []
    → ArePieces is_of_names ignores text.items pieces
    → AreOfTexts is_of_names ignores (bytes_of (take (at + 1) texts)) new
texts-next is_of_names ignores texts at text old new pieces below is are same of =
    let taken : take (at + 1) texts ≡ take at texts ++ text ∷ [] =
    take_more texts at text below ∙ ap (λ t. take at texts ++ t ∷ []) (sym is) in
    subst (λ l. AreOfTexts is_of_names ignores l new)
    (sym (ap bytes_of taken ∙ map_push (λ (t : Vec ℕ Global). t.items) (take at texts) text))
    (subst (λ l. AreOfTexts is_of_names ignores (bytes_of (take at texts) ++ text.items ∷ []) l) (sym same)
    (texts-more is_of_names ignores (bytes_of (take at texts)) old text.items pieces are of))

-- a glob without braces
pub glob-of-text : (is_of_names ignores : Bool) (text : List ℕ) (glob : Glob) (pieces : List Piece)
    → has_braces text ≡ false → glob.choices.items ≡ pieces ∷ [] → ArePieces is_of_names ignores text pieces
    → IsGlobOf is_of_names ignores text glob
glob-of-text is_of_names ignores text glob pieces none is are =
    (text ∷ [], rw none refl, (pieces, [], is, are, refl))
