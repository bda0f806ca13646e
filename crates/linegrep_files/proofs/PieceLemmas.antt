-- The texts of pieces of a glob, one after another.
use Rattle.std.proofs.Common.{◌≡◌, ℕ, ◌<◌, Bool, true, false, ap, sym, ◌∙◌}
use Rattle.std.proofs.Common.{List, [], ◌∷◌, ◌++◌, drop, length, refl, subst, arith, length-append, inl}
use Rattle.std.proofs.Common.{inr}
use Rattle.std.proofs.Common.{◌==◌, ◌≤◌, ◌||◌, if◌then◌else◌, nat_le, not}
use Rattle.std.proofs.lemmas.Bool.{and_parts, false≢true, leb-true, not-true, true≢false}
use Rattle.std.specs.Prelude.{Err, IfOk, MatchResult, Ok, OnErr, Result}
use Rattle.grep_ignore.specs.Classes.{IsSet, begins_with, is_either}
use Rattle.grep_ignore.specs.Globs.{IsFault as IsIgnoreFault, IsPieceText as IsIgnoreText}
use Rattle.grep_ignore.proofs.ClassLemmas.{begins-is}
use Rattle.grep_ignore.proofs.GlobLemmas.{piece-shorter as ignore-shorter}
use Rattle.grep_ignore.specs.declared.glob.Step.{Step}
use Rattle.grep_ignore.specs.declared.wildcards.Piece.{Piece}
use Rattle.grep_ignore.specs.declared.wildcards.Piece.TheVariants.{Folders, One}
use Rattle.grep_ignore.specs.Globs.{is_special}
use Rattle.grep_ignore.specs.Tails.{IsHead, are_plain, byte_pieces, byte_set, is_tail}
use Rattle.grep_ignore.specs.Matches.{AreStarted, Matches}
use Rattle.grep_ignore.proofs.ByteLemmas.{byte-set, heads, matches-plain, plain-piece as ignore-plain, started}
use Rattle.linegrep_files.specs.ClassTexts.{IsMalformedClass}
use Rattle.linegrep_files.specs.MalformedGlobs.{IsFault}
use Rattle.linegrep_files.specs.Globs.{ArePieceTexts, IsGlob, IsPieceText, has_stars}
use Rattle.linegrep_files.specs.Globs.{of_class, of_other, of_stars}

-- the text of a piece after those of some others
pub texts-more : (ignores begins : Bool) (text : List ℕ) (pieces : List Piece) (middle : Bool) (mid : List ℕ)
    (piece : Piece) (next : Bool) (rest : List ℕ) → ArePieceTexts ignores begins text pieces middle mid
    → IsPieceText ignores middle mid piece next rest
    → ArePieceTexts ignores begins text (pieces ++ piece ∷ []) next rest
texts-more ignores begins text [] middle mid piece next rest are last = (
  next,
  rest,
  subst (λ b. IsPieceText ignores b text piece next rest) are.0
      (subst (λ g. IsPieceText ignores middle g piece next rest) are.1 last),
  (refl, refl),
)
texts-more ignores begins text (first ∷ later) middle mid piece next rest (m, g, one, are) last =
    (m, g, one, texts-more ignores m g later middle mid piece next rest are last)

-- what is left after the text of a piece is shorter
pub piece-shorter : (ignores begins : Bool) (text : List ℕ) (piece : Piece) (next : Bool) (rest : List ℕ)
    → IsPieceText ignores begins text piece next rest → length rest < length text
piece-shorter ignores begins text piece next rest (of_class set class r is closes of) =
    rw is (omega (arith, length-append class (93 ∷ r)))
piece-shorter ignores begins text piece next rest (of_stars set r stars is bytes) = rw is (omega arith)
piece-shorter ignores begins text piece next rest (of_other class stars other) =
    ignore-shorter ignores begins text piece next rest other

-- a piece that is read as in an ignore file
pub ignore-step : {E : Type 0} (result : Result Step E) (ignores begins : Bool) (text : List ℕ)
    → begins_with 91 text ≡ false → has_stars text ≡ false
    → MatchResult result (λ s. IsIgnoreText ignores begins text s.piece s.begins_name s.rest.now)
    (λ _. IsIgnoreFault text)
    → IfOk result (λ s. IsPieceText ignores begins text s.piece s.begins_name s.rest.now)
ignore-step (Ok s) ignores begins text class stars is = of_other class stars is
ignore-step (Err e) ignores begins text class stars is = tt

-- what holds, holds of each error
pub on-errors : {X E : Type 0} (result : Result X E) {P : Type 0} → P → OnErr result P
on-errors (Ok value) holds = tt
on-errors (Err e) holds = holds

-- one that isn't read ends in a backslash
pub ignore-fault : {X E : Type 0} (result : Result X E) (P : X → Type 0) (text : List ℕ) → begins_with 91 text ≡ false
    → MatchResult result P (λ _. IsIgnoreFault text) → OnErr result (IsFault text)
ignore-fault (Ok s) P text class is = tt
ignore-fault (Err e) P text class (inl is) = inl is
ignore-fault (Err e) P text class (inr (members, is, cut)) =
    absurd (false≢true (sym class ∙ ap (begins_with 91) is))

-- no class is read
pub class-fault : (text class : List ℕ) → begins_with 91 text ≡ true → class ≡ drop 1 text → IsMalformedClass class
    → IsFault text
class-fault text class begins is cut = inr (class, begins-is 91 text begins ∙ ap (λ l. 91 ∷ l) (sym is), cut)

pub stars-begin : (text : List ℕ) → has_stars text ≡ true → begins_with 42 text ≡ true
stars-begin text stars = grind (arith, stars)

-- a byte that is meant as itself
no-special : (a b c d : Bool) → (a || b || c || d) ≡ false → (a ≡ false) × (c ≡ false)
no-special false false false false none = (refl, refl)
no-special false false false true none = absurd (false≢true (sym none))
no-special false false true d none = absurd (false≢true (sym none))
no-special false true c d none = absurd (false≢true (sym none))
no-special true b c d none = absurd (false≢true (sym none))

plain-text : (begins : Bool) (byte : ℕ) (rest : List ℕ) → is_special byte ≡ false
    → IsPieceText false begins (byte ∷ rest) (One (byte_set byte)) (byte == 47) rest
plain-text begins byte rest plain =
    let (star, bracket) = no-special (byte == 42) (byte == 63) (byte == 91) (byte == 92) plain in
    of_other bracket (rw star refl) (inr (inl (byte, inl (plain, refl), refl, byte-set byte)))

-- bytes that are meant as themselves are the text of their pieces
plain-texts : (begins : Bool) (text : List ℕ) → are_plain text ≡ true
    → (next : Bool) × ArePieceTexts false begins text (byte_pieces text) next []
plain-texts begins [] plain = (begins, (refl, refl))
plain-texts begins (byte ∷ rest) plain =
    let both = and_parts _ (are_plain rest) plain in
    let later = plain-texts (byte == 47) rest both.1 in
    (later.0, (byte == 47, rest, plain-text begins byte rest (not-true (is_special byte) both.0), later.1))

-- texts of some pieces, and then those of others
texts-append : (ignores begins : Bool) (text : List ℕ) (pieces : List Piece) (middle : Bool) (mid : List ℕ)
    (more : List Piece) (next : Bool) (rest : List ℕ) → ArePieceTexts ignores begins text pieces middle mid
    → ArePieceTexts ignores middle mid more next rest
    → ArePieceTexts ignores begins text (pieces ++ more) next rest
texts-append ignores begins text [] middle mid more next rest are others =
    subst (λ b. ArePieceTexts ignores b text more next rest) are.0
    (subst (λ g. ArePieceTexts ignores middle g more next rest) are.1 others)
texts-append ignores begins text (first ∷ later) middle mid more next rest (m, g, one, are) others =
    (m, g, one, texts-append ignores m g later middle mid more next rest are others)

-- a glob is the texts of some pieces and of the bytes after them, which are a tail
pub glob-tail : (ignores : Bool) (text : List ℕ) (spelled : List Piece) (middle : Bool) (rest : List ℕ)
    (longest : ℕ) → (ignores ≡ true → longest ≡ 0) → ArePieceTexts ignores true text spelled middle rest
    → is_tail longest rest ≡ true → IsGlob ignores text (spelled ++ byte_pieces rest)
glob-tail ignores text spelled middle [] longest none are tail =
    (middle, texts-append ignores true text spelled middle [] [] middle [] are (refl, refl))
glob-tail true text spelled middle (byte ∷ rest) longest none are tail =
    let both = and_parts (nat_le (length (byte ∷ rest)) longest) _ tail in
    let fits : length (byte ∷ rest) ≤ longest = leb-true _ _ both.0 in
    absurd (omega (arith, fits, none refl))
glob-tail false text spelled middle (byte ∷ rest) longest none are tail =
    let both = and_parts (nat_le (length (byte ∷ rest)) longest) _ tail in
    let later = plain-texts middle (byte ∷ rest) both.1 in
    (later.0, texts-append false true text spelled middle (byte ∷ rest) _ later.0 [] are later.1)

-- a piece of a text that begins with a byte that is meant as itself
plain-piece : (begins : Bool) (byte : ℕ) (text : List ℕ) (piece : Piece) (next : Bool) (rest : List ℕ)
    → is_special byte ≡ false → IsPieceText false begins (byte ∷ text) piece next rest
    → (set : List Bool) × (piece ≡ One set) × (rest ≡ text) × IsSet set (is_either false (λ k. k == byte))
plain-piece begins byte text piece next rest plain (of_class set class r is closes of) =
    absurd (true≢false (sym (ap is_special (heads byte 91 text (class ++ 93 ∷ r) is)) ∙ plain))
plain-piece begins byte text piece next rest plain (of_stars set r stars is bytes) =
    absurd (true≢false (sym (ap is_special (heads byte 42 text r is)) ∙ plain))
plain-piece begins byte text piece next rest plain (of_other class stars other) =
    ignore-plain begins byte text piece next rest plain other

-- what the pieces of a text match begins with the bytes at its start that are meant as themselves
head-matches : (begins : Bool) (head rest : List ℕ) (pieces : List Piece) (next : Bool) (path : List ℕ)
    → are_plain head ≡ true → ArePieceTexts false begins (head ++ rest) pieces next [] → Matches pieces path
    → (after : List ℕ) × (path ≡ head ++ after)
head-matches begins [] rest pieces next path plain are matches = (path, refl)
head-matches begins (byte ∷ head) rest [] next path plain are matches =
    absurd (omega (arith, ap length are.1))
head-matches begins (byte ∷ head) rest (piece ∷ later) next path plain (middle, mid, one, are) matches =
    let both = and_parts _ (are_plain head) plain in
    let (set, is, left, has) = plain-piece begins byte (head ++ rest) piece middle mid
    (not-true (is_special byte) both.0) one in
    let (more, cut, others) = matches-plain byte set later path has (subst (λ p. Matches (p ∷ later) path) is matches) in
    let (after, there) = head-matches middle head rest later next more both.1
    (subst (λ m. ArePieceTexts false middle m later next []) left are) others in
    (after, cut ∙ ap (λ l. byte ∷ l) there)

glob-started : (is_of_names ignores : Bool) (text head : List ℕ) (pieces : List Piece) → IsHead ignores text head
    → IsGlob ignores text pieces → AreStarted (if not is_of_names then pieces else Folders ∷ pieces) head
glob-started is_of_names ignores text head pieces ((rest, is), inl none) (next, are) =
    started (not is_of_names) head pieces (λ path matches. (path, ap (λ l. l ++ path) (sym none)))
glob-started is_of_names ignores text head pieces ((rest, is), inr (sees, plain)) (next, are) =
    started (not is_of_names) head pieces (λ path matches. head-matches true head rest pieces next path plain
    (subst (λ g. ArePieceTexts false true g pieces next []) is
    (subst (λ i. ArePieceTexts i true text pieces next []) sees are)) matches)

-- in what a text matches a name begins with its head
pub text-started : (is_of_names ignores : Bool) (text head : List ℕ) (first all spelled : List Piece) (tail : List ℕ)
    → first ≡ (if not is_of_names then [] else Folders ∷ []) → all ≡ first ++ spelled → IsHead ignores text head
    → IsGlob ignores text (spelled ++ byte_pieces tail) → AreStarted (all ++ byte_pieces tail) head
text-started true ignores text head first all spelled tail is are begins of =
    subst (λ l. AreStarted (l ++ byte_pieces tail) head) (sym (are ∙ ap (λ f. f ++ spelled) is))
    (glob-started true ignores text head (spelled ++ byte_pieces tail) begins of)
text-started false ignores text head first all spelled tail is are begins of =
    subst (λ l. AreStarted (l ++ byte_pieces tail) head) (sym (are ∙ ap (λ f. f ++ spelled) is))
    (glob-started false ignores text head (spelled ++ byte_pieces tail) begins of)
