-- Bytes as pieces: what their sets have, which globs they are, and what they match.
use Rattle.std.proofs.Common.{◌≡◌, ℕ, zero, suc, ◌≤◌, Bool, true, false, ◌==◌, ◌||◌, List, [], ◌∷◌, ◌++◌, refl, sym, ap}
use Rattle.std.proofs.Common.{◌∙◌, subst, arith, append_assoc, IsTrue, ◌↔◌, inl, inr, length, drop, replicate}
use Rattle.std.proofs.Common.{if◌then◌else◌, nat_le, length-append}
use Rattle.std.specs.Prelude.{◌≢◌}
use Rattle.std.proofs.Math.Seq.{drop-append_seam}
use Rattle.std.proofs.lemmas.Bool.{and_parts, cases_eq, eq-eqb, leb-true, ne_eqb, not-true, true≢false}
use Rattle.std.proofs.lemmas.List.{append_cancel_right}
use Rattle.grep_matcher.specs.ByteSets.{holds}
use Rattle.grep_ignore.specs.Classes.{IsSet, is_either}
use Rattle.grep_ignore.specs.Endings.{EndsIn}
use Rattle.grep_ignore.specs.Globs.{ArePieceTexts, IsGlob, IsPieceText, is_special}
use Rattle.grep_ignore.specs.Matches.{AreStarted, Matches}
use Rattle.grep_ignore.specs.Tails.{IsHead, are_plain, byte_pieces, byte_set, is_tail}
use Rattle.grep_ignore.specs.declared.wildcards.Piece.{Piece}
use Rattle.grep_ignore.specs.declared.wildcards.Piece.TheVariants.{Folders, Many, One}

at-byte : (byte : ℕ) → holds (byte_set byte) byte ≡ true
at-byte zero = refl
at-byte (suc byte) = at-byte byte

off-byte : (byte k : ℕ) → k ≢ byte → holds (byte_set byte) k ≡ false
off-byte zero zero differs = absurd (differs refl)
off-byte zero (suc k) differs = refl
off-byte (suc byte) zero differs = refl
off-byte (suc byte) (suc k) differs = off-byte byte k (λ e. differs (ap suc e))

-- the set of a byte has that byte alone
pub holds-byte : (byte k : ℕ) → holds (byte_set byte) k ≡ (k == byte)
holds-byte byte k = elim (cases_eq k byte) [
  | inl here ↦ ap (holds (byte_set byte)) here ∙ at-byte byte ∙ sym (eq-eqb k byte here)
  | inr apart ↦ off-byte byte k apart ∙ sym (ne_eqb k byte apart)
]

or-false : (b : Bool) → b ≡ (b || false)
or-false true = refl
or-false false = refl

-- as a piece
pub byte-set : (byte : ℕ) → IsSet (byte_set byte) (is_either false (λ k. k == byte))
byte-set byte = λ k. holds-byte byte k ∙ or-false (k == byte)

-- bytes that are meant as themselves are the text of their pieces
plain-texts : (begins : Bool) (text : List ℕ) → are_plain text ≡ true
    → (next : Bool) × ArePieceTexts false begins text (byte_pieces text) next []
plain-texts begins [] plain = (begins, (refl, refl))
plain-texts begins (byte ∷ rest) plain =
    let both = and_parts _ (are_plain rest) plain in
    let later = plain-texts (byte == 47) rest both.1 in (
      later.0,
      (byte == 47, rest, inr (inl (byte, inl (not-true (is_special byte) both.0, refl), refl, byte-set byte)), later.1),
    )

-- texts of some pieces, and then those of others
texts-append : (ignores begins : Bool) (glob : List ℕ) (pieces : List Piece) (middle : Bool) (mid : List ℕ)
    (more : List Piece) (next : Bool) (rest : List ℕ) → ArePieceTexts ignores begins glob pieces middle mid
    → ArePieceTexts ignores middle mid more next rest
    → ArePieceTexts ignores begins glob (pieces ++ more) next rest
texts-append ignores begins glob [] middle mid more next rest are others =
    subst (λ b. ArePieceTexts ignores b glob more next rest) are.0
    (subst (λ g. ArePieceTexts ignores middle g more next rest) are.1 others)
texts-append ignores begins glob (first ∷ later) middle mid more next rest (m, g, one, are) others =
    (m, g, one, texts-append ignores m g later middle mid more next rest are others)

-- a glob is the texts of some pieces and of the bytes after them, which are a tail
pub glob-tail : (ignores : Bool) (glob : List ℕ) (spelled : List Piece) (middle : Bool) (rest : List ℕ)
    (longest : ℕ) → (ignores ≡ true → longest ≡ 0) → ArePieceTexts ignores true glob spelled middle rest
    → is_tail longest rest ≡ true → IsGlob ignores glob (spelled ++ byte_pieces rest)
glob-tail ignores glob spelled middle [] longest none are tail =
    (middle, texts-append ignores true glob spelled middle [] [] middle [] are (refl, refl))
glob-tail true glob spelled middle (byte ∷ rest) longest none are tail =
    let both = and_parts (nat_le (length (byte ∷ rest)) longest) _ tail in
    let fits : length (byte ∷ rest) ≤ longest = leb-true _ _ both.0 in
    absurd (omega (arith, fits, none refl))
glob-tail false glob spelled middle (byte ∷ rest) longest none are tail =
    let both = and_parts (nat_le (length (byte ∷ rest)) longest) _ tail in
    let later = plain-texts middle (byte ∷ rest) both.1 in
    (later.0, texts-append false true glob spelled middle (byte ∷ rest) _ later.0 [] are later.1)

-- pieces of bytes match these alone
matches-bytes : (tail path : List ℕ) → Matches (byte_pieces tail) path → path ≡ tail
matches-bytes [] path none = none
matches-bytes (byte ∷ tail) path (part, rest, is, (other, alone, has), later) =
    let same : other ≡ byte = is-byte other (holds-byte byte other) has in
    is ∙ ap (λ l. l ++ rest) (alone ∙ ap (λ b. b ∷ []) same)
    ∙ ap (λ l. byte ∷ l) (matches-bytes tail rest later)
  where
    is-byte : (k : ℕ) → holds (byte_set byte) k ≡ (k == byte) → IsTrue (holds (byte_set byte) k) → k ≡ byte
    is-byte k tells has = elim (cases_eq k byte) [
      | inl here ↦ here
      | inr apart ↦ absurd (true≢false (sym has ∙ tells ∙ ne_eqb k byte apart))
    ]

bytes-match : (tail : List ℕ) → Matches (byte_pieces tail) tail
bytes-match [] = refl
bytes-match (byte ∷ tail) = (byte ∷ [], tail, refl, (byte, refl, at-byte byte), bytes-match tail)

-- what some pieces and bytes after them match is what the pieces do, and then the bytes
pub split-matches : (front : List Piece) (tail path : List ℕ) → Matches (front ++ byte_pieces tail) path
    → (before : List ℕ) × (path ≡ before ++ tail) × Matches front before
split-matches [] tail path matches = ([], matches-bytes tail path matches, refl)
split-matches (piece ∷ later) tail path (part, rest, is, fits, matches) =
    let found = split-matches later tail rest matches in (
      part ++ found.0,
      is ∙ ap (λ l. part ++ l) found.1 ∙ sym (append_assoc part found.0 tail),
      (part, found.0, refl, fits, found.2),
    )

joined : (front : List Piece) (tail before : List ℕ) → Matches front before
    → Matches (front ++ byte_pieces tail) (before ++ tail)
joined [] tail before matches =
    subst (λ l. Matches (byte_pieces tail) (l ++ tail)) (sym matches) (bytes-match tail)
joined (piece ∷ later) tail before (part, rest, is, fits, matches) = (
  part,
  rest ++ tail,
  ap (λ l. l ++ tail) is ∙ append_assoc part rest tail,
  fits,
  joined later tail rest matches,
)

pub front-matches : (front : List Piece) (tail path before : List ℕ) → path ≡ before ++ tail
    → Matches (front ++ byte_pieces tail) path ↔ Matches front before
front-matches front tail path before is = (
  (λ matches.
      let found = split-matches front tail path matches in
      subst (Matches front) (append_cancel_right found.0 before tail (sym found.1 ∙ is)) found.2),
  (λ matches. subst (Matches (front ++ byte_pieces tail)) (sym is) (joined front tail before matches)),
)

pub ends-in : (front : List Piece) (tail path : List ℕ) → Matches (front ++ byte_pieces tail) path
    → EndsIn path tail
ends-in front tail path matches =
    let found = split-matches front tail path matches in (
      length found.0,
      omega (arith, ap length found.1, length-append found.0 tail),
      ap (drop (length found.0)) found.1 ∙ drop-append_seam found.0 tail,
    )

-- the parts of two lists that are equal
pub heads : (x y : ℕ) (xs ys : List ℕ) → x ∷ xs ≡ y ∷ ys → x ≡ y
heads x y xs ys is = cc

tails : (x y : ℕ) (xs ys : List ℕ) → x ∷ xs ≡ y ∷ ys → xs ≡ ys
tails x y xs ys is = cc

-- a piece of a text that begins with a byte that is meant as itself
pub plain-piece : (begins : Bool) (byte : ℕ) (text : List ℕ) (piece : Piece) (next : Bool) (rest : List ℕ)
    → is_special byte ≡ false → IsPieceText false begins (byte ∷ text) piece next rest
    → (set : List Bool) × (piece ≡ One set) × (rest ≡ text) × IsSet set (is_either false (λ k. k == byte))
plain-piece begins byte text (One set) next rest plain (inl any) =
    absurd (true≢false (sym (ap is_special (heads byte 63 text rest any.0)) ∙ plain))
plain-piece begins byte text (One set) next rest plain (inr (inl (other, inl itself, is, has))) =
    let same : byte ≡ other = heads byte other text rest itself.1 in
    (set, refl, sym (tails byte other text rest itself.1), subst (λ b. IsSet set (is_either false (λ k. k == b))) (sym same) has)
plain-piece begins byte text (One set) next rest plain (inr (inl (other, inr escaped, is, has))) =
    absurd (true≢false (sym (ap is_special (heads byte 92 text (other ∷ rest) escaped)) ∙ plain))
plain-piece begins byte text (One set) next rest plain (inr (inr (class, is, other, of))) =
    absurd (true≢false (sym (ap is_special (heads byte 91 text class is)) ∙ plain))
plain-piece begins byte text (Many set) next rest plain (more, stars, none, other) =
    absurd (true≢false (sym (ap is_special (heads byte 42 text (replicate more 42 ++ rest) stars.0)) ∙ plain))
plain-piece begins byte text Folders next rest plain (more, stars, name, other) =
    absurd (true≢false (sym (ap is_special (heads byte 42 text (replicate more 42 ++ 47 ∷ rest) stars.0)) ∙ plain))

-- what pieces match, of which the first is the set of a byte
pub matches-plain : (byte : ℕ) (set : List Bool) (later : List Piece) (path : List ℕ)
    → IsSet set (is_either false (λ k. k == byte)) → Matches (One set ∷ later) path
    → (rest : List ℕ) × (path ≡ byte ∷ rest) × Matches later rest
matches-plain byte set later path has (part, rest, is, (other, alone, holds-it), more) =
    let same : other ≡ byte = elim (cases_eq other byte) [
      | inl here ↦ here
      | inr apart ↦ absurd (true≢false (sym holds-it ∙ has other ∙ sym (or-false (other == byte)) ∙ ne_eqb other byte apart))
    ] in
    (rest, is ∙ ap (λ l. l ++ rest) (alone ∙ ap (λ b. b ∷ []) same), more)

-- what the pieces of a text match begins with the bytes at its start that are meant as themselves
head-matches : (begins : Bool) (head rest : List ℕ) (pieces : List Piece) (next : Bool) (path : List ℕ)
    → are_plain head ≡ true → ArePieceTexts false begins (head ++ rest) pieces next [] → Matches pieces path
    → (after : List ℕ) × (path ≡ head ++ after)
head-matches begins [] rest pieces next path plain are matches = (path, refl)
head-matches begins (byte ∷ head) rest [] next path plain are matches =
    absurd (omega (arith, ap length are.1))
head-matches begins (byte ∷ head) rest (piece ∷ later) next path plain (middle, mid, one, are) matches =
    let both = and_parts _ (are_plain head) plain in
    let (set, is, left, has) = plain-piece begins byte (head ++ rest) piece middle mid
    (not-true (is_special byte) both.0) one in
    let (more, cut, others) = matches-plain byte set later path has (subst (λ p. Matches (p ∷ later) path) is matches) in
    let (after, there) = head-matches middle head rest later next more both.1
    (subst (λ m. ArePieceTexts false middle m later next []) left are) others in
    (after, cut ∙ ap (λ l. byte ∷ l) there)

-- any folders may be before the head of a glob
pub started : (is_anchored : Bool) (head : List ℕ) (pieces : List Piece)
    → ((path : List ℕ) → Matches pieces path → (after : List ℕ) × (path ≡ head ++ after))
    → AreStarted (if is_anchored then pieces else Folders ∷ pieces) head
started true head pieces begins = λ path matches.
    let (after, is) = begins path matches in ([], after, is, inl refl)
started false head pieces begins = λ path (part, rest, is, fits, matches).
    let (after, there) = begins rest matches in (
      part,
      after,
      is ∙ ap (λ l. part ++ l) there ∙ sym (append_assoc part head after),
      fits,
    )

-- in what a glob matches a name begins with its head
pub glob-started : (is_anchored ignores : Bool) (glob head : List ℕ) (pieces : List Piece) → IsHead ignores glob head
    → IsGlob ignores glob pieces → AreStarted (if is_anchored then pieces else Folders ∷ pieces) head
glob-started is_anchored ignores glob head pieces ((rest, is), inl none) (next, are) =
    started is_anchored head pieces (λ path matches. (path, ap (λ l. l ++ path) (sym none)))
glob-started is_anchored ignores glob head pieces ((rest, is), inr (sees, plain)) (next, are) =
    started is_anchored head pieces (λ path matches. head-matches true head rest pieces next path plain
    (subst (λ g. ArePieceTexts false true g pieces next []) is
    (subst (λ i. ArePieceTexts i true glob pieces next []) sees are)) matches)

pub rule-started : (is_anchored ignores : Bool) (glob head : List ℕ) (first all spelled : List Piece) (tail : List ℕ)
    → first ≡ (if is_anchored then [] else Folders ∷ []) → all ≡ first ++ spelled → IsHead ignores glob head
    → IsGlob ignores glob (spelled ++ byte_pieces tail) → AreStarted (all ++ byte_pieces tail) head
rule-started true ignores glob head first all spelled tail is are begins of =
    subst (λ l. AreStarted (l ++ byte_pieces tail) head) (sym (are ∙ ap (λ f. f ++ spelled) is))
    (glob-started true ignores glob head (spelled ++ byte_pieces tail) begins of)
rule-started false ignores glob head first all spelled tail is are begins of =
    subst (λ l. AreStarted (l ++ byte_pieces tail) head) (sym (are ∙ ap (λ f. f ++ spelled) is))
    (glob-started false ignores glob head (spelled ++ byte_pieces tail) begins of)
