-- Which value of some lines of git's settings is the last, and when a name is a word.
use Rattle.std.proofs.Common.{◌≡◌, ℕ, Bool, false, ◌&&◌, ◌==◌, List, [], ◌∷◌, ◌++◌, None, Option, Some}
use Rattle.std.proofs.Common.{ap, arith, ◌∙◌, fold, length, map, refl, zip}
use Rattle.std.specs.Borrow.{Bor}
use Rattle.std.specs.Char.{to_ascii_lowercase}
use Rattle.std.specs.List.{list_all}
use Rattle.std.specs.Option.{option_copied, option_or}
use Rattle.std.proofs.lemmas.List.{map_push}
use Rattle.std.proofs.lemmas.List.Sums.{fold_push}
use Rattle.linegrep_files.specs.GitSettings.{is_core_at, is_word, last_value, value_at}
use Rattle.linegrep_files.specs.declared.git_settings.Piece.{Piece}

or-none : {X : Type 0} (o : Option X) → o ≡ option_or o None
or-none None = refl
or-none (Some x) = refl

or-assoc : {X : Type 0} (o p q : Option X)
    → option_or (option_or o p) q ≡ option_or o (option_or p q)
or-assoc None p q = refl
or-assoc (Some x) p q = refl

-- what is behind the first of two references
pub or-copied : {X : Type 0} (o p : Option (Bor X))
    → option_copied (option_or o p) ≡ option_or (option_copied o) (option_copied p)
or-copied None p = refl
or-copied (Some x) p = refl

-- whether lines are in the section `core`, with one line more
pub core-more : (lines : List (Bor (List Piece))) (line : Bor (List Piece))
    → fold is_core_at false (map (λ x. x.now) (lines ++ line ∷ []))
    ≡ is_core_at (fold is_core_at false (map (λ x. x.now) lines)) line.now
core-more lines line = ap (fold is_core_at false) (map_push (λ x. x.now) lines line)
    ∙ fold_push is_core_at false (map (λ x. x.now) lines) line.now

-- the last value, with one line more
value-more : (is_core : Bool) (lines : List (List Piece)) (line : List Piece)
    → last_value is_core (lines ++ line ∷ [])
    ≡ option_or (value_at (is_core_at (fold is_core_at is_core lines) line) line)
    (last_value is_core lines)
value-more is_core [] line = or-none (value_at (is_core_at is_core line) line)
value-more is_core (first ∷ lines) line =
    ap (λ o. option_or o (value_at (is_core_at is_core first) first))
    (value-more (is_core_at is_core first) lines line)
    ∙ or-assoc
    (value_at (is_core_at (fold is_core_at (is_core_at is_core first) lines) line) line)
    (last_value (is_core_at is_core first) lines) (value_at (is_core_at is_core first) first)

pub last-more : (lines : List (Bor (List Piece))) (line : Bor (List Piece))
    → last_value false (map (λ x. x.now) (lines ++ line ∷ []))
    ≡ option_or
    (value_at (is_core_at (fold is_core_at false (map (λ x. x.now) lines)) line.now) line.now)
    (last_value false (map (λ x. x.now) lines))
last-more lines line = ap (last_value false) (map_push (λ x. x.now) lines line)
    ∙ value-more false (map (λ x. x.now) lines) line.now

-- a piece is a letter, whatever its case
abbrev pub are_alike : Piece × ℕ → Bool
are_alike pair = to_ascii_lowercase pair.0.byte == pair.1

-- pieces of the length of a word are the word if each is the word's letter
pub word-is : (pieces : List Piece) (word : List ℕ) → length pieces ≡ length word
    → list_all are_alike (zip pieces word) ≡ is_word word pieces
word-is [] [] same = refl
word-is [] (byte ∷ word) same = absurd (omega arith)
word-is (piece ∷ pieces) [] same = absurd (omega arith)
word-is (piece ∷ pieces) (byte ∷ word) same =
    ap (λ b. (to_ascii_lowercase piece.byte == byte) && b) (word-is pieces word (omega arith))
