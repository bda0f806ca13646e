-- The parts of a text between one byte and the next.
use Rattle.std.proofs.Common.{◌≡◌, ℕ, zero, suc, ◌+◌, ◌-◌, ◌<◌, ◌≤◌, true, false, ◌==◌}
use Rattle.std.proofs.Common.{if◌then◌else◌}
use Rattle.std.proofs.Common.{List, [], ◌∷◌, ◌++◌, length, take, drop, get_or, refl, sym, ap, ◌∙◌}
use Rattle.std.proofs.Common.{arith}
use Rattle.std.proofs.Common.{subst, length-drop, not, filter}
use Rattle.std.specs.List.{All, slice_split}
use Rattle.std.proofs.lemmas.List.{drop_more, take_more, take_all, take-append-drop}
use Rattle.std.proofs.lemmas.List.Elements.{All-append}
use Rattle.std.proofs.lemmas.List.Splits.{slice_split_at, slice_split_none}
use Rattle.std.proofs.lemmas.Bool.{false≢true}
use Rattle.grep_ignore.specs.Classes.{begins_with, is_empty}
use Rattle.linegrep_files.specs.Folders.{without_slashes}
use Rattle.linegrep_files.specs.Paths.{parts_of}

-- no byte up to a position ends a part
abbrev pub NoneEnds : ℕ → List ℕ → Type 0
NoneEnds end text = All (λ byte. (byte == end) ≡ false) text

pub none-ends : (end : ℕ) (text : List ℕ) (at : ℕ) → at < length text
    → (get_or text at 0 == end) ≡ false → NoneEnds end (take at text) → NoneEnds end (take (at + 1) text)
none-ends end text at below other none =
    subst (NoneEnds end) (sym (take_more text at 0 below))
    (All-append (λ byte. (byte == end) ≡ false) (take at text) (get_or text at 0 ∷ []) none
    (one-all (get_or text at 0) other))
  where
    one-all : (b : ℕ) → (b == end) ≡ false → All (λ byte. (byte == end) ≡ false) (b ∷ [])
    one-all b apart zero d less = apart
    one-all b apart (suc k) d less = absurd (omega arith)

-- of a part and others
with-part : (part : List ℕ) (others : List (List ℕ))
    → filter (λ part. not (is_empty part)) (part ∷ others)
    ≡ (if is_empty part then filter (λ part. not (is_empty part)) others
    else part ∷ filter (λ part. not (is_empty part)) others)
with-part [] others = refl
with-part (byte ∷ rest) others = refl

-- a text that is split at the first byte that ends a part
pub parts-at : (end : ℕ) (text rest : List ℕ) (at : ℕ) → at < length text
    → (get_or text at 0 == end) ≡ true → NoneEnds end (take at text) → rest ≡ drop (at + 1) text
    → parts_of end text ≡ (if is_empty (take at text) then parts_of end rest
    else take at text ∷ parts_of end rest)
parts-at end text rest at below here none is =
    ap (filter (λ part. not (is_empty part)))
    (ap (slice_split (λ byte. byte == end))
    (sym (take-append-drop at text) ∙ ap (λ l. take at text ++ l) (drop_more text at 0 below))
    ∙ slice_split_at (λ byte. byte == end) (take at text) (get_or text at 0) (drop (at + 1) text) none here)
    ∙ with-part (take at text) (slice_split (λ byte. byte == end) (drop (at + 1) text))
    ∙ ap (λ l. if is_empty (take at text) then parts_of end l else take at text ∷ parts_of end l) (sym is)

pub parts-whole : (end : ℕ) (text : List ℕ) (at : ℕ) → length text ≤ at → NoneEnds end (take at text)
    → parts_of end text ≡ (if is_empty text then parts_of end [] else text ∷ parts_of end [])
parts-whole end text at all none =
    ap (filter (λ part. not (is_empty part)))
    (slice_split_none (λ byte. byte == end) text (subst (NoneEnds end) (take_all at text all) none))
    ∙ with-part text []

-- all that is after a position
pub rest-is : (text : List ℕ) (at : ℕ) → take (length text - at) (drop at text) ≡ drop at text
rest-is text at = take_all (length text - at) (drop at text) (omega (arith, length-drop at text))

-- a text without the slashes at its start: of one that begins with one, and of one that doesn't
pub slash-next : (text rest : List ℕ) → begins_with 47 text ≡ true → rest ≡ drop 1 text
    → without_slashes rest ≡ without_slashes text
slash-next [] rest begins is = absurd (false≢true begins)
slash-next (byte ∷ more) rest begins is = rw begins (ap without_slashes is)

pub slash-none : (text : List ℕ) → begins_with 47 text ≡ false → text ≡ without_slashes text
slash-none [] other = refl
slash-none (byte ∷ more) other = rw other refl
