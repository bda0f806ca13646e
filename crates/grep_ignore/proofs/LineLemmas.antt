-- The lines of a file, and what a line says.
use Rattle.std.proofs.Common.{◌≡◌, ℕ, zero, suc, ◌+◌, ◌-◌, ◌<◌, ◌≤◌, Bool, true, false, ◌&&◌, ◌==◌, if◌then◌else◌}
use Rattle.std.proofs.Common.{nat_lt, List, [], ◌∷◌, ◌++◌, length, take, drop, get_or, refl, sym, ap, ◌∙◌, arith}
use Rattle.std.proofs.Common.{subst, append_assoc, inl, inr, length-drop}
use Rattle.std.specs.List.{All, slice_split}
use Rattle.std.proofs.lemmas.Bool.{lt-ltb, le-ltb, false≢true, cases_Bool, cases_lt}
use Rattle.std.proofs.lemmas.List.{drop_more, take_more, take_all, take-append-drop}
use Rattle.std.proofs.lemmas.List.Elements.{All-append}
use Rattle.std.proofs.lemmas.List.Splits.{slice_split_at, slice_split_none}
use Rattle.grep_ignore.specs.Classes.{is_empty}
use Rattle.grep_ignore.specs.Lines.{before_text, without_spaces}

-- what is left of a text without the spaces at its end, if the bytes up to a position are kept where
-- what follows isn't all spaces, and else those up to an end
abbrev pub cut_at : List ℕ → ℕ → ℕ → List ℕ
cut_at text at end = if is_empty (without_spaces (drop at text)) then take end text
    else take at text ++ without_spaces (drop at text)

-- the same, with what follows apart
abbrev cut_with : List ℕ → ℕ → ℕ → List ℕ → List ℕ
cut_with text at end left = if is_empty left then take end text else take at text ++ left

-- a byte is kept with those before it
kept : (text : List ℕ) (at : ℕ) (later : List ℕ) → at < length text
    → take at text ++ get_or text at 0 ∷ later ≡ take (at + 1) text ++ later
kept text at later below =
    sym (ap (λ l. l ++ later) (take_more text at 0 below)
    ∙ append_assoc (take at text) (get_or text at 0 ∷ []) later)

kept-cut : (text : List ℕ) (at end : ℕ) (later : List ℕ) → at + 1 ≡ end → at < length text
    → take at text ++ get_or text at 0 ∷ later ≡ cut_with text end end later
kept-cut text at end [] next below =
    sym (take_more text at 0 below) ∙ ap (λ n. take n text) next
kept-cut text at end (byte ∷ rest) next below =
    kept text at (byte ∷ rest) below ∙ ap (λ n. take n text ++ byte ∷ rest) next

-- a byte at a position, after which there is nothing, or which is no backslash
spaces-plain : (byte : ℕ) (rest : List ℕ) → ((byte == 92) && nat_lt 0 (length rest)) ≡ false
    → without_spaces (byte ∷ rest) ≡ before_text byte (without_spaces rest)
spaces-plain byte [] plain = refl
spaces-plain byte (next ∷ rest) plain =
    let longer : nat_lt 0 (length (next ∷ rest)) ≡ true = lt-ltb 0 (length (next ∷ rest)) (omega arith) in
    elim (cases_Bool (byte == 92)) [
      | inl escaped ↦ absurd (false≢true (sym plain ∙ rw (escaped, longer) refl))
      | inr other ↦ rw other refl
    ]

-- a backslash, and a byte after it
spaces-escaped : (byte next : ℕ) (rest : List ℕ) → (byte == 92) ≡ true
    → without_spaces (byte ∷ next ∷ rest) ≡ byte ∷ next ∷ without_spaces rest
spaces-escaped byte next rest escaped = rw escaped refl

-- what comes before a text that is cut, if the byte is a space and if it isn't
before_with : Bool → ℕ → List ℕ → List ℕ
before_with is_space byte text = if is_space && is_empty text then [] else byte ∷ text

plain-cut : (is_space : Bool) (text : List ℕ) (at end : ℕ) (left : List ℕ) → at < length text
    → cut_with text at end (before_with is_space (get_or text at 0) left)
    ≡ cut_with text (at + 1) (if is_space then end else at + 1) left
unfolding before_with
plain-cut true text at end [] below = refl
plain-cut true text at end (byte ∷ rest) below = kept text at (byte ∷ rest) below
plain-cut false text at end left below = kept-cut text at (at + 1) left refl below

left-longer : (text : List ℕ) (at : ℕ) → at < length text
    → nat_lt 0 (length (drop (at + 1) text)) ≡ nat_lt (at + 1) (length text)
left-longer text at below =
    let left : length (drop (at + 1) text) ≡ length text - (at + 1) = length-drop (at + 1) text in
    elim (cases_lt (at + 1) (length text)) [
      | inl less ↦ lt-ltb 0 _ (omega arith) ∙ sym (lt-ltb (at + 1) (length text) less)
      | inr most ↦ le-ltb 0 _ (omega arith) ∙ sym (le-ltb (at + 1) (length text) most)
    ]

-- a step over a byte
pub steps-plain : (text : List ℕ) (at end : ℕ) → at < length text
    → ((get_or text at 0 == 92) && nat_lt (at + 1) (length text)) ≡ false
    → cut_at text at end
    ≡ cut_at text (at + 1) (if get_or text at 0 == 32 then end else at + 1)
unfolding before_with
steps-plain text at end below plain =
    let here : without_spaces (drop at text)
    ≡ before_text (get_or text at 0) (without_spaces (drop (at + 1) text)) =
    ap without_spaces (drop_more text at 0 below)
    ∙ spaces-plain (get_or text at 0) (drop (at + 1) text)
    (ap (λ b. (get_or text at 0 == 92) && b) (left-longer text at below) ∙ plain) in
    ap (cut_with text at end) here
    ∙ plain-cut (get_or text at 0 == 32) text at end (without_spaces (drop (at + 1) text)) below

-- a step over a backslash and the byte after it
pub steps-escaped : (text : List ℕ) (at end : ℕ) → at + 1 < length text
    → (get_or text at 0 == 92) ≡ true → cut_at text at end ≡ cut_at text (at + 2) (at + 2)
steps-escaped text at end below escaped =
    let next : at + 1 + 1 ≡ at + 2 = omega arith in
    let first : at < length text = omega arith in
    let here : without_spaces (drop at text)
    ≡ get_or text at 0 ∷ get_or text (at + 1) 0 ∷ without_spaces (drop (at + 2) text) =
    ap without_spaces (drop_more text at 0 first
    ∙ ap (λ l. get_or text at 0 ∷ l) (drop_more text (at + 1) 0 below
    ∙ ap (λ n. get_or text (at + 1) 0 ∷ drop n text) next))
    ∙ spaces-escaped (get_or text at 0) (get_or text (at + 1) 0) (drop (at + 2) text) escaped in
    ap (cut_with text at end) here
    ∙ kept text at (get_or text (at + 1) 0 ∷ without_spaces (drop (at + 2) text)) first
    ∙ kept-cut text (at + 1) (at + 2) (without_spaces (drop (at + 2) text)) next below

-- no line feed up to a position, and none at it
pub none-more : (text : List ℕ) (at : ℕ) → at < length text → (get_or text at 0 == 10) ≡ false
    → All (λ byte. (byte == 10) ≡ false) (take at text)
    → All (λ byte. (byte == 10) ≡ false) (take (at + 1) text)
none-more text at below other none =
    subst (All (λ byte. (byte == 10) ≡ false)) (sym (take_more text at 0 below))
    (All-append (λ byte. (byte == 10) ≡ false) (take at text) (get_or text at 0 ∷ []) none (one-all (get_or text at 0) other))
  where
    one-all : (b : ℕ) → (b == 10) ≡ false → All (λ byte. (byte == 10) ≡ false) (b ∷ [])
    one-all b apart zero d less = apart
    one-all b apart (suc k) d less = absurd (omega arith)

-- a text that is split at its first line feed
pub split-at : (text : List ℕ) (at : ℕ) → at < length text → (get_or text at 0 == 10) ≡ true
    → All (λ byte. (byte == 10) ≡ false) (take at text)
    → slice_split (λ byte. byte == 10) text
    ≡ take at text ∷ slice_split (λ byte. byte == 10) (drop (at + 1) text)
split-at text at below here none =
    ap (slice_split (λ byte. byte == 10))
    (sym (take-append-drop at text) ∙ ap (λ l. take at text ++ l) (drop_more text at 0 below))
    ∙ slice_split_at (λ byte. byte == 10) (take at text) (get_or text at 0) (drop (at + 1) text) none here

pub split-none : (text : List ℕ) (at : ℕ) → length text ≤ at
    → All (λ byte. (byte == 10) ≡ false) (take at text) → slice_split (λ byte. byte == 10) text ≡ text ∷ []
split-none text at all none =
    slice_split_none (λ byte. byte == 10) text (subst (All (λ byte. (byte == 10) ≡ false)) (take_all at text all) none)

-- all that is after a position
pub rest-is : (text : List ℕ) (at : ℕ) → take (length text - at) (drop at text) ≡ drop at text
rest-is text at = take_all (length text - at) (drop at text) (omega (arith, length-drop at text))

-- at the start all is left
pub start-cut : (text : List ℕ) → without_spaces text ≡ cut_at text 0 0
start-cut text = start-with text (without_spaces text)
  where
    start-with : (t left : List ℕ) → left ≡ cut_with t 0 0 left
    start-with t [] = refl
    start-with t (byte ∷ rest) = refl

pub end-within : (is_space : Bool) (at end next : ℕ) → end ≤ at
    → next ≡ (if is_space then end else at + 1) → next ≤ at + 1
end-within true at end next before is = omega arith
end-within false at end next before is = omega arith
