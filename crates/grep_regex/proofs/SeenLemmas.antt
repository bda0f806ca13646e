-- What patterns see of what they are asked about: all of it, but for what ends a line.
use Rattle.std.proofs.Common.{◌≡◌, ℕ, ◌+◌, ◌<◌, ◌≤◌, ◌⊎◌, true, false, List, [], ◌∷◌, ◌++◌, length}
use Rattle.std.proofs.Common.{get_or, slice_index, Option, Some, None, nat_eq, refl, sym, ap, ◌∙◌}
use Rattle.std.proofs.Common.{inl, inr, ⊎_elim, arith, append_assoc, length-append, true≢false, ◌==◌, lit<}
use Rattle.std.proofs.lemmas.Bool.{cases_Bool, cases_lt, false_from_ne_true}
use Rattle.std.proofs.lemmas.Bool.Decides.{Decides-eqb, nat_tests}
use Rattle.std.proofs.Math.Numerals.{add-one}
use Rattle.std.proofs.lemmas.List.{append-nil, append_cancel_right, get_or_append_left, get_or_past}
use Rattle.std.proofs.lemmas.Option.{slice_get-get_or}
use Rattle.std.proofs.lemmas.Slice.Eq.{ends_is}
use Rattle.std.specs.List.{ends_with}
use Rattle.regex_hir.specs.Text.{is_some_and, byte_before}
use Rattle.regex_hir.specs.Looks.{side_before, is_cr}
use Rattle.regex_hir.proofs.TextLemmas.{byte_before-zero, byte_before-add-one}
use Rattle.grep_matcher.specs.declared.line_terminator.LineTerminator.{LineTerminator}
use Rattle.grep_matcher.specs.declared.line_terminator.LineTerminator.TheVariants.{Byte, Crlf}
use Rattle.grep_regex.specs.Clear.{is_among, is_clear}
use Rattle.grep_regex.specs.Seen.{seen_bytes, without_line_end}
use Rattle.grep_regex.proofs.ClearLemmas.{clear-at, clear-from}
use Rattle.grep_regex.proofs.MatchedLineLemmas.{last-is}

abbrev feed : List ℕ
feed = 10 ∷ []

abbrev pair : List ℕ
pair = 13 ∷ 10 ∷ []

-- ---- what ends a line

-- the bytes don't end in these
abbrev pub Lacks : List ℕ → List ℕ → Type 0
Lacks bytes ending = (front : List ℕ) → bytes ≡ front ++ ending → ⊥

-- so they do if the test says no
pub lacks : (bytes ending : List ℕ) → ends_with nat_eq bytes ending ≡ false → Lacks bytes ending
lacks bytes ending doesnt front is = true≢false (sym ((ends_is Decides-eqb bytes ending _ refl).1 front is) ∙ doesnt)

-- a line feed after a carriage return
pub longer : (bytes line front : List ℕ) → bytes ≡ line ++ feed → line ≡ front ++ 13 ∷ [] → bytes ≡ front ++ pair
longer bytes line front is ends = is ∙ (ap (λ l. l ++ feed) ends ∙ append_assoc front (13 ∷ []) feed)

-- a carriage return and a line feed, a line feed alone, or nothing
pub line-end-cases : (bytes : List ℕ) → (bytes ≡ without_line_end bytes ++ pair)
    ⊎ ((bytes ≡ without_line_end bytes ++ feed) × Lacks bytes pair)
    ⊎ ((without_line_end bytes ≡ bytes) × Lacks bytes feed)
line-end-cases bytes = ⊎_elim
    (λ (both : ends_with nat_eq bytes pair ≡ true).
    rw both (inl ((ends_is Decides-eqb bytes pair _ refl).0 both)))
    (λ (other : ends_with nat_eq bytes pair ≡ false). rw other (⊎_elim
    (λ (fed : ends_with nat_eq bytes feed ≡ true).
    rw fed (inr (inl ((ends_is Decides-eqb bytes feed _ refl).0 fed, lacks bytes pair other))))
    (λ (bare : ends_with nat_eq bytes feed ≡ false). rw bare (inr (inr (refl, lacks bytes feed bare))))
    (cases_Bool (ends_with nat_eq bytes feed))))
    (cases_Bool (ends_with nat_eq bytes pair))

-- a line is seen without its end, and if it has none, whole
pub unseen-pair : (line : List ℕ) → without_line_end (line ++ pair) ≡ line
unseen-pair line = elim (line-end-cases (line ++ pair)) [
  | inl both ↦ append_cancel_right _ line pair (sym both)
  | inr (inl fed) ↦ absurd (fed.1 line refl)
  | inr (inr none) ↦ absurd (none.1 (line ++ 13 ∷ []) (sym (append_assoc line (13 ∷ []) feed)))
]

pub unseen-feed : (line : List ℕ) → Lacks line (13 ∷ []) → without_line_end (line ++ feed) ≡ line
unseen-feed line bare = elim (line-end-cases (line ++ feed)) [
  | inl both ↦ absurd (bare _ (append_cancel_right line _ feed
      (both ∙ sym (append_assoc (without_line_end (line ++ feed)) (13 ∷ []) feed))))
  | inr (inl fed) ↦ append_cancel_right _ line feed (sym fed.0)
  | inr (inr none) ↦ absurd (none.1 line refl)
]

pub seen-whole : (line : List ℕ) → Lacks line feed → without_line_end line ≡ line
seen-whole line bare = elim (line-end-cases line) [
  | inl both ↦ absurd (bare _ (both ∙ sym (append_assoc (without_line_end line) (13 ∷ []) feed)))
  | inr (inl fed) ↦ absurd (bare _ fed.0)
  | inr (inr none) ↦ none.0
]

-- before the end of bytes that lack a carriage return there is none
pub lacks-before : (bytes : List ℕ) → Lacks bytes (13 ∷ []) → is_cr (side_before bytes (length bytes)) ≡ false
lacks-before [] bare = ap (λ o. is_some_and o (λ b. b == 13)) (byte_before-zero [])
lacks-before (x ∷ xs) bare = false_from_ne_true _ (λ is.
    let at : byte_before (x ∷ xs) (length (x ∷ xs)) ≡ Some (slice_index (x ∷ xs) (length xs)) =
    ap (byte_before (x ∷ xs)) (sym (add-one (length xs))) ∙ (byte_before-add-one (x ∷ xs) (length xs)
    ∙ slice_get-get_or (x ∷ xs) (length xs) 0 (omega arith)) in
    let same : (slice_index (x ∷ xs) (length xs) == 13) ≡ true =
    sym (ap (λ o. is_some_and o (λ b. b == 13)) at) ∙ is in
    bare _ (last-is (x ∷ xs) 13 (omega arith) (grind (arith, nat_tests, same))))

-- ---- what is seen begins the haystack

pub seen-front : (t : Option LineTerminator) (hay : List ℕ) → (rest : List ℕ) × (hay ≡ seen_bytes t hay ++ rest)
seen-front None hay = ([], sym (append-nil hay))
seen-front (Some (Byte b)) hay = ([], sym (append-nil hay))
seen-front (Some Crlf) hay = elim (line-end-cases hay) [
  | inl both ↦ (pair, both)
  | inr (inl fed) ↦ (feed, fed.0)
  | inr (inr none) ↦ ([], sym (ap (λ l. l ++ []) none.0 ∙ append-nil hay))
]

module _ (t : Option LineTerminator) (hay : List ℕ) where
  abbrev seen : List ℕ
  seen = seen_bytes t hay

  pub seen-at : (k : ℕ) → k < length seen → slice_index seen k ≡ slice_index hay k
  seen-at k below =
      let front = seen-front t hay in
      sym (ap (λ l. slice_index l k) front.1 ∙ get_or_append_left seen front.0 0 k below)

  pub seen-small : ((k : ℕ) → get_or hay k 0 < 256) → (k : ℕ) → get_or seen k 0 < 256
  seen-small small k = ⊎_elim
      (λ (inside : k < length seen). rw (seen-at k inside) (small k))
      (λ (past : length seen ≤ k). rw (get_or_past seen k 0 past) (lit< tt))
      (cases_lt k (length seen))

  -- a stretch of it that is clear is clear in the haystack
  pub seen-clear : (bytes : List ℕ) (start end : ℕ) → end ≤ length seen → is_clear bytes seen start end ≡ true
      → is_clear bytes hay start end ≡ true
  seen-clear bytes start end fits clear = clear-from bytes hay start end (λ k low high inside.
      ap (is_among bytes) (sym (seen-at k (omega arith)))
      ∙ clear-at bytes seen start end clear k low high (omega arith))

-- of a line, with what ends one, no more is seen than the line
pub seen-line : (line ending : List ℕ) → (ending ≡ feed) ⊎ (ending ≡ pair)
    → length (seen_bytes (Some Crlf) (line ++ ending)) ≤ length line
seen-line line ending (inl is) = elim (line-end-cases (line ++ ending)) [
  | inl both ↦ omega (arith, size, ap length both, length-append (without_line_end (line ++ ending)) pair)
  | inr (inl fed) ↦ omega (arith, size, ap length fed.0, length-append (without_line_end (line ++ ending)) feed)
  | inr (inr none) ↦ absurd (none.1 line (ap (λ l. line ++ l) is))
]
  where
    size : length (line ++ ending) ≡ length line + 1
    size = length-append line ending ∙ ap (λ l. length line + length l) is
seen-line line ending (inr is) = elim (line-end-cases (line ++ ending)) [
  | inl both ↦ omega (arith, size, ap length both, length-append (without_line_end (line ++ ending)) pair)
  | inr (inl fed) ↦ absurd (fed.1 line (ap (λ l. line ++ l) is))
  | inr (inr none) ↦ absurd (none.1 (line ++ 13 ∷ [])
      (ap (λ l. line ++ l) is ∙ sym (append_assoc line (13 ∷ []) feed)))
]
  where
    size : length (line ++ ending) ≡ length line + 2
    size = length-append line ending ∙ ap (λ l. length line + length l) is
