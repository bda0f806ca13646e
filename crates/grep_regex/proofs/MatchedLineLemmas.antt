-- What a local pattern's first match in many lines says of each of them.
use Rattle.std.proofs.Common.{◌≡◌, ◌≢◌, ℕ, zero, suc, ◌+◌, ◌-◌, ◌<◌, ◌≤◌, ◌⊎◌, true, false, List, [], ◌∷◌, ◌++◌, length}
use Rattle.std.proofs.Common.{take, drop, slice_index, slice_index_or, Some, None, is_some, option_map, refl}
use Rattle.std.proofs.Common.{sym, ap, ◌∙◌, inl, inr, ⊎_elim, arith, length-append, length-drop, add-one}
use Rattle.std.proofs.Common.{append_assoc, ◌==◌, get_or-drop, true≢false, get_or}
use Rattle.std.proofs.lemmas.Bool.{cases_lt, cases_eq, cases_Bool, eq-eqb}
use Rattle.std.proofs.lemmas.Bool.Decides.{Decides-eqb}
use Rattle.std.proofs.lemmas.Option.{none-some, slice_get-get_or}
use Rattle.std.proofs.Math.Seq.{take-length}
use Rattle.std.proofs.lemmas.Slice.Eq.{ends_is}
use Rattle.std.proofs.lemmas.List.{get_or_append_left, get_or-append-add, get_or_past}
use Rattle.std.specs.List.{concat, ends_with}
use Rattle.std.specs.Prelude.{nat_eq}
use Rattle.regex_hir.specs.Find.{Match, find}
use Rattle.regex_hir.specs.Matches.{Matches}
use Rattle.regex_hir.specs.Re.{Re, accept, attempt}
use Rattle.regex_hir.specs.Reads.{always_reads}
use Rattle.regex_hir.specs.Text.{byte_before}
use Rattle.regex_hir.proofs.FindLemmas.{find_sound, find_complete, IsFirst-of_first_between}
use Rattle.regex_hir.proofs.MatchesLemmas.{Matches-IsSpan}
use Rattle.regex_hir.proofs.OptionLemmas.{option_cases, value_of_IsSome}
use Rattle.regex_hir.proofs.TextLemmas.{byte_before-add-one}
use Rattle.regex_vm.specs.Found.{span}
use Rattle.grep_matcher.specs.Lines.{byte_of, bytes_of, lines, line_start, strip, onto_first}
use Rattle.grep_matcher.specs.declared.line_terminator.LineTerminator.{LineTerminator}
use Rattle.grep_matcher.specs.declared.line_terminator.LineTerminator.TheVariants.{Byte, Crlf}
use Rattle.grep_matcher.specs.Lawful.{HoldsPosition, EndsBefore}
use Rattle.grep_matcher.specs.Meanings.{Meaning}
use Rattle.grep_matcher.proofs.StrippedLineLemmas.{IsLine, line-is}
use Rattle.grep_regex.specs.Clear.{is_among}
use Rattle.grep_regex.specs.Locality.{is_local, is_crlf}
use Rattle.grep_regex.specs.Patterns.{leftmost_match_at}
use Rattle.grep_regex.proofs.ReadsLemmas.{reads-some}
use Rattle.grep_regex.proofs.EdgeLemmas.{IsSeparated, IsPart, first_byte, matches-in, matches-out}

pub found-to : (re : Re) (hay : List ℕ) (start : ℕ) (m : Match) → find re hay start ≡ Some m → m.start ≤ length hay
unfolding find
found-to re hay start m e = (IsFirst-of_first_between (attempt hay re accept) start (length hay) m e).to

-- ---- the lines

prefix-is : (xs line : List ℕ) → length line ≤ length xs
    → ((j : ℕ) → j < length line → slice_index xs j ≡ slice_index line j) →
    xs ≡ line ++ drop (length line) xs
prefix-is xs [] fits same = refl
prefix-is [] (b ∷ line) fits same = absurd (omega arith)
prefix-is (x ∷ xs) (b ∷ line) fits same =
    ap (λ y. y ∷ xs) (same 0 (omega arith))
    ∙ ap (λ l. b ∷ l) (prefix-is xs line (omega arith) (λ j below. same (suc j) (omega arith)))

-- a list with its last element apart
pub last-is : (line : List ℕ) (t : ℕ) → 0 < length line → slice_index line (length line - 1) ≡ t → line
    ≡ take (length line - 1) line ++ t ∷ []
last-is [] t some e = absurd (omega arith)
last-is (b ∷ []) t some e = ap (λ x. x ∷ []) e
last-is (b ∷ c ∷ line) t some e =
    let less : length (b ∷ c ∷ line) - 1 ≡ suc (length (c ∷ line) - 1) = omega arith in
    rw less (ap (λ l. b ∷ l) (last-is (c ∷ line) t (omega arith) (rw less at e)))

onto-first : (b : ℕ) (ls : List (List ℕ)) → length (concat (onto_first b ls)) ≡ suc (length (concat ls))
onto-first b [] = refl
onto-first b (l ∷ ls) = refl

whole-lines : (t : ℕ) (bytes : List ℕ) → length (concat (lines t bytes)) ≡ length bytes
whole-lines t [] = refl
whole-lines t (b ∷ bytes) = ⊎_elim
    (λ (does : (b == t) ≡ true). rw does (ap suc (whole-lines t bytes)))
    (λ (doesnt : (b == t) ≡ false). rw doesnt (onto-first b (lines t bytes) ∙ ap suc (whole-lines t bytes)))
    (cases_Bool (b == t))

-- where a stretch begins in which each byte is excluded, a match without excluded bytes ends, unless it is past that
pub short : (ends hay : List ℕ) (a b e last : ℕ)
    → ((k : ℕ) → e ≤ k → k < last → is_among ends (slice_index hay k) ≡ true)
    → ((k : ℕ) → a ≤ k → k < b → is_among ends (slice_index hay k) ≡ false)
    → (e < b → a ≤ e → e < last) → (e < a → (a < b) × (a < last)) → b ≤ e
short ends hay a b e last excluded clear within past = ⊎_elim
    (λ (far : e < b). ⊎_elim
    (λ (beyond : e < a).
    let both = past beyond in
    absurd (true≢false (sym (excluded a (omega arith) both.1) ∙ clear a (omega arith) both.0)))
    (λ (under : a ≤ e).
    absurd (true≢false (sym (excluded e (omega arith) (within far under)) ∙ clear e under far)))
    (cases_lt e a))
    (λ near. near)
    (cases_lt e b)

module _ (terminator : LineTerminator) (bytes : List ℕ) where
  abbrev pub line : ℕ → List ℕ
  line i = slice_index_or (lines (byte_of terminator) bytes) i []

  abbrev pub start : ℕ → ℕ
  start i = line_start (byte_of terminator) bytes i

  abbrev pub kept : ℕ → List ℕ
  kept i = strip terminator (line i)

  abbrev pub IsListed : ℕ → Type 0
  IsListed i = i < length (lines (byte_of terminator) bytes)

  abbrev IsLineAt : ℕ → Type 0
  IsLineAt i = IsLine (byte_of terminator) bytes (line i) (start i) (start (i + 1))

  last-start : (n : ℕ) → n ≡ length (lines (byte_of terminator) bytes) → start n ≡ length bytes
  last-start n e = ap (λ ls. length (concat ls)) (ap (λ k. take k (lines (byte_of terminator) bytes)) e
      ∙ take-length (lines (byte_of terminator) bytes))
      ∙ whole-lines (byte_of terminator) bytes

  -- a line ends in excluded bytes from a position on
  record IsEnded (i end : ℕ) : Type 0 where
    more : end < start (i + 1)
    excluded : (k : ℕ) → end ≤ k → k < start (i + 1) → is_among (bytes_of terminator) (slice_index bytes k) ≡ true
    closed : slice_index bytes (start (i + 1) - 1) ≡ byte_of terminator
    single : (is_crlf terminator ≡ true) ⊎ (start (i + 1) ≡ end + 1)

  -- or it is the last one and ends with the bytes
  record IsLast (i end : ℕ) : Type 0 where
    whole : length bytes ≡ end
    last : start (i + 1) ≡ length bytes
    bare : slice_index bytes (length bytes - 1) ≢ byte_of terminator

  abbrev rest : ℕ → List ℕ
  rest i = drop (length (line i)) (drop (start i) bytes)

  split : (i : ℕ) → IsListed i → drop (start i) bytes ≡ line i ++ rest i
  split i listed =
      let is = line-is (byte_of terminator) bytes i listed in
      prefix-is (drop (start i) bytes) (line i) (omega (arith, is.occurs.fits, length-drop (start i) bytes)) (λ j below.
      get_or-drop (start i) bytes j 0 ∙ is.occurs.reads j below)

  before : (i : ℕ) → IsListed i → (start i ≡ 0) ⊎ (byte_before bytes (start i) ≡ Some (byte_of terminator))
  before zero listed = inl refl
  before (suc k) listed =
      let is = line-is (byte_of terminator) bytes k (omega arith) in
      let later = line-is (byte_of terminator) bytes (suc k) listed in
      let next : start (k + 1) ≡ start (suc k) = ap start (add-one k) in
      let back : start (suc k) - 1 + 1 ≡ start (suc k) = omega (arith, is.ends, is.filled, next) in
      let at : slice_index bytes (start (suc k) - 1)
      ≡ byte_of terminator = rw next at (is.closed (omega (arith, later.occurs.fits, later.filled, next))) in
      inr (ap (byte_before bytes) (sym back) ∙ (byte_before-add-one bytes (start (suc k) - 1)
      ∙ (slice_get-get_or bytes (start (suc k) - 1) 0 (omega (arith, later.occurs.fits, later.filled, back))
      ∙ ap Some at)))

  -- a line without its terminator is looked at up to `top`, and what it has there is excluded
  record IsKept (i : ℕ) : Type 0 where
    post : List ℕ
    top : ℕ
    part : IsPart terminator bytes (kept i) post (start i) top
    past : (k : ℕ) → top ≤ k → k < length (kept i) → is_among (bytes_of terminator) (slice_index (kept i) k) ≡ true
    full : (is_crlf terminator ≡ true) ⊎ (top ≡ length (kept i))
    end : IsEnded i (start i + top) ⊎ IsLast i (start i + top)

  -- a byte of the terminator that a line ends with
  ended-at : (i : ℕ) → IsListed i → line i ≡ kept i ++ bytes_of terminator → (j : ℕ) → j < length (bytes_of terminator)
      → slice_index bytes (start i + (length (kept i) + j)) ≡ slice_index (bytes_of terminator) j
  ended-at i listed joined j below =
      let is : IsLineAt i = line-is (byte_of terminator) bytes i listed in
      is.occurs.reads (length (kept i) + j)
      (omega (arith, ap length joined, length-append (kept i) (bytes_of terminator)))
      ∙ (ap (λ l. slice_index l (length (kept i) + j)) joined
      ∙ get_or-append-add (kept i) (bytes_of terminator) j 0)

  -- a line that doesn't end in the last byte of a terminator
  unended : (i : ℕ) → IsListed i → kept i ≡ line i → slice_index (line i) (length (line i) - 1) ≢ byte_of terminator
      → IsKept i
  unended i listed same bare =
      let is : IsLineAt i = line-is (byte_of terminator) bytes i listed in
      let size : length (kept i) ≡ length (line i) = ap length same in
      let lasts : slice_index bytes (start (i + 1) - 1) ≢ byte_of terminator = λ last.
      let there : start i + (length (line i) - 1) ≡ start (i + 1) - 1 = omega (arith, is.ends, is.filled) in
      bare (sym (is.occurs.reads (length (line i) - 1) (omega (arith, is.filled)))
      ∙ (ap (slice_index bytes) there ∙ last)) in
      let whole : start (i + 1) ≡ length bytes = ⊎_elim (λ more. absurd (lasts (is.closed more)))
      (λ past. omega (arith, is.ends, is.occurs.fits))
      (cases_lt (start (i + 1)) (length bytes)) in
      let ends : length bytes ≡ start i + length (kept i) = omega (arith, is.ends, whole, size) in
      record {
        post = rest i;
        top = length (kept i);
        part = record {
          front = split i listed ∙ ap (λ l. l ++ rest i) (sym same);
          within = omega (arith, ends);
          fits = omega arith;
          before = before i listed;
          after = inl ends;
        };
        past = λ k low high. absurd (omega arith);
        full = inr refl;
        end = inr (record { whole = ends; last = whole; bare = rw whole at lasts });
      }

  -- a line without its terminator is made of bytes if all is
  kept-small-by : ((k : ℕ) → get_or bytes k 0 < 256) → (i : ℕ) → IsKept i → (k : ℕ) → get_or (kept i) k 0 < 256
  kept-small-by small i it k = ⊎_elim
      (λ (inside : k < length (kept i)).
      let same : get_or (kept i) k 0 ≡ get_or bytes (start i + k) 0 = sym
      (get_or_append_left (kept i) it.post 0 k inside)
      ∙ (ap (λ l. get_or l k 0) (sym it.part.front) ∙ get_or-drop (start i) bytes k 0) in
      let low : get_or bytes (start i + k) 0 < 256 = small (start i + k) in
      omega (arith, same, low))
      (λ (past : length (kept i) ≤ k). let zeroth : get_or (kept i) k 0
      ≡ 0 = get_or_past (kept i) k 0 past in omega (arith, zeroth))
      (cases_lt k (length (kept i)))

  -- a line that ends in all of its terminator
  terminated : (i : ℕ) → IsListed i → line i ≡ kept i ++ bytes_of terminator
      → slice_index bytes (start i + length (kept i)) ≡ first_byte terminator → IsEnded i (start i + length (kept i))
      → IsKept i
  terminated i listed joined at end =
      let is : IsLineAt i = line-is (byte_of terminator) bytes i listed in
      let inside : start i + length (kept i) < length bytes = omega (arith, end.more, is.ends, is.occurs.fits) in
      record {
        post = bytes_of terminator ++ rest i;
        top = length (kept i);
        part = record {
          front = split i listed
              ∙ (ap (λ l. l ++ rest i) joined ∙ append_assoc (kept i) (bytes_of terminator) (rest i));
          within = omega (arith, inside);
          fits = omega arith;
          before = before i listed;
          after = inr (inl (refl, slice_get-get_or bytes _ 0 inside ∙ ap Some at));
        };
        past = λ k low high. absurd (omega arith);
        full = inr refl;
        end = inl end;
      }

among-one : (t x : ℕ) → x ≡ t → is_among (t ∷ []) x ≡ true
among-one t x e = let same = eq-eqb x t e in rw same refl

pub among-crlf : (x : ℕ) → (x ≡ 13) ⊎ (x ≡ 10) → is_among (13 ∷ 10 ∷ []) x ≡ true
among-crlf x (inl e) = ap (is_among (13 ∷ 10 ∷ [])) e
among-crlf x (inr e) = ap (is_among (13 ∷ 10 ∷ [])) e

module _ (t : ℕ) (bytes : List ℕ) (i : ℕ) (listed : IsListed (Byte t) bytes i) where
  abbrev of-byte : LineTerminator
  of-byte = Byte t

  byte-ended : line of-byte bytes i ≡ kept of-byte bytes i ++ t ∷ [] → IsKept of-byte bytes i
  byte-ended joined =
      let is = line-is t bytes i listed in
      let n : ℕ = start of-byte bytes i + length (kept of-byte bytes i) in
      let size : length (line of-byte bytes i) ≡ length (kept of-byte bytes i) + 1 = ap length joined
      ∙ length-append (kept of-byte bytes i) (t ∷ []) in
      let here : start of-byte bytes i + length (kept of-byte bytes i)
      ≡ start of-byte bytes i + (length (kept of-byte bytes i) + 0) = omega arith in
      let at : slice_index bytes (start of-byte bytes i + length (kept of-byte bytes i)) ≡ t =
      ap (slice_index bytes) here ∙ ended-at of-byte bytes i listed joined 0 (omega arith) in
      let last : start of-byte bytes (i + 1) - 1 ≡ start of-byte bytes i + length (kept of-byte bytes i) =
      omega (arith, is.ends, size) in
      terminated of-byte bytes i listed joined at (record {
        more = omega (arith, is.ends, size);
        excluded = λ k low high.
            let same : k ≡ start of-byte bytes i + length (kept of-byte bytes i) = omega (arith, is.ends, size) in
            among-one t (slice_index bytes k) (ap (slice_index bytes) same ∙ at);
        closed = ap (slice_index bytes) last ∙ at;
        single = inr (omega (arith, is.ends, size));
      })

  byte-kept : IsKept of-byte bytes i
  byte-kept = ⊎_elim
      (λ (does : ends_with nat_eq (line of-byte bytes i) (t ∷ []) ≡ true).
      byte-ended (rw does ((ends_is Decides-eqb (line of-byte bytes i) (t ∷ []) _ refl).0 does)))
      (λ (doesnt : ends_with nat_eq (line of-byte bytes i) (t ∷ []) ≡ false).
      unended of-byte bytes i listed (rw doesnt refl) (λ last. true≢false (sym
      ((ends_is Decides-eqb (line of-byte bytes i) (t ∷ []) _ refl).1 _
      (last-is (line of-byte bytes i) t (line-is t bytes i listed).filled last)) ∙ doesnt)))
      (cases_Bool (ends_with nat_eq (line of-byte bytes i) (t ∷ [])))

module _ (bytes : List ℕ) (i : ℕ) (listed : IsListed Crlf bytes i) where
  abbrev both : List ℕ
  both = 13 ∷ 10 ∷ []

  crlf-ended : line Crlf bytes i ≡ kept Crlf bytes i ++ both → IsKept Crlf bytes i
  crlf-ended joined =
      let is = line-is 10 bytes i listed in
      let size : length (line Crlf bytes i) ≡ length (kept Crlf bytes i) + 2 = ap length joined
      ∙ length-append (kept Crlf bytes i) both in
      let here : start Crlf bytes i + length (kept Crlf bytes i)
      ≡ start Crlf bytes i + (length (kept Crlf bytes i) + 0) = omega arith in
      let at : slice_index bytes (start Crlf bytes i + length (kept Crlf bytes i)) ≡ 13 =
      ap (slice_index bytes) here ∙ ended-at Crlf bytes i listed joined 0 (omega arith) in
      let next : slice_index bytes (start Crlf bytes i + (length (kept Crlf bytes i) + 1)) ≡ 10 =
      ended-at Crlf bytes i listed joined 1 (omega arith) in
      let last : start Crlf bytes (i + 1) - 1 ≡ start Crlf bytes i + (length (kept Crlf bytes i) + 1) =
      omega (arith, is.ends, size) in
      terminated Crlf bytes i listed joined at (record {
        more = omega (arith, is.ends, size);
        excluded = λ k low high. among-crlf (slice_index bytes k) (⊎_elim
            (λ (first : k ≡ start Crlf bytes i + length (kept Crlf bytes i)). inl (ap (slice_index bytes) first ∙ at))
            (λ other.
            let second : k ≡ start Crlf bytes i + (length (kept Crlf bytes i) + 1) =
            omega (arith, is.ends, size, other) in
            inr (ap (slice_index bytes) second ∙ next))
            (cases_eq k (start Crlf bytes i + length (kept Crlf bytes i))));
        closed = ap (slice_index bytes) last ∙ next;
        single = inl refl;
      })

  -- a line that ends in a line feed alone, which it keeps
  crlf-fed : kept Crlf bytes i ≡ line Crlf bytes i
      → slice_index (line Crlf bytes i) (length (line Crlf bytes i) - 1) ≡ 10 → IsKept Crlf bytes i
  crlf-fed same fed =
      let is = line-is 10 bytes i listed in
      let top : ℕ = length (line Crlf bytes i) - 1 in
      let size : length (kept Crlf bytes i) ≡ length (line Crlf bytes i) = ap length same in
      let inside : start Crlf bytes i + (length (line Crlf bytes i) - 1) < length bytes =
      omega (arith, is.occurs.fits, is.filled) in
      let at : slice_index bytes (start Crlf bytes i + (length (line Crlf bytes i) - 1)) ≡ 10 =
      is.occurs.reads (length (line Crlf bytes i) - 1) (omega (arith, is.filled)) ∙ fed in
      let last : start Crlf bytes (i + 1) - 1 ≡ start Crlf bytes i + (length (line Crlf bytes i) - 1) =
      omega (arith, is.ends, is.filled) in
      record {
        post = rest Crlf bytes i;
        top = length (line Crlf bytes i) - 1;
        part = record {
          front = split Crlf bytes i listed ∙ ap (λ l. l ++ rest Crlf bytes i) (sym same);
          within = omega (arith, inside);
          fits = omega (arith, size);
          before = before Crlf bytes i listed;
          after = inr (inr (inl (omega (arith, size, is.filled), slice_get-get_or bytes _ 0 inside ∙ ap Some at)));
        };
        past = λ k low high.
            let there : k ≡ length (line Crlf bytes i) - 1 = omega (arith, size) in
            among-crlf (slice_index (kept Crlf bytes i) k)
            (inr (ap (λ l. slice_index l k) same ∙ (ap (slice_index (line Crlf bytes i)) there ∙ fed)));
        full = inl refl;
        end = inl (record {
          more = omega (arith, is.ends, is.filled);
          excluded = λ k low high.
              let there : k ≡ start Crlf bytes i + (length (line Crlf bytes i) - 1) =
              omega (arith, is.ends, is.filled) in
              among-crlf (slice_index bytes k) (inr (ap (slice_index bytes) there ∙ at));
          closed = ap (slice_index bytes) last ∙ at;
          single = inl refl;
        });
      }

  crlf-kept : IsKept Crlf bytes i
  crlf-kept = ⊎_elim
      (λ (does : ends_with nat_eq (line Crlf bytes i) both ≡ true).
      crlf-ended (rw does ((ends_is Decides-eqb (line Crlf bytes i) both _ refl).0 does)))
      (λ (doesnt : ends_with nat_eq (line Crlf bytes i) both ≡ false). ⊎_elim
      (λ fed. crlf-fed (rw doesnt refl) fed)
      (λ bare. unended Crlf bytes i listed (rw doesnt refl) bare)
      (cases_eq (slice_index (line Crlf bytes i) (length (line Crlf bytes i) - 1)) 10))
      (cases_Bool (ends_with nat_eq (line Crlf bytes i) both))

kept-is : (terminator : LineTerminator) (bytes : List ℕ) (i : ℕ) → IsListed terminator bytes i
    → IsKept terminator bytes i
kept-is (Byte t) bytes i listed = byte-kept t bytes i listed
kept-is Crlf bytes i listed = crlf-kept bytes i listed

-- a line without its terminator is made of bytes if all is
pub kept-small : (terminator : LineTerminator) (bytes : List ℕ) → ((k : ℕ) → get_or bytes k 0 < 256) → (i : ℕ)
    → IsListed terminator bytes i → (k : ℕ) → get_or (kept terminator bytes i) k 0 < 256
kept-small terminator bytes small i listed =
    kept-small-by terminator bytes small i (kept-is terminator bytes i listed)

-- the match holds none of the terminator's bytes
abbrev pub IsClear : LineTerminator → List ℕ → Match → Type 0
IsClear terminator hay m = (k : ℕ) → m.start ≤ k → k < m.trace.end
    → is_among (bytes_of terminator) (slice_index hay k) ≡ false

-- each match that is found in a haystack holds none of them
abbrev pub FindsClear : LineTerminator → Re → List ℕ → Type 0
FindsClear terminator re hay = (m : Match) → find re hay 0 ≡ Some m → IsClear terminator hay m

module _ (terminator : LineTerminator) (sep : IsSeparated terminator) (bytes : List ℕ) (re : Re)
    (ok : is_local terminator re ≡ true) (reads : is_crlf terminator ≡ true → always_reads re ≡ true) where
  -- a line that matches alone matches in the bytes too
  outer : (i : ℕ) (it : IsKept terminator bytes i) → FindsClear terminator re (kept terminator bytes i)
      → is_some (leftmost_match_at re (kept terminator bytes i) 0) ≡ true →
      (a : ℕ) × (b : ℕ) × (a ≤ it.top) × Matches bytes re (start terminator bytes i + a) (start terminator bytes i + b)
  outer i it clear does = ⊎_elim
      (λ none. absurd (true≢false (sym does ∙ ap (λ o. is_some (option_map span o)) none)))
      (λ some.
      let sound = find_sound re (kept terminator bytes i) 0 some.0 some.1 in
      let to = found-to re (kept terminator bytes i) 0 some.0 some.1 in
      let spans = Matches-IsSpan (kept terminator bytes i) re _ _ sound.1 in
      let inside : some.0.trace.end ≤ length (kept terminator bytes i) = omega (arith, spans, to) in
      let near : some.0.trace.end ≤ it.top = short (bytes_of terminator) (kept terminator bytes i) some.0.start
      some.0.trace.end it.top (length (kept terminator bytes i)) it.past (clear some.0 some.1)
      (λ far under. omega (arith, inside, far))
      (λ beyond. ⊎_elim
      (λ crlf. let moves = reads-some (kept terminator bytes i) re _ _ (reads crlf) sound.1 in
      (moves, omega (arith, moves, inside)))
      (λ whole. absurd (omega (arith, whole, beyond, to)))
      it.full) in (
        some.0.start,
        some.0.trace.end,
        omega (arith, near, spans),
        matches-in terminator sep bytes (kept terminator bytes i) it.post (start terminator bytes i) it.top it.part re
            ok _ _ near sound.1,
      ))
      (option_cases (find re (kept terminator bytes i) 0))

  inner : (i x y : ℕ) (it : IsKept terminator bytes i) → start terminator bytes i ≤ x
      → y ≤ start terminator bytes i + it.top → Matches bytes re x y
      → is_some (leftmost_match_at re (kept terminator bytes i) 0) ≡ true
  inner i x y it low under m =
      let spans = Matches-IsSpan bytes re x y m in
      let some = value_of_IsSome _ (find_complete re (kept terminator bytes i) 0 (x - start terminator bytes i)
      (y - start terminator bytes i) (omega arith)
      (omega (arith, spans, it.part.fits))
      (matches-out terminator sep bytes (kept terminator bytes i) it.post (start terminator bytes i) it.top it.part re
      ok x y low under m)) in
      ap (λ o. is_some (option_map span o)) some.1

  -- where a line is looked at, the bytes are
  within : (i : ℕ) (it : IsKept terminator bytes i) → IsListed terminator bytes i
      → start terminator bytes i + it.top ≤ length bytes
  within i it listed = ⊎_elim
      (λ ended. omega (
        arith,
        (line-is (byte_of terminator) bytes i listed).occurs.fits,
        (line-is (byte_of terminator) bytes i listed).ends,
        ended.more,
      ))
      (λ last. omega (arith, last.whole))
      it.end

  -- if nothing is found, no line matches
  pub missed-all : find re bytes 0 ≡ None → (i : ℕ) → IsListed terminator bytes i
      → FindsClear terminator re (kept terminator bytes i)
      → is_some (leftmost_match_at re (kept terminator bytes i) 0) ≡ false
  missed-all none i listed clear = ⊎_elim
      (λ does.
      let it = kept-is terminator bytes i listed in
      let m = outer i it clear does in
      let some = value_of_IsSome _ (find_complete re bytes 0 _ _ (omega arith)
      (omega (arith, m.2, within i it listed)) m.3) in
      absurd (none-some some.0 (sym none ∙ some.1)))
      (λ doesnt. doesnt)
      (cases_Bool (is_some (leftmost_match_at re (kept terminator bytes i) 0)))

  module _ (m : Match) (found : find re bytes 0 ≡ Some m) where
    -- a line that ends before the first match doesn't match
    pub missed : (meaning : Meaning) (i : ℕ) → IsListed terminator bytes i
        → FindsClear terminator re (kept terminator bytes i) → EndsBefore terminator meaning bytes i m.start
        → is_some (leftmost_match_at re (kept terminator bytes i) 0) ≡ false
    missed meaning i listed clear ends = ⊎_elim
        (λ does.
        let it = kept-is terminator bytes i listed in
        let o = outer i it clear does in
        let sound = find_sound re bytes 0 m found in
        let to = found-to re bytes 0 m found in
        ⊎_elim
        (λ (sooner : start terminator bytes i + o.0 < m.start). absurd (sound.2 _ _ (omega arith) sooner o.3))
        (λ (later : m.start ≤ start terminator bytes i + o.0). ⊎_elim
        (λ ended. absurd (omega (arith, ended.more, o.2, ends.0)))
        (λ last. absurd (ends.1 (
          omega (arith, ends.0, last.whole, last.last),
          inr (only i listed last.last, omega (arith, ends.0, last.last, to), last.bare),
        )))
        it.end)
        (cases_lt (start terminator bytes i + o.0) m.start))
        (λ doesnt. doesnt)
        (cases_Bool (is_some (leftmost_match_at re (kept terminator bytes i) 0)))
      where
        only : (i : ℕ) → IsListed terminator bytes i → start terminator bytes (i + 1) ≡ length bytes
            → i + 1 ≡ length (lines (byte_of terminator) bytes)
        only i listed whole = ⊎_elim
            (λ more. let next = line-is (byte_of terminator) bytes (i + 1) more in
            absurd (omega (arith, next.occurs.fits, next.filled, whole)))
            (λ past. omega arith)
            (cases_lt (i + 1) (length (lines (byte_of terminator) bytes)))

    -- a line that holds the start of a match and ends in a terminator has the match before that
    before-end : (meaning : Meaning) (i : ℕ) (it : IsKept terminator bytes i)
        → HoldsPosition terminator meaning bytes i m.start → IsClear terminator bytes m
        → IsEnded terminator bytes i (start terminator bytes i + it.top)
        → m.trace.end ≤ start terminator bytes i + it.top
    before-end meaning i it holds clear ended =
        let sound = find_sound re bytes 0 m found in
        short (bytes_of terminator) bytes m.start m.trace.end (start terminator bytes i + it.top)
        (start terminator bytes (i + 1)) ended.excluded clear (λ far under. ended.more)
        (λ beyond. ⊎_elim
        (λ (below : m.start < start terminator bytes (i + 1)). ⊎_elim
        (λ crlf. (reads-some bytes re _ _ (reads crlf) sound.1, below))
        (λ single. absurd (omega (arith, single, beyond, below)))
        ended.single)
        (λ end.
        let whole : start terminator bytes (i + 1) ≡ length bytes = last-start terminator bytes (i + 1) end.0 in
        absurd (end.2 (ap (λ k. slice_index bytes (k - 1)) (sym whole) ∙ ended.closed)))
        holds.1)

    -- the line that holds the start of a match without excluded bytes matches
    pub matched : (meaning : Meaning) (i : ℕ) → IsListed terminator bytes i
        → HoldsPosition terminator meaning bytes i m.start → IsClear terminator bytes m
        → is_some (leftmost_match_at re (kept terminator bytes i) 0) ≡ true
    matched meaning i listed holds clear =
        let it = kept-is terminator bytes i listed in
        let sound = find_sound re bytes 0 m found in
        let to = found-to re bytes 0 m found in
        let spans = Matches-IsSpan bytes re _ _ sound.1 in
        inner i m.start m.trace.end it holds.0 (⊎_elim
        (λ ended. before-end meaning i it holds clear ended)
        (λ last. omega (arith, spans, to, last.whole))
        it.end) sound.1
