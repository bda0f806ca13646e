-- A matcher of the first byte that passes a test matches by line if a line feed doesn't pass it.
use Rattle.std.proofs.Common.{◌≡◌, ℕ, Bool, ◌+◌, ◌-◌, ◌<◌, true, false, List, [], ◌∷◌, ◌++◌, length, Option, Some, None}
use Rattle.std.proofs.Common.{IfSome, is_some, refl, ap, ap₂, sym, ◌∙◌, subst, arith, ⊎_elim, cond}
use Rattle.std.proofs.Math.Bool.{or-false}
use Rattle.std.proofs.lemmas.Bool.{cases_lt, cases_Bool, false≢true}
use Rattle.std.proofs.lemmas.Iterator.Adapters.{position_from-zero}
use Rattle.std.proofs.lemmas.List.Folds.{list_any-append}
use Rattle.std.proofs.lemmas.List.Quantifiers.{position-Some}
use Rattle.std.specs.List.{position, position_from, list_any}
use Rattle.std.specs.Option.{option_map, option_or}
use Rattle.grep_matcher.specs.declared.line_terminator.LineTerminator.TheVariants.{Byte}
use Rattle.grep_matcher.proofs.StrippedLineLemmas.{strip-joined}
use Rattle.grep_matcher.specs.FindResults.{match_from}
use Rattle.grep_matcher.specs.LineMatches.{IsEndedLine, MatchesByLine}
use Rattle.grep_matcher.specs.Lines.{strip}
use Rattle.grep_matcher.specs.Meanings.{Meaning}
use Rattle.grep_searcher.specs.FirstByteMatches.{first_byte, FirstBytesAreFound}
use Rattle.grep_searcher.specs.FirstByteMatches.{FirstBytesMatchByLine, one_byte}

module _ (passes : ℕ → Bool) where
  -- what is found in two parts is found in the first, or in the second
  position-parts : (i : ℕ) (front back : List ℕ) → position_from passes i (front ++ back)
      ≡ option_or (position_from passes i front) (position_from passes (i + length front) back)
  position-parts i [] back = let same : i + 0 ≡ i = omega arith in rw same refl
  position-parts i (b ∷ front) back =
      let sum : i + length (b ∷ front) ≡ i + 1 + length front = omega arith in
      rw sum (go (position_from passes (i + 1 + length front) back) (position-parts (i + 1) front back) (passes b))
    where
      go : (later : Option ℕ)
          → position_from passes (i + 1) (front ++ back) ≡ option_or (position_from passes (i + 1) front) later
          → (yes : Bool) → cond yes (Some i) (position_from passes (i + 1) (front ++ back))
          ≡ option_or (cond yes (Some i) (position_from passes (i + 1) front)) later
      go later both true = refl
      go later both false = both

  -- from a later position on, everything is found as much later
  position-later : (k i : ℕ) (bytes : List ℕ) → position_from passes (k + i) bytes
      ≡ option_map (λ j. k + j) (position_from passes i bytes)
  position-later k i [] = refl
  position-later k i (b ∷ bytes) =
      let sum : k + i + 1 ≡ k + (i + 1) = omega arith in
      rw sum (go (position-later k (i + 1) bytes) (passes b))
    where
      go : position_from passes (k + (i + 1)) bytes ≡ option_map (λ j. k + j) (position_from passes (i + 1) bytes)
          → (yes : Bool) → cond yes (Some (k + i)) (position_from passes (k + (i + 1)) bytes)
          ≡ option_map (λ j. k + j) (cond yes (Some i) (position_from passes (i + 1) bytes))
      go later true = refl
      go later false = later

  position-append : (front back : List ℕ) → position passes (front ++ back)
      ≡ option_or (position passes front) (option_map (λ j. length front + j) (position passes back))
  position-append front back =
      let sum : 0 + length front ≡ length front + 0 = omega arith in
      let later : position_from passes (0 + length front) back
      ≡ option_map (λ j. length front + j) (position passes back) =
      rw sum (position-later (length front) 0 back ∙ ap (option_map (λ j. length front + j))
      (sym (position_from-zero passes back))) in
      position_from-zero passes (front ++ back)
      ∙ (position-parts 0 front back ∙ ap₂ option_or (sym (position_from-zero passes front)) later)

  -- so is the match
  match-parts : (k : ℕ) (first second : Option ℕ)
      → option_map one_byte (option_or first (option_map (λ j. k + j) second))
      ≡ option_or (option_map one_byte first) (match_from k (option_map one_byte second))
  match-parts k (Some i) second = refl
  match-parts k None None = refl
  match-parts k None (Some j) =
      let pair : ℕ → Option (ℕ × ℕ) = λ n. Some (k + j, n) in
      let sum : k + j + 1 ≡ k + (j + 1) = omega arith in
      ap pair sum

  -- there is a match if any byte passes
  any-position : (i : ℕ) (bytes : List ℕ) → is_some (position_from passes i bytes) ≡ list_any passes bytes
  any-position i [] = refl
  any-position i (b ∷ bytes) = ⊎_elim (λ yes. rw yes refl) (λ no. rw no (any-position (i + 1) bytes))
      (cases_Bool (passes b))

  is_some-match : (found : Option ℕ) → is_some (option_map one_byte found) ≡ is_some found
  is_some-match None = refl
  is_some-match (Some i) = refl

  is_some-any : (bytes : List ℕ) → is_some (first_byte passes bytes) ≡ list_any passes bytes
  is_some-any bytes = is_some-match (position passes bytes)
      ∙ (ap is_some (position_from-zero passes bytes) ∙ any-position 0 bytes)

  -- it isn't the line feed at the end of a line, which doesn't pass
  before : passes 10 ≡ false → (line : List ℕ) → IsEndedLine 10 line → (found : Option ℕ) → position passes line ≡ found
      → IfSome (option_map one_byte found) (λ m. m.1 < length line)
  before fails line ended None is = tt
  before fails line ended (Some i) is =
      let at = position-Some passes line i 0 is in ⊎_elim
      (λ below. below)
      (λ last.
      let same : i ≡ length line - 1 = omega (arith, at.0, last) in
      absurd (false≢true (sym fails ∙ (ap passes (sym ended.1) ∙ rw same at at.1))))
      (cases_lt (i + 1) (length line))

  any-stripped : passes 10 ≡ false → (line : List ℕ) → list_any passes (strip (Byte 10) line) ≡ list_any passes line
  any-stripped fails line = ⊎_elim
      (λ joined.
      let kept : List ℕ = strip (Byte 10) line in
      sym (ap (list_any passes) joined ∙ (list_any-append passes kept (10 ∷ [])
      ∙ (rw fails (or-false (list_any passes kept))))))
      (λ same. ap (list_any passes) same)
      (strip-joined (Byte 10) line)

  first-byte-by-line : passes 10 ≡ false → (meaning : Meaning)
      → ((bytes : List ℕ) → meaning.first bytes ≡ first_byte passes bytes) → MatchesByLine meaning (Byte 10)
  first-byte-by-line fails meaning is = record {
    one_by_one = λ line rest ended. is (line ++ rest) ∙ (ap (option_map one_byte) (position-append line rest)
        ∙ (match-parts (length line) (position passes line) (position passes rest)
        ∙ ap₂ option_or (sym (is line)) (ap (match_from (length line)) (sym (is rest)))));
    before_end = λ line ended. subst (λ o. IfSome o (λ m. m.1 < length line)) (sym (is line))
        (before fails line ended (position passes line) refl);
    stripped = λ line ended. ap is_some (is (strip (Byte 10) line)) ∙ (is_some-any (strip (Byte 10) line)
        ∙ (any-stripped fails line ∙ sym (ap is_some (is line) ∙ is_some-any line)));
  }

pub first_bytes-are_found : FirstBytesAreFound
first_bytes-are_found passes bytes = is_some-any passes bytes

pub first_bytes-match_by_line : FirstBytesMatchByLine
first_bytes-match_by_line passes meaning fails is = first-byte-by-line passes fails meaning is
