-- What detection makes of bytes and of those that come after them.
use Rattle.std.proofs.Common.{◌≡◌, ◌⊎◌, inl, inr, ℕ, ◌+◌, ◌<◌, ◌≤◌, Bool, true, false, List, []}
use Rattle.std.proofs.Common.{◌++◌, length, take, Option, None, Some, refl, sym, ◌∙◌, arith}
use Rattle.std.proofs.Common.{if◌then◌else◌, ◌==◌, nat_lt, length-append, not, eqb, ltb-true}
use Rattle.std.proofs.Common.{◌&&◌}
use Rattle.std.specs.List.{position, position_or_len}
use Rattle.std.specs.Option.{option_map, is_some}
use Rattle.std.proofs.lemmas.Bool.{eq-eqb, eqb-true, le-ltb, lt-ltb, false_from_ne_true, false≢true}
use Rattle.std.proofs.lemmas.List.{map-append, length-map, take-append-le, take_all, drop_at}
use Rattle.std.proofs.Math.Seq.{take-add, take-append_seam}
use Rattle.std.proofs.lemmas.List.Folds.{prefix_len-append}
use Rattle.std.proofs.lemmas.List.Sums.{prefix_len-le-length}
use Rattle.std.proofs.lemmas.Option.{none-some}
use Rattle.grep_line_buffer.specs.declared.detection.Detection.{Detection}
use Rattle.grep_line_buffer.specs.declared.detection.Detection.TheVariants.{None as no_detection}
use Rattle.grep_line_buffer.specs.declared.detection.Detection.TheVariants.{Quit, Convert}
use Rattle.grep_line_buffer.specs.Detections.{detected_bytes, found_in, first_of, is_quit}

-- a number that is at most another is below it or the same
below-or-same : (a b : ℕ) → a ≤ b → (t : Bool) → nat_lt a b ≡ t → (a < b) ⊎ (a ≡ b)
below-or-same a b most true is = inl (ltb-true a b is)
below-or-same a b most false is = grind (arith, false≢true, lt-ltb)

unlike : (a b : ℕ) → a < b → eqb a b ≡ false
unlike a b below = false_from_ne_true (eqb a b)
    (λ same. absurd (omega (arith, below, eqb-true a b same)))

take-later : (l : List ℕ) (n : ℕ) (m : List ℕ) → take (length l + n) (l ++ m) ≡ l ++ take n m
take-later l n m = grind (arith, take-add, take-append_seam, drop_at)

module _ (p : ℕ → Bool) where
  -- whether a byte passes
  pub passes-or-not : (xs : List ℕ) → (position_or_len p xs < length xs)
      ⊎ (position_or_len p xs ≡ length xs)
  passes-or-not xs = grind (arith, below-or-same, prefix_len-le-length, nat_lt)

  pub position-at : (xs : List ℕ) → position_or_len p xs < length xs → position p xs
      ≡ Some (position_or_len p xs)
  position-at xs some = rw (lt-ltb (position_or_len p xs) (length xs) some) refl

  pub position-missing : (xs : List ℕ) → position_or_len p xs ≡ length xs → position p xs ≡ None
  position-missing xs none = rw (none, le-ltb (length xs) (length xs) (omega arith)) refl

  pub first-same : (xs ys : List ℕ) → position_or_len p xs < length xs
      → position_or_len p (xs ++ ys) ≡ position_or_len p xs
  first-same xs ys some = prefix_len-append (λ x. not (p x)) xs ys
      ∙ rw (unlike (position_or_len p xs) (length xs) some) refl

  first-later : (xs ys : List ℕ) → position_or_len p xs ≡ length xs → position_or_len p (xs ++ ys)
      ≡ length xs + position_or_len p ys
  first-later xs ys none = prefix_len-append (λ x. not (p x)) xs ys
      ∙ rw (eq-eqb (position_or_len p xs) (length xs) none) refl

  position-append-by : (xs ys : List ℕ) → (position_or_len p xs < length xs)
      ⊎ (position_or_len p xs ≡ length xs)
      → (position_or_len p ys < length ys) ⊎ (position_or_len p ys ≡ length ys)
      → position p (xs ++ ys)
      ≡ first_of (position p xs) (option_map (λ i. length xs + i) (position p ys))
  position-append-by xs ys (inl some) other = grind (arith, first-same, position-at, length-append)
  position-append-by xs ys (inr none) (inl some) =
      grind (arith, position-at, length-append, first-later, position-missing)
  position-append-by xs ys (inr none) (inr missing) =
      grind (arith, length-append, first-later, position-missing)

  -- the first byte that passes
  pub position-append : (xs ys : List ℕ) → position p (xs ++ ys)
      ≡ first_of (position p xs) (option_map (λ i. length xs + i) (position p ys))
  position-append xs ys = position-append-by xs ys (passes-or-not xs) (passes-or-not ys)

  -- no byte passes, so all are before the first
  none-missing : (xs : List ℕ) → position p xs ≡ None → (position_or_len p xs < length xs)
      ⊎ (position_or_len p xs ≡ length xs) → position_or_len p xs ≡ length xs
  none-missing xs none (inl some) =
      absurd (none-some (position_or_len p xs) (sym none ∙ position-at xs some))
  none-missing xs none (inr all) = all

  pub all-before : (xs : List ℕ) → position p xs ≡ None → position_or_len p xs ≡ length xs
  all-before xs none = none-missing xs none (passes-or-not xs)

-- where the first binary byte is
pub found-append : (detection : Detection) (t : ℕ) (xs ys : List ℕ)
    → found_in detection t (xs ++ ys) ≡ first_of (found_in detection t xs)
    (option_map (λ i. length xs + i) (found_in detection t ys))
found-append no_detection t xs ys = refl
found-append (Quit b) t xs ys = position-append (λ x. x == b) xs ys
found-append (Convert b) t xs ys = grind (arith, position-append)

-- bytes that none of `Quit` is among are all held
pub detected_bytes-append : (detection : Detection) (t : ℕ) (xs ys : List ℕ)
    → (is_quit detection ≡ true → found_in detection t xs ≡ None)
    → detected_bytes detection t (xs ++ ys) ≡ detected_bytes detection t xs
    ++ detected_bytes detection t ys
detected_bytes-append no_detection t xs ys none = refl
detected_bytes-append (Convert b) t xs ys none = grind (arith, map-append)
detected_bytes-append (Quit b) t xs ys none =
    grind (arith, all-before, first-later, take-later, take_all)

-- if none was found, as many bytes are held
pub length-detected_bytes : (detection : Detection) (t : ℕ) (xs : List ℕ) → found_in detection t xs
    ≡ None → length (detected_bytes detection t xs) ≡ length xs
length-detected_bytes no_detection t xs none = refl
length-detected_bytes (Quit b) t xs none = grind (arith, take_all, all-before)
length-detected_bytes (Convert b) t xs none = grind (arith, length-map)

-- a buffer that isn't cut found no byte of `Quit`
pub uncut-none : (detection : Detection) (binary : Option ℕ) → (is_quit detection && is_some binary)
    ≡ false → is_quit detection ≡ true → binary ≡ None
uncut-none detection None uncut quits = refl
uncut-none no_detection (Some n) uncut quits = absurd (false≢true quits)
uncut-none (Quit b) (Some n) uncut quits = absurd (false≢true (sym uncut))
uncut-none (Convert b) (Some n) uncut quits = absurd (false≢true quits)

-- nothing was found in no bytes
pub detected_bytes-nil : (detection : Detection) (t : ℕ) → detected_bytes detection t [] ≡ []
detected_bytes-nil no_detection t = refl
detected_bytes-nil (Quit b) t = refl
detected_bytes-nil (Convert b) t = refl

pub found-nil : (detection : Detection) (t : ℕ) → found_in detection t [] ≡ None
found-nil no_detection t = refl
found-nil (Quit b) t = refl
found-nil (Convert b) t = grind arith

pub first_of-none : (before : Option ℕ) → first_of before None ≡ before
first_of-none None = refl
first_of-none (Some n) = refl

-- bytes that aren't cut are held in full
pub length-uncut : (detection : Detection) (t : ℕ) (xs : List ℕ)
    → (is_quit detection ≡ true → found_in detection t xs ≡ None)
    → length (detected_bytes detection t xs) ≡ length xs
length-uncut no_detection t xs none = refl
length-uncut (Quit b) t xs none = length-detected_bytes (Quit b) t xs (none refl)
length-uncut (Convert b) t xs none = length-map xs (λ x. if x == b then t else x)

-- bytes after the one that cuts are dropped
pub detected_bytes-cut : (detection : Detection) (t : ℕ) (xs ys : List ℕ) → is_quit detection ≡ true
    → (n : ℕ) → found_in detection t xs ≡ Some n
    → detected_bytes detection t (xs ++ ys) ≡ detected_bytes detection t xs
detected_bytes-cut no_detection t xs ys quits n found = absurd (false≢true quits)
detected_bytes-cut (Convert b) t xs ys quits n found = absurd (false≢true quits)
detected_bytes-cut (Quit b) t xs ys quits n found =
    grind (arith, passes-or-not, first-same, take-append-le, none-some, position-missing)

-- the offset of the first binary byte among those that came and the next
pub found-next : (detection : Detection) (t base rest : ℕ) (raw given : List ℕ)
    (old now made : Option ℕ)
    → now ≡ first_of old (option_map (λ i. base + i) (found_in detection t raw))
    → (found_in detection t raw ≡ None → rest ≡ length raw)
    → made ≡ first_of now (option_map (λ i. base + rest + i) (found_in detection t given))
    → made ≡ first_of old (option_map (λ i. base + i) (found_in detection t (raw ++ given)))
found-next detection t base rest raw given old now made was len is = grind (arith, found-append)

pub first-none : (first other : Option ℕ) → first_of first other ≡ None → first ≡ None
first-none None other none = refl
first-none (Some n) other none = absurd (cc)

pub some-below : (n : ℕ) (other : Option ℕ) (offset : ℕ) → option_map (λ i. n + i) other
    ≡ Some offset → n ≤ offset
some-below n None offset is = absurd (cc)
some-below n (Some i) offset is = let same : n + i ≡ offset = cc in omega (arith, same)
