-- What detection makes of a whole input, against what a buffer holds of its parts.
use Rattle.std.proofs.Common.{◌≡◌, ℕ, ◌+◌, ◌<◌, ◌≤◌, ◌==◌, Bool, true, List, [], ◌++◌}
use Rattle.std.proofs.Common.{length, take, drop, map, Some, None, ◌⊎◌, refl, sym, ◌∙◌}
use Rattle.std.proofs.Common.{ap, arith, append-nil, append_assoc, length-append, ⊎_elim}
use Rattle.std.proofs.lemmas.List.{take_all, length-map, length-take-le, map-append, take-append-le}
use Rattle.std.proofs.lemmas.List.{take-append-drop}
use Rattle.std.specs.List.{position, position_or_len}
use Rattle.std.specs.Option.{option_map}
use Rattle.std.specs.Prelude.{if◌then◌else◌}
use Rattle.grep_line_buffer.specs.declared.detection.Detection.{Detection}
use Rattle.grep_line_buffer.specs.declared.detection.Detection.TheVariants.{None as no_detection}
use Rattle.grep_line_buffer.specs.declared.detection.Detection.TheVariants.{Quit, Convert}
use Rattle.grep_line_buffer.specs.Detections.{detected_bytes, found_in, first_of, is_quit}
use Rattle.grep_line_buffer.proofs.DetectionLemmas.{all-before, found-append, passes-or-not}
use Rattle.grep_line_buffer.proofs.DetectionLemmas.{position-at, position-missing}
use Rattle.grep_line_buffer.proofs.DetectionLemmas.{detected_bytes-append, detected_bytes-cut}
use Rattle.grep_line_buffer.proofs.DetectionLemmas.{first-none, first-same, some-below}

-- all bytes of an input, for each byte of `Convert` the byte t
abbrev pub viewed : Detection → ℕ → List ℕ → List ℕ
viewed (Convert b) t bytes = map (λ x. if x == b then t else x) bytes
viewed _ t bytes = bytes

-- those before the byte of `Quit`
abbrev pub unquit : Detection → List ℕ → List ℕ
unquit (Quit b) bytes = take (position_or_len (λ x. x == b) bytes) bytes
unquit _ bytes = bytes

-- the view of two parts is that of one and then of the other
pub view-append : (d : Detection) (t : ℕ) (xs ys : List ℕ) → viewed d t (xs ++ ys) ≡ viewed d t xs
    ++ viewed d t ys
view-append no_detection t xs ys = refl
view-append (Quit b) t xs ys = refl
view-append (Convert b) t xs ys = map-append (λ x. if x == b then t else x) xs ys

pub view-length : (d : Detection) (t : ℕ) (xs : List ℕ) → length (viewed d t xs) ≡ length xs
view-length no_detection t xs = refl
view-length (Quit b) t xs = refl
view-length (Convert b) t xs = length-map xs (λ x. if x == b then t else x)

pub view-none : (d : Detection) (t : ℕ) → viewed d t [] ≡ []
view-none no_detection t = refl
view-none (Quit b) t = refl
view-none (Convert b) t = refl

-- what a buffer holds of some bytes is their view, if the byte of `Quit` isn't among them
pub view-held : (d : Detection) (t : ℕ) (xs : List ℕ)
    → (is_quit d ≡ true → found_in d t xs ≡ None) → detected_bytes d t xs ≡ viewed d t xs
view-held no_detection t xs none = refl
view-held (Quit b) t xs none = grind (arith, take_all, all-before)
view-held (Convert b) t xs none = refl

-- it is the front of the view in any case
pub view-front : (d : Detection) (t : ℕ) (xs ys : List ℕ)
    → (back : List ℕ) × (viewed d t (xs ++ ys) ≡ detected_bytes d t xs ++ back)
view-front no_detection t xs ys = (ys, refl)
view-front (Quit b) t xs ys =
    let n = position_or_len (λ x. x == b) xs in (
      drop n xs ++ ys,
      ap (λ zs. zs ++ ys) (sym (take-append-drop n xs)) ∙ append_assoc (take n xs) (drop n xs) ys,
    )
view-front (Convert b) t xs ys = (
  map (λ x. if x == b then t else x) ys,
  map-append (λ x. if x == b then t else x) xs ys,
)

-- and the front of what comes before the byte of `Quit`
pub before-front : (d : Detection) (t : ℕ) (xs ys : List ℕ)
    → (back : List ℕ) × (unquit d (viewed d t (xs ++ ys)) ≡ detected_bytes d t xs ++ back)
before-front no_detection t xs ys = (ys, refl)
before-front (Quit b) t xs ys = ⊎_elim
    (λ some. (
      [],
      detected_bytes-cut (Quit b) t xs ys refl _ (position-at (λ x. x == b) xs some)
          ∙ sym (append-nil (detected_bytes (Quit b) t xs)),
    ))
    (λ all. (
      detected_bytes (Quit b) t ys,
      detected_bytes-append (Quit b) t xs ys (λ _. position-missing (λ x. x == b) xs all),
    )) (passes-or-not (λ x. x == b) xs)
before-front (Convert b) t xs ys = (
  map (λ x. if x == b then t else x) ys,
  map-append (λ x. if x == b then t else x) xs ys,
)

-- no byte of what a buffer holds ends a search
pub before-held : (d : Detection) (t : ℕ) (xs : List ℕ)
    → unquit d (detected_bytes d t xs) ≡ detected_bytes d t xs
before-held no_detection t xs = refl
before-held (Convert b) t xs = refl
before-held (Quit b) t xs = ⊎_elim
    (λ some. absurd (omega (
      arith,
      some,
      first-same p front (drop n xs) some,
      ap (position_or_len p) (take-append-drop n xs),
      count,
    ))) (λ all. take_all (position_or_len p front) front (omega (arith, all)))
    (passes-or-not p front)
  where
    p : ℕ → Bool
    p = λ x. x == b

    n : ℕ
    n = position_or_len p xs

    front : List ℕ
    front = take n xs

    count : length front ≡ n
    count = length-take-le n xs (⊎_elim (λ some. omega (arith, some)) (λ all. omega (arith, all))
        (passes-or-not p xs))

-- nor does one of a front of such bytes
pub before-kept : (d : Detection) (xs ys : List ℕ) → unquit d (xs ++ ys) ≡ xs ++ ys → unquit d xs
    ≡ xs
before-kept no_detection xs ys same = refl
before-kept (Convert b) xs ys same = refl
before-kept (Quit b) xs ys same =
    grind (arith, first-same, length-take-le, length-append, take_all, passes-or-not)

-- the first binary byte of a front is that of all
pub first-kept : (d : Detection) (t : ℕ) (xs ys : List ℕ) (offset : ℕ) → found_in d t xs
    ≡ Some offset → found_in d t (xs ++ ys) ≡ Some offset
first-kept d t xs ys offset is =
    found-append d t xs ys
    ∙ ap (λ o. first_of o (option_map (λ i. length xs + i) (found_in d t ys))) is

-- none is among the first bytes of an input, if none is in the front of it that has them
pub clear-front : (d : Detection) (t : ℕ) (xs ys : List ℕ) (count : ℕ) → count ≤ length xs
    → found_in d t xs ≡ None → found_in d t (take count (xs ++ ys)) ≡ None
clear-front d t xs ys count within none =
    ap (found_in d t) (take-append-le count xs ys within)
    ∙ first-none _ (option_map (λ i. length (take count xs) + i) (found_in d t (drop count xs)))
    (sym (found-append d t (take count xs) (drop count xs))
    ∙ (ap (found_in d t) (take-append-drop count xs) ∙ none))

-- what wasn't among the first bytes is after them
pub found-after : (d : Detection) (t : ℕ) (xs ys : List ℕ) (offset : ℕ) → found_in d t xs ≡ None
    → found_in d t (xs ++ ys) ≡ Some offset → length xs ≤ offset
found-after d t xs ys offset none is = grind (arith, some-below, found-append)

-- a position is the number of bytes before the first one
position-is : (p : ℕ → Bool) (xs : List ℕ) (offset : ℕ) → position p xs ≡ Some offset
    → (position_or_len p xs ≡ offset) × (offset < length xs)
position-is p xs offset is = grind arith

-- the first binary byte is among what a buffer holds, or right after it if the byte ends the input
pub found-below : (d : Detection) (t : ℕ) (xs : List ℕ) (offset : ℕ) → found_in d t xs ≡ Some offset
    → (offset < length (detected_bytes d t xs))
    ⊎ ((offset ≤ length (detected_bytes d t xs)) × (is_quit d ≡ true))
found-below no_detection t xs offset is = absurd (cc)
found-below (Quit b) t xs offset is = grind (arith, position-is, length-take-le)
found-below (Convert b) t xs offset is = grind (arith, position-is, length-map)
