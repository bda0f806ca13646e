-- How the pieces of a template add up to what it writes.
use Rattle.std.proofs.Common.{◌≡◌, ℕ, zero, suc, ◌+◌, ◌-◌, ◌<◌, ◌≤◌, List, [], ◌∷◌, ◌++◌, length, drop, get_or}
use Rattle.std.proofs.Common.{slice_index, slice_range, Option, None, Some, refl, ap, sym, ◌∙◌}
use Rattle.std.proofs.Common.{arith, append_assoc, append-nil, drop-drop, get_or-drop, length-drop}
use Rattle.std.proofs.lemmas.Grind.{flat_map-append}
use Rattle.std.proofs.lemmas.List.{drop_all, drop_more, take_more}
use Rattle.std.specs.Global.{Global}
use Rattle.std.specs.Prelude.{Vec}
use Rattle.grep_replace.specs.Templates.{AreReadFrom, pieces_text, place_text, reference_at, reference_text}
use Rattle.grep_replace.specs.Templates.{written_after, written_text}
use Rattle.grep_replace.specs.declared.template.Piece.{Piece}
use Rattle.grep_replace.specs.declared.template.Piece.TheVariants.{Text}

module _ (names : List (Option (List ℕ))) where
  module _ (text_of : ℕ → List ℕ) where
    pass-over : (t : List ℕ) (n : ℕ) → written_after names text_of t n ≡ written_after names text_of (drop n t) 0
    unfolding written_after
    pass-over t zero = refl
    pass-over [] (suc n) = refl
    pass-over (b ∷ t) (suc n) = pass-over t n

    next-place : (t : List ℕ) (i : ℕ) → i < length t → written_after names text_of (drop i t) 0
        ≡ place_text names text_of (get_or t i 0) (reference_at (drop i t))
        (written_after names text_of (drop (i + 1) t))
    unfolding written_after
    next-place t i inside = rw (drop_more t i 0 inside) refl

    nothing-left : (t : List ℕ) (i : ℕ) → length t ≤ i → written_after names text_of (drop i t) 0 ≡ []
    unfolding written_after
    nothing-left t i past = rw (drop_all i t past) refl

    -- a byte that begins no reference
    plain-byte : (t : List ℕ) (i : ℕ) → i < length t → reference_at (drop i t) ≡ None
        → written_after names text_of (drop i t) 0
        ≡ get_or t i 0 ∷ written_after names text_of (drop (i + 1) t) 0
    plain-byte t i inside none =
        next-place t i inside
        ∙ ap (λ r. place_text names text_of (get_or t i 0) r (written_after names text_of (drop (i + 1) t))) none

    -- a reference
    reference-there : (t : List ℕ) (i : ℕ) (name : Option (List ℕ)) (len : ℕ) → i < length t → 0 < len
        → reference_at (drop i t) ≡ Some (name, len)
        → written_after names text_of (drop i t) 0
        ≡ reference_text names text_of name ++ written_after names text_of (drop (i + len) t) 0
    reference-there t i name len inside some is =
        let sum : i + 1 + (len - 1) ≡ i + len = omega (arith, some) in
        next-place t i inside
        ∙ (ap (λ r. place_text names text_of (get_or t i 0) r (written_after names text_of (drop (i + 1) t))) is
        ∙ ap (λ (rest : List ℕ). reference_text names text_of name ++ rest)
        (pass-over (drop (i + 1) t) (len - 1)
        ∙ ap (λ (rest : List ℕ). written_after names text_of rest 0)
        (drop-drop (len - 1) (i + 1) t ∙ ap (λ n. drop n t) sum)))

  -- the pieces, the bytes from a start up to here, and what is written from here on are all that is written
  pub record IsReadUpTo (t : List ℕ) (pieces : List Piece) (start here : ℕ) : Type 0 where
    pub written : (text_of : ℕ → List ℕ) →
        (pieces_text text_of pieces ++ slice_range t start here) ++ written_after names text_of (drop here t) 0
        ≡ written_text names t text_of

  one-more : (t : List ℕ) (start here : ℕ) → start ≤ here → here < length t
      → slice_range t start (here + 1) ≡ slice_range t start here ++ get_or t here 0 ∷ []
  one-more t start here ordered inside =
      let count : here + 1 - start ≡ here - start + 1 = omega arith in
      let place : start + (here - start) ≡ here = omega arith in
      rw (count, take_more (drop start t) (here - start) 0 (omega (arith, length-drop start t)), get_or-drop, place) refl

  -- one more byte that begins no reference
  pub read-byte : (t : List ℕ) (pieces : List Piece) (start here : ℕ) → start ≤ here → here < length t
      → reference_at (drop here t) ≡ None → IsReadUpTo t pieces start here → IsReadUpTo t pieces start (here + 1)
  read-byte t pieces start here ordered inside none before = record {
    written = λ text_of.
        rw (one-more t start here ordered inside, ← before.written text_of, plain-byte text_of t here inside none)
        (simp append_assoc);
  }

  -- the bytes up to here become a piece, and more pieces are written as what follows up to a position
  pub read-pieces : (t : List ℕ) (pieces more : List Piece) (start here later : ℕ) (bytes : Vec ℕ Global)
      → bytes.items ≡ slice_range t start here
      → ((text_of : ℕ → List ℕ) → written_after names text_of (drop here t) 0
      ≡ pieces_text text_of more ++ written_after names text_of (drop later t) 0)
      → IsReadUpTo t pieces start here → IsReadUpTo t ((pieces ++ Text bytes ∷ []) ++ more) later later
  read-pieces t pieces more start here later bytes is next before = record {
    written = λ text_of.
        let none : later - later ≡ 0 = omega arith in
        rw (none, flat_map-append, flat_map-append, is, ← before.written text_of, next text_of)
        (simp (append-nil, append_assoc));
  }

  -- a reference
  pub read-reference : (t : List ℕ) (pieces more : List Piece) (start here len : ℕ) (bytes : Vec ℕ Global)
      (name : Option (List ℕ)) → here < length t → 0 < len → reference_at (drop here t) ≡ Some (name, len)
      → bytes.items ≡ slice_range t start here
      → ((text_of : ℕ → List ℕ) → pieces_text text_of more ≡ reference_text names text_of name)
      → IsReadUpTo t pieces start here
      → IsReadUpTo t ((pieces ++ Text bytes ∷ []) ++ more) (here + len) (here + len)
  read-reference t pieces more start here len bytes name inside some is same stands before =
      read-pieces t pieces more start here (here + len) bytes same
      (λ text_of. reference-there text_of t here name len inside some is
      ∙ ap (λ x. x ++ written_after names text_of (drop (here + len) t) 0) (sym (stands text_of))) before

  -- the rest becomes a piece
  pub read-all : (t : List ℕ) (pieces : List Piece) (start here : ℕ) (bytes : Vec ℕ Global) → length t ≤ here
      → bytes.items ≡ slice_range t start here → IsReadUpTo t pieces start here
      → AreReadFrom names t (pieces ++ Text bytes ∷ [])
  read-all t pieces start here bytes past is before text_of =
      let done = (read-pieces t pieces [] start here here bytes is (λ f. refl) before).written text_of in
      let none : here - here ≡ 0 = omega arith in
      simp append-nil at (rw (none, nothing-left text_of t here past) at done)

-- the byte after a name in braces
pub after-name : (rest inside past : List ℕ) (len : ℕ) → inside ≡ drop 1 rest → past ≡ drop len inside
    → slice_index rest (len + 1) ≡ slice_index past 0
after-name rest inside past len one more =
    let place : 1 + (len + 0) ≡ len + 1 = omega arith in
    sym (ap (λ (l : List ℕ). slice_index l 0) (more ∙ ap (drop len) one)
    ∙ (get_or-drop len (drop 1 rest) 0 0 ∙ (get_or-drop 1 rest (len + 0) 0 ∙ ap (slice_index rest) place)))
