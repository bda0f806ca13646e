-- The first line of some bytes, and that no other pieces than the lines have their four properties.
use Rattle.std.proofs.Common.{◌≡◌, ◌≢◌, ℕ, zero, suc, ◌+◌, ◌-◌, ◌<◌, List, [], ◌∷◌, ◌++◌, length}
use Rattle.std.proofs.Common.{take, drop, slice_index, refl, ap, ap₂, sym, ◌∙◌, arith}
use Rattle.std.proofs.Common.{length-append, ⊎_elim}
use Rattle.std.proofs.lemmas.Bool.{cases_eq}
use Rattle.std.proofs.lemmas.List.{get_or_append_left, take_at, drop_at}
use Rattle.std.proofs.lemmas.List.Elements.{All-head, All-tail}
use Rattle.std.specs.List.{concat}
use Rattle.grep_matcher.specs.Lines.{lines, onto_first}
use Rattle.grep_matcher.specs.AreLines.{IsUnbroken, AreEnded, AreLines}
use Rattle.grep_matcher.proofs.LineLemmas.{count, count-end, count-inner, lines-end, lines-inner}
use Rattle.grep_lines.specs.FirstLine.{IsFirstLine}
use native.Mathlib.Numerals.{unary_clauses}

module _ (t : ℕ) where
  -- a first line without its first byte
  IsFirstLine-tail : (b : ℕ) (bytes : List ℕ) (e : ℕ) → IsFirstLine t (b ∷ bytes) (suc (suc e))
      → IsFirstLine t bytes (suc e)
  IsFirstLine-tail b bytes e h = record {
    above = omega arith;
    within = omega arith;
    inner = λ i below. h.inner (suc i) (omega arith);
    closed = λ below. simp unary_clauses (simp unary_clauses at (h.closed (omega arith)));
  }

  -- a first line with a byte in front of it
  IsFirstLine-cons : (b : ℕ) (bytes : List ℕ) (e : ℕ) → b ≢ t → IsFirstLine t bytes (suc e)
      → IsFirstLine t (b ∷ bytes) (suc (suc e))
  IsFirstLine-cons b bytes e other h = record {
    above = omega arith;
    within = omega arith;
    inner = λ i below. inner_at i below;
    closed = λ below. simp unary_clauses (simp unary_clauses at (h.closed (omega arith)));
  }
    where
      inner_at : (i : ℕ) → i + 1 < suc (suc e) → slice_index (b ∷ bytes) i ≢ t
      inner_at zero below = other
      inner_at (suc i) below = h.inner i (omega arith)

  -- some bytes have a first line
  pub first_line : (bytes : List ℕ) → 0 < length bytes → (e : ℕ) × IsFirstLine t bytes (suc e)
  first_line [] some = absurd (omega arith)
  first_line (b ∷ []) some = (
    0,
    record {
      above = omega arith;
      within = omega arith;
      inner = λ i below. absurd (omega arith);
      closed = λ below. absurd (omega arith);
    },
  )
  first_line (b ∷ c ∷ later) some =
      let rest = first_line (c ∷ later) (omega arith) in
      ⊎_elim
      (λ same. (
        0,
        record {
          above = omega arith;
          within = omega arith;
          inner = λ i below. absurd (omega arith);
          closed =
              λ _. same;
        },
      )) (λ other. (suc rest.0, IsFirstLine-cons b (c ∷ later) rest.0 other rest.1)) (cases_eq b t)

  -- the first line, and the lines of what follows it
  pub lines-first : (bytes : List ℕ) (e : ℕ) → IsFirstLine t bytes e → lines t bytes ≡ take e bytes
      ∷ lines t (drop e bytes)
  lines-first [] e h = absurd (omega arith)
  lines-first (b ∷ bytes) zero h = absurd (omega arith)
  lines-first (b ∷ []) (suc zero) h = ⊎_elim (λ same. lines-end t b [] same)
      (λ other. lines-inner t b [] other) (cases_eq b t)
  lines-first (b ∷ c ∷ later) (suc zero) h = lines-end t b (c ∷ later) (h.closed (omega arith))
  lines-first (b ∷ bytes) (suc (suc e)) h = lines-inner t b bytes (h.inner 0 (omega arith))
      ∙ ap (onto_first b) (lines-first bytes (suc e) (IsFirstLine-tail b bytes e h))

  -- the lines of a first line and of the rest, if these two parts are named
  pub lines-parts : (bytes line rest : List ℕ) (e : ℕ) → IsFirstLine t bytes e → line ≡ take e bytes
      → rest ≡ drop e bytes → lines t bytes ≡ line ∷ lines t rest
  lines-parts bytes line rest e is_first is_line is_rest = lines-first bytes e is_first
      ∙ sym (ap₂ ◌∷◌ is_line (ap (lines t) is_rest))

  -- a first line that isn't the last holds one t
  pub count-first_line : (bytes : List ℕ) (e : ℕ) → IsFirstLine t bytes e → e < length bytes
      → count t (take e bytes) ≡ 1
  count-first_line [] e h more = absurd (omega arith)
  count-first_line (b ∷ bytes) zero h more = absurd (omega arith)
  count-first_line (b ∷ bytes) (suc zero) h more = count-end t b [] (h.closed more)
  count-first_line (b ∷ bytes) (suc (suc e)) h more = count-inner t b (take (suc e) bytes)
      (h.inner 0 (omega arith))
      ∙ count-first_line bytes (suc e) (IsFirstLine-tail b bytes e h) (omega arith)

-- pieces that have the four properties are the lines of what they make when joined
pieces-lines : (t : ℕ) (pieces : List (List ℕ)) → AreLines t (concat pieces) pieces → pieces
    ≡ lines t (concat pieces)
pieces-lines t [] h = refl
pieces-lines t (piece ∷ rest) h =
    let is_first = first rest h.ended in
    let parts = lines-first t (piece ++ concat rest) (length piece) is_first in
    let later = pieces-lines t rest (record {
      joined = refl;
      filled = All-tail (λ p. 0 < length p) piece rest h.filled;
      unbroken = All-tail (IsUnbroken t) piece rest h.unbroken;
      ended = tail rest h.ended;
    }) in
    ap (λ ls. piece ∷ ls) later
    ∙ sym (parts ∙ (ap (λ l. l ∷ lines t (drop (length piece) (piece ++ concat rest)))
    (take_at piece (concat rest) (length piece) refl)
    ∙ ap (λ l. piece ∷ lines t l) (drop_at piece (concat rest) (length piece) refl)))
  where
    tail : (more : List (List ℕ)) → AreEnded t (piece ∷ more) → AreEnded t more
    tail [] is = tt
    tail (next ∷ more) is = is.1

    some : 0 < length piece
    some = All-head (λ p. 0 < length p) piece rest h.filled

    last : (more : List (List ℕ)) → AreEnded t (piece ∷ more) → length piece
        < length (piece ++ concat more) → slice_index piece (length piece - 1) ≡ t
    last [] is below = absurd (omega (arith, length-append piece []))
    last (next ∷ more) is below = is.0

    first : (more : List (List ℕ)) → AreEnded t (piece ∷ more)
        → IsFirstLine t (piece ++ concat more) (length piece)
    first more is = record {
      above = some;
      within = omega (arith, length-append piece (concat more));
      inner = λ i below same. All-head (IsUnbroken t) piece rest h.unbroken i below
          (sym (get_or_append_left piece (concat more) 0 i (omega arith)) ∙ same);
      closed = λ below. get_or_append_left piece (concat more) 0 (length piece - 1)
          (omega (arith, some)) ∙ last more is below;
    }

-- no other pieces have the four properties
pub AreLines-same : (t : ℕ) (bytes : List ℕ) (pieces : List (List ℕ)) → AreLines t bytes pieces
    → pieces ≡ lines t bytes
AreLines-same t bytes pieces h = pieces-lines t pieces (record {
  joined = refl;
  filled = h.filled;
  unbroken = h.unbroken;
  ended = h.ended;
}) ∙ ap (lines t) h.joined
