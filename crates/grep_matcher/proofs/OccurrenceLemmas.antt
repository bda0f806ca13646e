-- Occurrences of a literal in a haystack and in a part of it.
use Rattle.std.proofs.Common.{◌≡◌, ◌⊎◌, inl, inr, ℕ, ◌+◌, ◌-◌, ◌<◌, ◌≤◌, true, List, ◌++◌, length}
use Rattle.std.proofs.Common.{slice_index, sym, ◌∙◌, arith, ⊎_elim, length-append}
use Rattle.std.proofs.lemmas.Bool.{cases_lt, false≢true}
use Rattle.std.proofs.lemmas.List.{get_or_append_left, get_or-append-add}
use Rattle.memchr.specs.Find.{OccursAt}
use Rattle.grep_matcher.specs.Literals.{lacks}
use Rattle.grep_matcher.proofs.LiteralLemmas.{match-avoids}

-- a literal doesn't occur over a byte that it lacks
pub apart : (hay literal : List ℕ) (k i : ℕ) → OccursAt hay literal k
    → lacks literal (slice_index hay i) ≡ true → (i < k) ⊎ (k + length literal ≤ i)
apart hay literal k i occurs lacked = ⊎_elim (λ before. inl before) (λ from. ⊎_elim
    (λ over. absurd (false≢true (sym (match-avoids hay literal k occurs i from over) ∙ lacked)))
    (λ past. inr past) (cases_lt i (k + length literal))) (cases_lt i k)

-- a literal doesn't occur over the end of a haystack if it lacks each byte of that end
pub OccursAt-before : (front end literal : List ℕ) (k : ℕ) → OccursAt (front ++ end) literal k
    → (length literal ≡ 0 → k ≡ 0)
    → ((j : ℕ) → j < length end → lacks literal (slice_index end j) ≡ true)
    → OccursAt front literal k
OccursAt-before front end literal k occurs empty lacked = record {
  fits = fits;
  reads = λ j below. sym (get_or_append_left front end 0 (k + j) (omega (arith, fits)))
      ∙ occurs.reads j below;
}
  where
    size : length (front ++ end) ≡ length front + length end
    size = length-append front end

    beside : (j : ℕ) → j < length end → (length front + j < k)
        ⊎ (k + length literal ≤ length front + j)
    beside j below = apart (front ++ end) literal k (length front + j) occurs
        (rw (get_or-append-add front end j 0) (lacked j below))

    fits : k + length literal ≤ length front
    fits = ⊎_elim (λ over. ⊎_elim (λ before. absurd (omega arith)) (λ past. omega arith)
        (beside (k - length front) (grind (arith, size, occurs.fits, empty)))) (λ inside. inside)
        (cases_lt (length front) (k + length literal))
