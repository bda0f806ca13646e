-- A search for a literal in a part of a haystack, where it doesn't occur before that part.
use Rattle.std.proofs.Common.{◌≡◌, ℕ, ◌+◌, ◌-◌, ◌<◌, ◌≤◌, List, length, drop, Some, None, sym, ◌∙◌}
use Rattle.std.proofs.Common.{arith, ⊎_elim, length-drop, length-take}
use Rattle.std.proofs.lemmas.Bool.{cases_lt}
use Rattle.std.proofs.lemmas.List.{get_or-drop, get_or-take}
use Rattle.std.specs.Prelude.{slice_range}
use Rattle.memchr.specs.Find.{FindsNeedle, Nowhere, OccursAt}
use Rattle.grep_matcher.specs.LiteralFirstMatches.{OccursAt-inner, OccursAt-outer}

module _ (haystack literal : List ℕ) (from end : ℕ) (ordered : from ≤ end) (within : end
    ≤ length haystack)
    (passed : Nowhere (OccursAt haystack literal) 0 from) where
  abbrev part : List ℕ
  part = slice_range haystack from end

  size : from + length part ≡ end
  size = omega (arith, length-take (end - from) (drop from haystack), length-drop from haystack)

  here : OccursAt haystack part from
  here = record {
    fits = omega (arith, size);
    reads = λ j below. sym (get_or-take (end - from) (drop from haystack) j 0 (omega (arith, size))
        ∙ get_or-drop from haystack j 0);
  }

  -- it occurs at a later place only if it does in the part
  inner : (k : ℕ) → from ≤ k → k + length literal ≤ end → OccursAt haystack literal k
      → OccursAt part literal (k - from)
  inner k low high occurs =
      OccursAt-inner haystack part literal from k here occurs low (omega (arith, size))

  -- the first occurrence in the part is the first
  pub found-later : (at : ℕ) → FindsNeedle part literal 0 (Some at) → FindsNeedle haystack literal 0
      (Some (from + at))
  found-later at found = (
    record {
      low = omega arith;
      high = omega (arith, size, found.1.fits);
      before = λ k low below occurs. ⊎_elim (λ less. passed k low less occurs)
          (λ over. found.0.before (k - from) (omega arith) (omega (arith, over, below))
          (inner k over (omega (arith, size, found.1.fits, below)) occurs)) (cases_lt k from);
    },
    OccursAt-outer haystack part literal from at here found.1,
  )

  -- if there is none, it occurs at no place from which it fits into the part
  pub passed-part : FindsNeedle part literal 0 None → (last : ℕ)
      → ((k : ℕ) → k < last → k + length literal ≤ length haystack → k + length literal ≤ end)
      → Nowhere (OccursAt haystack literal) 0 last
  passed-part none last fits k low below occurs = ⊎_elim (λ less. passed k low less occurs)
      (λ over. let inside = inner k over (fits k below occurs.fits) occurs in
      none (k - from) (omega arith) (omega (arith, inside.fits)) inside) (cases_lt k from)
