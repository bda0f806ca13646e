-- A handler that keeps the line that has most by a measure keeps the first of these.
use Rattle.std.proofs.Common.{◌≡◌, ◌≤◌, ℕ, Bool, true, false, List, [], ◌∷◌, ◌++◌, Option}
use Rattle.std.proofs.Common.{None, Some, refl, sym, subst, arith, append_assoc, if◌then◌else◌}
use Rattle.std.proofs.lemmas.Bool.{ltb-false, ltb-true}
use Rattle.std.proofs.lemmas.List.Elements.{All-nil, All-push}
use Rattle.std.specs.Prelude.{nat_lt}
use Rattle.grep_definitions.specs.Plans.{Call}
use Rattle.grep_searcher.specs.KeptMost.{HitsKeepMost, IsFirstMost, with_more}
use Rattle.grep_searcher.specs.MatchHandlers.{kept_of}
use Rattle.grep_searcher.proofs.RunInvariantLemmas.{hits-keep}

-- the first of the most, with one item more
pub most-next : {X : Type 0} (measure : X → ℕ) (items : List X) (old : Option X) (item : X)
    → IsFirstMost measure items old
    → IsFirstMost measure (items ++ item ∷ []) (with_more measure old item)
most-next measure items None item none = rw none (
  All-push (λ x. measure x ≤ measure item) [] item (All-nil _) (omega arith),
  [],
  [],
  refl,
  All-nil _,
)
most-next {X} measure items (Some most) item (none, before, later, all, less) =
    go (nat_lt (measure most) (measure item)) refl
  where
    go : (b : Bool) → nat_lt (measure most) (measure item) ≡ b
        → IsFirstMost measure (items ++ item ∷ []) (if b then Some item else Some most)
    go true is = (
      All-push (λ x. measure x ≤ measure item) items item
          (λ k d inside. omega (arith, none k d inside, ltb-true _ _ is)) (omega arith),
      items,
      [],
      refl,
      λ k d inside. omega (arith, none k d inside, ltb-true _ _ is),
    )
    go false is = (
      All-push (λ x. measure x ≤ measure most) items item none (ltb-false _ _ is),
      before,
      later ++ item ∷ [],
      rw all (append_assoc before (most ∷ later) _),
      less,
    )

pub hits-keep_most : {H : Type 0} (goes : H → Call → Bool) (next : H → Call → H)
    → HitsKeepMost goes next
hits-keep_most goes next kept measure by settings meaning bytes old none =
    hits-keep goes next (λ lines state. IsFirstMost measure lines (kept state))
    (λ before from call holds.
    let here = by from call in (
      here.0,
      subst (IsFirstMost measure (before ++ kept_of call ∷ [])) (sym here.1)
          (most-next measure before (kept from) (kept_of call) holds),
    )) settings meaning bytes old (subst (IsFirstMost measure []) (sym none) refl)
