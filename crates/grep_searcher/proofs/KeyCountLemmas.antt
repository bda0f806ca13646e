-- A handler that counts matches by a key.
use Rattle.std.proofs.Common.{◌≡◌, ℕ, ◌+◌, ◌-◌, ◌<◌, ◌^◌, min, Bool, List, [], ◌∷◌, ◌++◌}
use Rattle.std.proofs.Common.{length, replicate, Option, None, Some, refl, ap, subst, sym, arith}
use Rattle.std.proofs.Common.{◌∙◌, if◌then◌else◌, get_or}
use Rattle.std.proofs.Math.Nat.{le_trans}
use Rattle.std.proofs.lemmas.Grind.{common_steps}
use Rattle.std.proofs.lemmas.List.{get_or-replicate, length-replicate}
use Rattle.std.proofs.lemmas.List.Sums.{count_by-le-length}
use Rattle.std.specs.Prelude.{count_by, nat_eq}
use Rattle.std.specs.Option.{option_eq}
use Rattle.grep_definitions.specs.Plans.{Call, search_plan}
use Rattle.grep_definitions.specs.SearchLaws.{match_calls}
use Rattle.grep_searcher.specs.KeyCounts.{AreKeyCounts, CountsKeys, RunsCountHitKeys, RunsCountKeys}
use Rattle.grep_searcher.specs.KeyCounts.{with_key}
use Rattle.grep_searcher.specs.SinkFolds.{fold_while}
use Rattle.grep_searcher.proofs.CountedCallLemmas.{count-exact, count-next}
use Rattle.grep_searcher.proofs.LineFilterLemmas.{lines-are_filtered}
use Rattle.grep_searcher.proofs.MatchHandlerLemmas.{runs-fit, runs-handle}
use Rattle.grep_searcher.proofs.RunInvariantLemmas.{calls-keep}
use Rattle.grep_searcher.proofs.UnitCallLemmas.{matches-are_within_count}

-- one more, at the index of each key
key-counted : (counts : List ℕ) (key : Option ℕ) (i : ℕ) → i < length counts
    → get_or (with_key counts key) i 0
    ≡ (if option_eq nat_eq key (Some i) then min (get_or counts i 0 + 1) (2 ^ 64 - 1)
    else get_or counts i 0)
key-counted counts None i inside = refl
key-counted counts (Some key) i inside = grind (arith, common_steps)

keys-whole : (counts : List ℕ) (key : Option ℕ) → length (with_key counts key) ≡ length counts
keys-whole counts None = refl
keys-whole counts (Some key) = grind (arith, common_steps)

-- what is counted of some calls, up to the largest number
abbrev AreCountedUpTo : ℕ → (Call → Option ℕ) → List Call → List ℕ → Type 0
AreCountedUpTo end key calls counts =
    (length counts ≡ end) × ((i : ℕ) → i < end → get_or counts i 0
    ≡ min (0 + count_by (λ call. option_eq nat_eq (key call) (Some i)) calls) (2 ^ 64 - 1))

keys-next : (end : ℕ) (key : Call → Option ℕ) (before : List Call) (counts : List ℕ) (found : Call)
    → AreCountedUpTo end key before counts
    → AreCountedUpTo end key (before ++ found ∷ []) (with_key counts (key found))
keys-next end key before counts found (whole, each) = (
  keys-whole counts (key found) ∙ whole,
  λ i inside. key-counted counts (key found) i (subst (λ n. i < n) (sym whole) inside)
      ∙ count-next (λ call. option_eq nat_eq (key call) (Some i)) 0 (get_or counts i 0) before found
      (each i inside),
)

module _ {H E : Type 0} (goes : H → Call → Bool) (next : H → Call → H)
    (fails : H → Call → E → H → Type 0) where
  calls-counted : (counts : H → List ℕ) (key : Call → Option ℕ)
      → CountsKeys goes next fails counts key → (end : ℕ) (old : H)
      → counts old ≡ replicate end 0 → (calls : List Call)
      → AreCountedUpTo end key calls (counts (fold_while goes next old calls))
  calls-counted counts key by end old zeros calls =
      calls-keep goes next (λ before state. AreCountedUpTo end key before (counts state))
      (λ before from found held.
      let here = by from found in (
        here.0,
        subst (AreCountedUpTo end key (before ++ found ∷ [])) (sym here.1)
            (keys-next end key before (counts from) found held),
      )) old calls (subst (AreCountedUpTo end key []) (sym zeros)
      (length-replicate end 0, λ i inside. get_or-replicate end i 0 0 inside))

  pub runs-count_keys : RunsCountKeys goes next fails
  runs-count_keys counts key by settings meaning bytes end old new zeros run = λ i inside.
      let plan = search_plan settings meaning bytes in
      let counted = calls-counted counts key by end old zeros (match_calls plan.calls) in
      let few = le_trans
      (count_by-le-length (λ call. option_eq nat_eq (key call) (Some i)) (match_calls plan.calls))
      (matches-are_within_count settings meaning bytes).0 in
      ap (λ state. get_or (counts state) i 0)
      (runs-handle goes next fails settings old plan new run)
      ∙ count-exact _ _ _ (counted.1 i inside) few
      (runs-fit goes next fails (λ from call. (by from call).0) settings old plan new run)

  pub runs-count_hit_keys : RunsCountHitKeys goes next fails
  runs-count_hit_keys counts key by settings meaning bytes by_line free end old new zeros run =
      subst (λ calls. AreKeyCounts end key calls (counts new))
      (lines-are_filtered settings meaning bytes by_line free)
      (runs-count_keys counts key by settings meaning bytes end old new zeros run)
