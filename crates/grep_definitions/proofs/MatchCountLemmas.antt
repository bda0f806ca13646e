-- How many matches are reported, whether lines are numbered or not.
use Rattle.std.proofs.Common.{◌≡◌, ℕ, zero, suc, ◌+◌, Bool, true, false, List, [], ◌∷◌, ◌++◌}
use Rattle.std.proofs.Common.{length, refl, ◌∙◌, ap, Option, Some, None, if◌then◌else◌}
use Rattle.std.proofs.lemmas.List.{map-append, length-append}
use Rattle.std.proofs.lemmas.List.Elements.{filter-append}
use Rattle.std.specs.Prelude.{map}
use Rattle.grep_matcher.specs.Meanings.{Meaning}
use Rattle.grep_definitions.specs.Plans.{is_across, selection_in, Planned, breaks, planned, Kind}
use Rattle.grep_definitions.specs.Plans.{matched, in_context, Selection, breaks_before, calls_at}
use Rattle.grep_definitions.specs.Plans.{joined_from, kind, line_count, report, reports_plan}
use Rattle.grep_definitions.specs.Plans.{reports_end, selected_lines, touched_lines, Settings}
use Rattle.grep_definitions.specs.Plans.{continues}
use Rattle.grep_definitions.specs.CountLaws.{NumbersChangeNoBytes, NumbersChangeNoCount}
use Rattle.grep_definitions.specs.Searches.{searched_bytes}
use Rattle.grep_definitions.specs.SearchLaws.{is_match, match_calls}

-- how many of some calls report a match
abbrev match_count : List Planned → ℕ
match_count calls = length (match_calls calls)

match_count-append : (front back : List Planned) → match_count (front ++ back) ≡ match_count front
    + match_count back
match_count-append front back =
    rw (map-append (λ call. call.call) front back)
    (ap length (filter-append is_match (map (λ call. call.call) front)
    (map (λ call. call.call) back)) ∙ length-append (match_calls front) (match_calls back))

-- if each line has as many, so have they all
match_count-joined : (f g : ℕ → List Planned) → ((i : ℕ) → match_count (f i) ≡ match_count (g i))
    → (i n : ℕ) → match_count (joined_from f i n) ≡ match_count (joined_from g i n)
match_count-joined f g same i zero = refl
match_count-joined f g same i (suc n) =
    rw (
      match_count-append (f i) (joined_from f (i + 1) n),
      match_count-append (g i) (joined_from g (i + 1) n),
      same i,
      match_count-joined f g same (i + 1) n,
    ) refl

-- a break before some calls is no match
match_count-breaks : (b : Bool) (end : ℕ) (xs ys : List Planned) → match_count xs ≡ match_count ys
    → match_count (if b then planned breaks end ∷ xs else xs)
    ≡ match_count (if b then planned breaks end ∷ ys else ys)
match_count-breaks true end xs ys same = same
match_count-breaks false end xs ys same = same

module _ (k : Settings) (numbered : Bool) (meaning : Meaning) (bytes : List ℕ) where
  abbrev other : Settings
  other = record k { line_number = numbered }

  report-count : (s : Selection) (i : ℕ) (kind : Option Kind)
      → match_count (report other bytes s i kind) ≡ match_count (report k bytes s i kind)
  report-count s i None = refl
  report-count s i (Some matched) = go (continues k bytes s i) _ _ refl refl
    where
      go : (b : Bool) (call call' : Planned) → is_match call.call ≡ true → is_match call'.call
          ≡ true
          → match_count (if b then [] else call ∷ []) ≡ match_count (if b then [] else call' ∷ [])
      go true call call' is is' = refl
      go false call call' is is' = rw (is, is') refl
  report-count s i (Some (in_context c)) = refl

  line-count : (s : Selection) (i : ℕ) → match_count (calls_at other bytes s i)
      ≡ match_count (calls_at k bytes s i)
  line-count s i =
      match_count-breaks (breaks_before k bytes s i) _ _ _ (report-count s i (kind k bytes s i))

  mode-count : (across : Bool)
      → match_count (reports_plan other bytes (selection_in other meaning bytes across)).calls
      ≡ match_count (reports_plan k bytes (selection_in k meaning bytes across)).calls
  mode-count true = match_count-joined _ _ (line-count (touched_lines k meaning bytes)) 0
      (line_count k bytes)
  mode-count false = match_count-joined _ _ (line-count (selected_lines k meaning bytes)) 0
      (reports_end k meaning bytes)

pub numbers-no_count : NumbersChangeNoCount
numbers-no_count k numbered meaning bytes = mode-count k numbered meaning bytes
    (is_across k meaning)

pub numbers-no_bytes : NumbersChangeNoBytes
unfolding searched_bytes
numbers-no_bytes k numbered input = refl
