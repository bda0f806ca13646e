-- How many bytes `finish` counts of a search by line under a limit.
use Rattle.std.proofs.Common.{◌≡◌, ℕ, zero, suc, ◌+◌, ◌-◌, ◌<◌, ◌≤◌, Bool, true, false, ◌&&◌}
use Rattle.std.proofs.Common.{List, [], ◌∷◌, ◌++◌, length, map, take, Option, Some, None, refl, sym}
use Rattle.std.proofs.Common.{ap, ◌∙◌, arith, ⊎_elim, min, inr, if◌then◌else◌}
use Rattle.std.proofs.lemmas.Bool.{and_parts, cases_lt, le-ltb, lt-ltb, ltb-false, ltb-true}
use Rattle.std.proofs.lemmas.Bool.{not-true}
use Rattle.std.proofs.lemmas.Option.{slice_get-map, slice_get_past}
use Rattle.std.specs.Prelude.{filter, nat_lt, slice_get}
use Rattle.std.specs.List.{range_with_len}
use Rattle.std.specs.Option.{option_map, unwrap_or}
use Rattle.grep_matcher.specs.Lines.{byte_of}
use Rattle.grep_matcher.specs.Meanings.{Meaning}
use Rattle.grep_matcher.proofs.LineStartLemmas.{line_start-last, line_start-more}
use Rattle.grep_definitions.specs.Plans.{at_most, count_below, end_by_stop, fills_limit}
use Rattle.grep_definitions.specs.Plans.{first_below, has_room, is_below}
use Rattle.grep_definitions.specs.Plans.{hits, is_across, is_chosen, joined_from, line_count, Plan}
use Rattle.grep_definitions.specs.Plans.{reports_end, Settings, start}
use Rattle.grep_definitions.specs.SearchLaws.{match_of, reported_to}
use Rattle.grep_definitions.proofs.BelowLemmas.{first_below-none, first_below-of, joined_from-add}
use Rattle.grep_definitions.proofs.BelowLemmas.{some_below-false}
use Rattle.grep_definitions.proofs.BoolLemmas.{clash}
use Rattle.grep_definitions.proofs.LimitLemmas.{by_stop-none}
use Rattle.grep_definitions.proofs.MatchCallLemmas.{length-passing, matches-are_matched_lines}
use Rattle.grep_definitions.proofs.MatchCallLemmas.{passing}
use Rattle.grep_definitions.proofs.SearchModeLemmas.{plan-by_line}
use Rattle.grep_searcher.specs.ByteCounts.{CountsToLimit, end_of_nth, IsLimited}
use Rattle.grep_searcher.specs.HitLines.{hit_matches, IsFilter, items_up_to}
use Rattle.grep_searcher.proofs.LineFilterLemmas.{lines-are_filtered, matched-hits, passing-filter}

-- ---- the number before which so many others pass

-- the item after some others
slice_get-after : {X : Type 0} (front back : List X) → slice_get (front ++ back) (length front)
    ≡ slice_get back 0
slice_get-after [] back = refl
slice_get-after (x ∷ front) back = slice_get-after front back

slice_get-first : {X : Type 0} (i : ℕ) (xs : List X)
    → slice_get (take (suc i) xs) i ≡ slice_get xs i
slice_get-first zero [] = refl
slice_get-first zero (x ∷ xs) = refl
slice_get-first (suc i) [] = refl
slice_get-first (suc i) (x ∷ xs) = slice_get-first i xs

-- it is listed after them
nth-passing : (p : ℕ → Bool) (n m : ℕ) → m < n → p m ≡ true
    → slice_get (joined_from (passing p) 0 n) (count_below p m) ≡ Some m
nth-passing p n m inside passes =
    let rest = n - m - 1 in
    let whole : n ≡ m + suc rest = omega arith in
    let first : 0 + m ≡ m = omega arith in
    let front = joined_from (passing p) 0 m in
    ap (λ size. slice_get (joined_from (passing p) 0 size) (count_below p m)) whole
    ∙ ap (λ xs. slice_get xs (count_below p m)) (joined_from-add (passing p) 0 m (suc rest))
    ∙ ap (λ i. slice_get (front ++ joined_from (passing p) i (suc rest)) (count_below p m)) first
    ∙ ap (slice_get (front ++ joined_from (passing p) m (suc rest))) (sym (length-passing p m))
    ∙ slice_get-after front (joined_from (passing p) m (suc rest))
    ∙ ap (λ b. slice_get ((if b then m ∷ [] else []) ++ joined_from (passing p) (m + 1) rest) 0)
    passes

-- if more pass, there is one
count_below-find : (p : ℕ → Bool) (n l : ℕ) → l < count_below p n
    → (m : ℕ) × (m < n) × (p m ≡ true) × (count_below p m ≡ l)
count_below-find p zero l more = absurd (omega arith)
count_below-find p (suc n) l more = go (p n) refl more (λ less. count_below-find p n l less)
  where
    go : (b : Bool) → p n ≡ b → l < (if b then count_below p n + 1 else count_below p n)
        → (l < count_below p n → (m : ℕ) × (m < n) × (p m ≡ true) × (count_below p m ≡ l))
        → (m : ℕ) × (m < suc n) × (p m ≡ true) × (count_below p m ≡ l)
    go true passes above before =
        ⊎_elim (λ less. let found = before less in (found.0, omega (arith, found.1), found.2, found.3))
        (λ over. (n, omega arith, passes, omega arith)) (cases_lt l (count_below p n))
    go false passes above before =
        let found = before above in (found.0, omega (arith, found.1), found.2, found.3)

-- ---- the line that fills the limit

-- the bound by the limit, without `passthru`: where the line is that fills it, if it isn't 0
bound-filled : (passthru room : Bool) (after : ℕ) (found : Option ℕ)
    → passthru ≡ false → room ≡ true
    → (if passthru then None
    else (if room then option_map (λ m. suc (m + after)) found else Some 0))
    ≡ option_map (λ m. suc (m + after)) found
bound-filled passthru room after found selective some = rw (selective, some) refl

bound-shut : (passthru room : Bool) (found : Option ℕ) → passthru ≡ false → room ≡ false
    → (if passthru then None else (if room then found else Some 0)) ≡ Some 0
bound-shut passthru room found selective none = rw (selective, none) refl

module _ (k : Settings) (meaning : Meaning) (bytes : List ℕ) (l : ℕ) (by : IsLimited k (suc l))
  where
    abbrev n : ℕ
    n = line_count k bytes

    abbrev is_hit_at : ℕ → Bool
    is_hit_at = hits k meaning bytes

    abbrev fills : ℕ → Bool
    fills = fills_limit k meaning bytes

    -- a line fills it that hits, and before which one line less hits than the limit has
    fills-hit : (m : ℕ) → fills m ≡ true → (is_hit_at m ≡ true) × (count_below is_hit_at m ≡ l)
    fills-hit m full =
        let parts = and_parts (is_chosen k meaning bytes m) _ full in
        let hit = and_parts (is_hit_at m) _ parts.0 in
        let room = rw by.limited at hit.1 in
        let shut = rw by.limited at (not-true _ parts.1) in
        let below = ltb-true (count_below is_hit_at m) (suc l) room in
        let over = ltb-false (count_below is_hit_at m + 1) (suc l) shut in
        (hit.0, omega (arith, below, over))

    hit-fills : (m : ℕ) → is_hit_at m ≡ true → count_below is_hit_at m ≡ l → fills m ≡ true
    hit-fills m hit is =
        let below : nat_lt (count_below is_hit_at m) (suc l) ≡ true = lt-ltb _ _ (omega arith) in
        let over : nat_lt (count_below is_hit_at m + 1) (suc l) ≡ false = le-ltb _ _ (omega arith) in
        rw (by.limited, hit, below, over) refl

    -- the matches that are reported are the lines that hit, as many as the limit has
    hits-listed : is_across k meaning ≡ false → hit_matches k meaning bytes
        ≡ map (match_of k bytes) (take (suc l) (joined_from (passing is_hit_at) 0 n))
    hits-listed by_line =
        let free : IsFilter k = record { unstopped = by.unstopped; untrailed = inr by.untrailed } in
        sym (lines-are_filtered k meaning bytes by_line free)
        ∙ matches-are_matched_lines k meaning bytes by_line
        ∙ ap (map (match_of k bytes)) (matched-hits k meaning bytes free
        ∙ ap (λ limit. items_up_to limit (filter is_hit_at (range_with_len 0 n))) by.limited
        ∙ ap (take (suc l)) (sym (passing-filter is_hit_at 0 n)))

    last-hit : is_across k meaning ≡ false → (found : Option ℕ)
        → slice_get (joined_from (passing is_hit_at) 0 n) l ≡ found
        → slice_get (hit_matches k meaning bytes) l ≡ option_map (match_of k bytes) found
    last-hit by_line found is =
        ap (λ calls. slice_get calls l) (hits-listed by_line)
        ∙ slice_get-map (match_of k bytes) (take (suc l) (joined_from (passing is_hit_at) 0 n)) l
        ∙ ap (option_map (match_of k bytes))
        (slice_get-first l (joined_from (passing is_hit_at) 0 n) ∙ is)

    -- one more than the last line that may be reported
    end-is : (found : Option ℕ) → first_below fills n ≡ found
        → reports_end k meaning bytes
        ≡ at_most (option_map (λ m. suc (m + k.after_context)) found) n
    end-is found is =
        let room : has_room k 0 ≡ true = ap (is_below 0) by.limited ∙ lt-ltb 0 (suc l) (omega arith) in
        ap (λ bound. at_most bound (at_most (end_by_stop k meaning bytes) n))
        (bound-filled k.passthru (has_room k 0) k.after_context (first_below fills n) by.selective room
        ∙ ap (option_map (λ m. suc (m + k.after_context))) is)
        ∙ ap (λ stop. at_most (option_map (λ m. suc (m + k.after_context)) found) (at_most stop n))
        (by_stop-none k meaning bytes (λ some. ap (λ b. b && some) by.unstopped))

    counts-to : is_across k meaning ≡ false → (found : Option ℕ) → first_below fills n ≡ found
        → start k bytes (reports_end k meaning bytes)
        ≡ end_of_nth (hit_matches k meaning bytes) (length bytes) (suc l)
    counts-to by_line None is =
        let few : count_below is_hit_at n ≤ l = ⊎_elim (λ more.
        let line = count_below-find is_hit_at n l more in
        absurd (clash (hit-fills line.0 line.2 line.3)
        (some_below-false fills n line.0 (first_below-none fills n is) line.1)))
        (λ over. over) (cases_lt l (count_below is_hit_at n)) in
        let none = last-hit by_line None (slice_get_past _ l
        (omega (arith, few, length-passing is_hit_at n))) in
        ap (start k bytes) (end-is None is) ∙ line_start-last (byte_of k.line_terminator) bytes
        ∙ ap (λ found. unwrap_or (option_map reported_to found) (length bytes)) (sym none)
    counts-to by_line (Some m) is =
        let full = first_below-of fills n m is in
        let hit = fills-hit m full.1 in
        let some = last-hit by_line (Some m)
        (ap (slice_get (joined_from (passing is_hit_at) 0 n)) (sym hit.1)
        ∙ nth-passing is_hit_at n m full.0 hit.0) in
        let end : reports_end k meaning bytes ≡ m + 1 = end-is (Some m) is ∙ omega (arith, full.0, by.untrailed) in
        ap (start k bytes) end ∙ line_start-more (byte_of k.line_terminator) bytes m full.0
        ∙ ap (λ found. unwrap_or (option_map reported_to found) (length bytes)) (sym some)

pub counts-to_limit : CountsToLimit
counts-to_limit k meaning bytes limit by_line by =
    ap (λ (plan : Plan). plan.finish.count) (plan-by_line k meaning bytes by_line) ∙ go limit by
  where
    go : (limit : ℕ) → IsLimited k limit → start k bytes (reports_end k meaning bytes)
        ≡ end_of_nth (hit_matches k meaning bytes) (length bytes) limit
    go zero by =
        let shut : has_room k 0 ≡ false = ap (is_below 0) by.limited in
        let none : min 0 (at_most (end_by_stop k meaning bytes) (line_count k bytes)) ≡ 0 =
        omega arith in
        ap (λ bound. start k bytes (at_most bound (at_most (end_by_stop k meaning bytes)
        (line_count k bytes)))) (bound-shut k.passthru (has_room k 0) _ by.selective shut)
        ∙ ap (start k bytes) none
    go (suc l) by = counts-to k meaning bytes l by by_line (first_below (fills_limit k meaning bytes)
        (line_count k bytes)) refl
