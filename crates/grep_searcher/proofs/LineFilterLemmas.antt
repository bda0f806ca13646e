-- The matches that a search by line reports are the lines that hit.
use Rattle.std.proofs.Common.{◌≡◌, ◌⊎◌, ℕ, zero, suc, ◌+◌, ◌-◌, ◌<◌, ◌≤◌, Bool, true, false, List}
use Rattle.std.proofs.Common.{[], ◌∷◌, ◌++◌, length, map, take, Option, Some, None, refl, sym, ap}
use Rattle.std.proofs.Common.{◌∙◌, subst, inl, inr, arith, if◌then◌else◌}
use Rattle.std.proofs.Math.Bool.{and-false, and-true, or-false}
use Rattle.std.proofs.Math.Seq.{take-nil}
use Rattle.std.proofs.lemmas.Bool.{and_parts, false≢true, lt-leb, lt-ltb, ltb-false}
use Rattle.std.proofs.lemmas.Bool.{ltb-true}
use Rattle.std.proofs.lemmas.List.{append-nil, ext_get_or, length-append, take-append-le, take-map}
use Rattle.std.proofs.lemmas.List.{take_all}
use Rattle.std.proofs.lemmas.List.Elements.{All-cons, All-map, All-nil, All-weaker, filter_agree}
use Rattle.std.proofs.lemmas.List.FromFn.{get_or-map-range_with_len, length-map-range_with_len}
use Rattle.std.specs.Prelude.{◌||◌, ◌&&◌, not, cond, nat_lt, nat_le, filter, is_some, All}
use Rattle.std.specs.Prelude.{slice_index_or}
use Rattle.std.specs.List.{range_with_len}
use Rattle.grep_matcher.specs.Lines.{byte_of, lines, strip}
use Rattle.grep_matcher.specs.Meanings.{Meaning}
use Rattle.grep_definitions.specs.Plans.{count_below, joined_from, follows_selected, hits}
use Rattle.grep_definitions.specs.Plans.{is_below, is_selected, is_trailing, line}
use Rattle.grep_definitions.specs.Plans.{line_count, reported_bytes, reports_end, selected_lines}
use Rattle.grep_definitions.specs.Plans.{Settings, stops_next, Call, is_open_at, ends_search}
use Rattle.grep_definitions.specs.Plans.{some_below, search_plan}
use Rattle.grep_definitions.specs.SearchLaws.{is_matched, match_calls, match_of, matched_lines}
use Rattle.grep_definitions.proofs.BelowLemmas.{joined_from-add, joined_from-equal, joined_from-more}
use Rattle.grep_definitions.proofs.BelowLemmas.{joined_from-none, some_below-none}
use Rattle.grep_definitions.proofs.LimitLemmas.{selected-unstopped}
use Rattle.grep_definitions.proofs.ListLemmas.{All-joined_from}
use Rattle.grep_definitions.proofs.MatchCallLemmas.{length-passing, matches-are_matched_lines}
use Rattle.grep_definitions.proofs.MatchCallLemmas.{passing, selected-reportable}
use Rattle.grep_definitions.proofs.SearchLawLemmas.{reports_end-le}
use Rattle.grep_searcher.specs.EveryLines.{AllLinesHit, every_line_facts, EveryLineHits}
use Rattle.grep_searcher.specs.HitLines.{HitsAreLines, IsFilter, is_hit, items_up_to}
use Rattle.grep_searcher.specs.HitLines.{lines_as_matches, LinesAreFiltered, LinesAreListed}
use Rattle.grep_searcher.specs.HitLines.{MatchedLinesHit}
use Rattle.grep_searcher.specs.HitLines.{MatchedLinesMatch, PredicatesAreFiltered}
use Rattle.grep_searcher.specs.HitLines.{PredicatesAreLines}
use Rattle.grep_searcher.proofs.HitLineLemmas.{hits_if-plain}

-- ---- the numbers that pass

-- listed one by one they are a filter of all
pub passing-filter : (p : ℕ → Bool) (i n : ℕ) → joined_from (passing p) i n
    ≡ filter p (range_with_len i n)
passing-filter p i zero = refl
passing-filter p i (suc n) = go (p i) (passing-filter p (i + 1) n)
  where
    go : (b : Bool) → joined_from (passing p) (i + 1) n ≡ filter p (range_with_len (i + 1) n)
        → (if b then i ∷ [] else []) ++ joined_from (passing p) (i + 1) n
        ≡ cond b (i ∷ filter p (range_with_len (i + 1) n)) (filter p (range_with_len (i + 1) n))
    go true later = ap (λ xs. i ∷ xs) later
    go false later = later

-- one more item, while there is room
take-more : (m : ℕ) (xs : List ℕ) (x : ℕ) (hit : Bool)
    → take m xs ++ (if hit && nat_lt (length xs) m then x ∷ [] else [])
    ≡ take m (xs ++ (if hit then x ∷ [] else []))
take-more m xs x false = append-nil (take m xs) ∙ ap (take m) (sym (append-nil xs))
take-more m xs x true = go (nat_lt (length xs) m) refl
  where
    go : (b : Bool) → nat_lt (length xs) m ≡ b
        → take m xs ++ (if b then x ∷ [] else []) ≡ take m (xs ++ x ∷ [])
    go true is =
        let room : length xs < m = ltb-true (length xs) m is in
        let size = length-append xs (x ∷ []) in
        ap (λ ys. ys ++ x ∷ []) (take_all m xs (omega (arith, room)))
        ∙ sym (take_all m (xs ++ x ∷ []) (omega (arith, room, size)))
    go false is =
        append-nil (take m xs)
        ∙ sym (take-append-le m xs (x ∷ []) (ltb-false (length xs) m is))

-- those before which fewer pass than a limit has are the first that pass
first-passing : (limit : Option ℕ) (p : ℕ → Bool) (n : ℕ)
    → joined_from (passing (λ i. p i && is_below (count_below p i) limit)) 0 n
    ≡ items_up_to limit (joined_from (passing p) 0 n)
first-passing None p n =
    joined_from-equal _ (passing p) 0 n (λ j low high. rw (and-true (p j)) refl)
first-passing (Some m) p zero = sym (take-nil m)
first-passing (Some m) p (suc n) =
    let below : ℕ → Bool = λ i. p i && nat_lt (count_below p i) m in
    let next : suc n ≡ n + 1 = omega arith in
    let sum : 0 + n ≡ n = omega arith in
    let more : (q : ℕ → Bool) → joined_from (passing q) 0 (suc n)
    ≡ joined_from (passing q) 0 n ++ passing q n =
    λ q. ap (joined_from (passing q) 0) next ∙ joined_from-more (passing q) 0 n
    ∙ ap (λ i. joined_from (passing q) 0 n ++ passing q i) sum in
    more below ∙ ap (λ xs. xs ++ passing below n) (first-passing (Some m) p n)
    ∙ ap (λ c. take m (joined_from (passing p) 0 n)
    ++ (if p n && nat_lt c m then n ∷ [] else [])) (sym (length-passing p n))
    ∙ take-more m (joined_from (passing p) 0 n) n (p n) ∙ ap (take m) (sym (more p))

-- what is made of the numbers that pass, and the items that pass
map-filter_range : {X : Type 0} (f : ℕ → X) (p : ℕ → Bool) (q : X → Bool) (i n : ℕ)
    → ((j : ℕ) → i ≤ j → j < i + n → q (f j) ≡ p j)
    → map f (filter p (range_with_len i n)) ≡ filter q (map f (range_with_len i n))
map-filter_range f p q i zero same = refl
map-filter_range f p q i (suc n) same =
    rw (same i (omega arith) (omega arith)) (go (p i) (map-filter_range f p q (i + 1) n
    (λ j low high. same j (omega arith) (omega arith))))
  where
    go : (b : Bool) → map f (filter p (range_with_len (i + 1) n))
        ≡ filter q (map f (range_with_len (i + 1) n))
        → map f (cond b (i ∷ filter p (range_with_len (i + 1) n))
        (filter p (range_with_len (i + 1) n)))
        ≡ cond b (f i ∷ filter q (map f (range_with_len (i + 1) n)))
        (filter q (map f (range_with_len (i + 1) n)))
    go true later = ap (λ xs. f i ∷ xs) later
    go false later = later

map-filter : {X Y : Type 0} (f : X → Y) (q : Y → Bool) (xs : List X)
    → map f (filter (λ x. q (f x)) xs) ≡ filter q (map f xs)
map-filter f q [] = refl
map-filter f q (x ∷ xs) = go (q (f x)) (map-filter f q xs)
  where
    go : (b : Bool) → map f (filter (λ y. q (f y)) xs) ≡ filter q (map f xs)
        → map f (cond b (x ∷ filter (λ y. q (f y)) xs) (filter (λ y. q (f y)) xs))
        ≡ cond b (f x ∷ filter q (map f xs)) (filter q (map f xs))
    go true later = ap (λ ys. f x ∷ ys) later
    go false later = later

map-up_to : {X Y : Type 0} (f : X → Y) (limit : Option ℕ) (xs : List X)
    → map f (items_up_to limit xs) ≡ items_up_to limit (map f xs)
map-up_to f None xs = refl
map-up_to f (Some m) xs = sym (take-map f m xs)

pub map-twice : {X Y Z : Type 0} (g : Y → Z) (f : X → Y) (xs : List X)
    → map g (map f xs) ≡ map (λ x. g (f x)) xs
map-twice g f [] = refl
map-twice g f (x ∷ xs) = ap (λ ys. g (f x) ∷ ys) (map-twice g f xs)

-- a list is what it has at each of its indices
pub map-indices : {X : Type 0} (d : X) (xs : List X)
    → map (λ i. slice_index_or xs i d) (range_with_len 0 (length xs)) ≡ xs
map-indices d xs =
    let same = length-map-range_with_len (λ i. slice_index_or xs i d) 0 (length xs) in
    ext_get_or d _ xs same (λ i below. get_or-map-range_with_len (λ i. slice_index_or xs i d) 0
    (length xs) i i d (omega (arith, below, same)) (omega arith))

-- ---- the lines that are matched

module _ (k : Settings) (meaning : Meaning) (bytes : List ℕ) where
  abbrev n : ℕ
  n = line_count k bytes

  abbrev is_hit_at : ℕ → Bool
  is_hit_at = hits k meaning bytes

  -- a line hits while fewer before it hit than the limit has
  abbrev is_first : ℕ → Bool
  is_first i = is_hit_at i && is_below (count_below is_hit_at i) k.max_matches

  never : k.stop_on_nonmatch ≡ false → (some : Bool) → stops_next k some ≡ false
  never unstopped some = ap (λ b. b && some) unstopped

  selected-first : k.stop_on_nonmatch ≡ false → (i : ℕ) → is_selected k meaning bytes i ≡ is_first i
  selected-first unstopped i = selected-unstopped k meaning bytes (never unstopped) i

  follows-none : k.after_context ≡ 0 → (i : ℕ)
      → follows_selected k bytes (selected_lines k meaning bytes) i ≡ false
  follows-none none i = some_below-none _ i (λ j less.
      let far : nat_le (i - j) k.after_context ≡ false =
      lt-leb (i - j) k.after_context (omega (arith, none)) in
      rw far refl)

  trailing-none : k.max_matches ≡ None → (i : ℕ) → is_trailing k meaning bytes i ≡ false
  trailing-none unlimited i = rw unlimited (and-false (is_hit_at i))

  matched-selected : IsFilter k → (i : ℕ) → is_matched k meaning bytes i
      ≡ is_selected k meaning bytes i
  matched-selected by i = go by.untrailed
    where
      go : (k.max_matches ≡ None) ⊎ (k.after_context ≡ 0) → is_matched k meaning bytes i
          ≡ is_selected k meaning bytes i
      go (inl unlimited) =
          rw (trailing-none unlimited i)
          (rw (and-false (follows_selected k bytes (selected_lines k meaning bytes) i))
          (or-false (is_selected k meaning bytes i)))
      go (inr none) = rw (follows-none none i) (or-false (is_selected k meaning bytes i))

  -- no line is matched that may not be reported
  matched-none : IsFilter k → (i : ℕ) → reports_end k meaning bytes ≤ i
      → is_matched k meaning bytes i ≡ false
  matched-none by i late = go (is_matched k meaning bytes i) refl
    where
      go : (b : Bool) → is_matched k meaning bytes i ≡ b → b ≡ false
      go true is = absurd (let within = selected-reportable k meaning bytes i
          (sym (matched-selected by i) ∙ is) in omega arith)
      go false is = refl

  pub matched-hits : IsFilter k → matched_lines k meaning bytes
      ≡ items_up_to k.max_matches (filter is_hit_at (range_with_len 0 n))
  matched-hits by =
      let matched = is_matched k meaning bytes in
      let end = reports_end k meaning bytes in
      let rest = n - end in
      let whole : end + rest ≡ n = omega (arith, reports_end-le k meaning bytes) in
      let late : joined_from (passing matched) (0 + end) rest ≡ [] =
      joined_from-none (passing matched) (0 + end) rest (λ j low high.
      rw (matched-none by j (omega arith)) refl) in
      let all : joined_from (passing matched) 0 n ≡ matched_lines k meaning bytes =
      ap (joined_from (passing matched) 0) (sym whole)
      ∙ joined_from-add (passing matched) 0 end rest
      ∙ ap (λ xs. matched_lines k meaning bytes ++ xs) late
      ∙ append-nil (matched_lines k meaning bytes) in
      sym all
      ∙ joined_from-equal (passing matched) (passing is_first) 0 n
      (λ j low high. rw (matched-selected by j ∙ selected-first by.unstopped j) refl)
      ∙ first-passing k.max_matches is_hit_at n
      ∙ ap (items_up_to k.max_matches) (passing-filter is_hit_at 0 n)

  abbrev is_hit_call : Call → Bool
  is_hit_call found = is_hit k meaning (reported_bytes found)

  matches-hits : map (match_of k bytes) (filter is_hit_at (range_with_len 0 n))
      ≡ filter is_hit_call (lines_as_matches k bytes)
  matches-hits = map-filter_range (match_of k bytes) is_hit_at is_hit_call 0 n
      (λ j low high. let below : nat_lt j n ≡ true = lt-ltb j n (omega arith) in rw below refl)

pub lines-are_filtered : LinesAreFiltered
lines-are_filtered k meaning bytes by_line by =
    matches-are_matched_lines k meaning bytes by_line
    ∙ ap (map (match_of k bytes)) (matched-hits k meaning bytes by)
    ∙ map-up_to (match_of k bytes) k.max_matches _
    ∙ ap (items_up_to k.max_matches) (matches-hits k meaning bytes)

pub lines-are_listed : LinesAreListed
lines-are_listed k bytes =
    map-twice reported_bytes (match_of k bytes) (range_with_len 0 (line_count k bytes))
    ∙ map-indices [] (lines (byte_of k.line_terminator) bytes)

pub hits-are_lines : HitsAreLines
hits-are_lines k meaning bytes =
    map-up_to reported_bytes k.max_matches _
    ∙ ap (items_up_to k.max_matches) (map-filter reported_bytes (is_hit k meaning)
    (lines_as_matches k bytes) ∙ ap (filter (is_hit k meaning)) (lines-are_listed k bytes))

-- ---- without inversion a line hits if a predicate holds

hit-holds : (k : Settings) (meaning : Meaning) (holds : List ℕ → Bool) → k.invert_match ≡ false
    → ((line : List ℕ) → is_some (meaning.first line) ≡ holds line) → (line : List ℕ)
    → is_hit k meaning line ≡ holds (strip k.line_terminator line)
hit-holds k meaning holds plain same line =
    hits_if-plain k (is_some (meaning.first (strip k.line_terminator line))) plain
    ∙ same (strip k.line_terminator line)

pub predicates-are_filtered : PredicatesAreFiltered
predicates-are_filtered k meaning bytes holds plain same =
    ap (items_up_to k.max_matches)
    (filter_agree (λ (found : Call). is_hit k meaning (reported_bytes found))
    (λ found. holds (strip k.line_terminator (reported_bytes found)))
    (λ found. hit-holds k meaning holds plain same (reported_bytes found))
    (lines_as_matches k bytes))

pub predicates-are_lines : PredicatesAreLines
predicates-are_lines k meaning bytes holds plain same =
    hits-are_lines k meaning bytes
    ∙ ap (items_up_to k.max_matches) (filter_agree (is_hit k meaning)
    (λ line. holds (strip k.line_terminator line)) (hit-holds k meaning holds plain same)
    (lines (byte_of k.line_terminator) bytes))

-- ---- whatever is set, a matched line hits

matched-hit : (selected follows trailing hit open_at unended : Bool)
    → selected ≡ ((hit && open_at) && unended) → trailing ≡ (hit && not open_at)
    → (selected || (follows && trailing)) ≡ true → hit ≡ true
matched-hit true follows trailing hit open_at unended is late taken =
    (and_parts hit open_at (and_parts (hit && open_at) unended (sym is)).0).0
matched-hit false true trailing hit open_at unended is late taken =
    (and_parts hit (not open_at) (sym late ∙ taken)).0
matched-hit false false trailing hit open_at unended is late taken =
    absurd (false≢true taken)

pub matched-lines_hit : MatchedLinesHit
matched-lines_hit k meaning bytes by_line =
    subst (All hits_call) (sym (matches-are_matched_lines k meaning bytes by_line))
    (All-map hits_call (match_of k bytes) (matched_lines k meaning bytes)
    (All-joined_from (λ i. hits_call (match_of k bytes i)) _ 0 (reports_end k meaning bytes)
    (λ j low high. go j (is_matched k meaning bytes j) refl)))
  where
    hits_call : Call → Type 0
    hits_call found = is_hit k meaning (reported_bytes found) ≡ true

    is_one : ℕ → Type 0
    is_one i = is_hit k meaning (line k bytes i) ≡ true

    go : (j : ℕ) (b : Bool) → is_matched k meaning bytes j ≡ b
        → All is_one (if b then j ∷ [] else [])
    go j true is =
        let hit = matched-hit (is_selected k meaning bytes j)
        (follows_selected k bytes (selected_lines k meaning bytes) j) (is_trailing k meaning bytes j)
        (hits k meaning bytes j) (is_open_at k meaning bytes j)
        (not (some_below (ends_search k meaning bytes) j)) refl refl is in
        let here = and_parts (nat_lt j (line_count k bytes))
        (is_hit k meaning (line k bytes j)) hit in
        All-cons is_one j [] here.1 (All-nil is_one)
    go j false is = All-nil is_one

pub matched-lines_match : MatchedLinesMatch
matched-lines_match k meaning bytes by_line plain =
    All-weaker (λ found. is_hit k meaning (reported_bytes found) ≡ true)
    (λ found. has_match (reported_bytes found) ≡ true)
    (λ found hit. sym (hits_if-plain k (has_match (reported_bytes found)) plain) ∙ hit)
    (match_calls (search_plan k meaning bytes).calls)
    (matched-lines_hit k meaning bytes by_line)
  where
    has_match : List ℕ → Bool
    has_match line = is_some (meaning.first (strip k.line_terminator line))

-- all lines hit that are asked about by `EveryLine`
filter-true : {X : Type 0} (xs : List X) → filter (λ x. true) xs ≡ xs
filter-true [] = refl
filter-true (x ∷ xs) = ap (λ ys. x ∷ ys) (filter-true xs)

pub every_line-hits : EveryLineHits
every_line-hits k bytes plain =
    predicates-are_filtered k every_line_facts.meaning bytes (λ line. true) plain (λ line. refl)
    ∙ ap (items_up_to k.max_matches) (filter-true (lines_as_matches k bytes))

pub all_lines-hit : AllLinesHit
all_lines-hit k bytes plain =
    sym (hits-are_lines k every_line_facts.meaning bytes)
    ∙ predicates-are_lines k every_line_facts.meaning bytes (λ line. true) plain (λ line. refl)
    ∙ ap (items_up_to k.max_matches) (filter-true (lines (byte_of k.line_terminator) bytes))
