-- Which lines a search by line selects if no limit and no stop is set.
use Rattle.std.proofs.Common.{◌≡◌, ℕ, zero, suc, ◌<◌, ◌≤◌, Bool, true, false, List, [], ◌∷◌, length}
use Rattle.std.proofs.Common.{take, refl, ap, sym, ◌∙◌, arith, add-one}
use Rattle.std.proofs.Math.Seq.{take-length}
use Rattle.std.proofs.lemmas.List.{take_all}
use Rattle.std.proofs.lemmas.List.Folds.{list_all_more, list_any_more}
use Rattle.std.specs.List.{list_all, list_any}
use Rattle.std.proofs.lemmas.Bool.{lt-ltb}
use Rattle.std.proofs.lemmas.List.Sums.{count_by_more_yes, count_by_more_no, sum_by-cons}
use Rattle.std.specs.Prelude.{◌||◌, ◌&&◌, not, cond, nat_lt, count_by, slice_index_or, is_some}
use Rattle.grep_matcher.specs.Lines.{byte_of, lines, strip}
use Rattle.grep_matcher.specs.Meanings.{Meaning}
use Rattle.grep_definitions.specs.Plans.{count_below, line, line_count, hits_if, has_room, is_below}
use Rattle.grep_definitions.specs.Plans.{is_selected, reports_end, Settings, some_below, stops_next}
use Rattle.grep_definitions.proofs.LimitLemmas.{ends-none, by_limit-none, by_stop-none}
use Rattle.grep_definitions.specs.SearchLaws.{is_matched}
use Rattle.grep_searcher.specs.HitLines.{is_hit, HitsAreSelected, HitsAreMatched, HitsAreCounted}
use Rattle.grep_searcher.specs.HitLines.{HitsAreFound, IsUnlimited, NoneIsSelected}
use Rattle.grep_searcher.specs.HitLines.{PredicatesAreCounted}

-- as many numbers pass as items of a list do, if a number passes exactly if its item does
count_below-items : {X : Type 0} (f : X → Bool) (p : ℕ → Bool) (d : X) (xs : List X) (n : ℕ) → n
    ≤ length xs → ((i : ℕ) → i < length xs → p i ≡ f (slice_index_or xs i d)) → count_below p n
    ≡ count_by f (take n xs)
count_below-items f p d xs zero fits same = refl
count_below-items f p d xs (suc n) fits same =
    let below : n < length xs = omega (arith, fits) in
    let low : n ≤ length xs = omega (arith, fits) in
    grind (
      arith,
      add-one,
      same n below,
      count_below-items f p d xs n low same,
      count_by_more_yes f xs n d below,
      count_by_more_no f xs n d below,
    )

-- without a limit the line is chosen if it hits, and not trailing
selected-hit : (below hit : Bool) → below ≡ true → (((below && hit) && true) && true) ≡ hit
selected-hit true true is = refl
selected-hit true false is = refl
selected-hit false hit is = absurd (let never = is in cc)

matched-hit : (below hit follows : Bool) → below ≡ true
    → ((((below && hit) && true) && true) || (follows && ((below && hit) && false))) ≡ hit
matched-hit true true follows is = refl
matched-hit true false true is = refl
matched-hit true false false is = refl
matched-hit false hit follows is = absurd (let never = is in cc)

never : {settings : Settings} → IsUnlimited settings → (some : Bool) → stops_next settings some
    ≡ false
never free some = ap (λ b. b && some) free.unstopped

pub hits-are_selected : HitsAreSelected
hits-are_selected settings meaning bytes i free below =
    rw (ends-none settings meaning bytes (never free) i, free.unlimited)
    (selected-hit (nat_lt i (line_count settings bytes))
    (is_hit settings meaning (line settings bytes i)) (lt-ltb i (line_count settings bytes) below))

pub hits-are_matched : HitsAreMatched
hits-are_matched settings meaning bytes i free below =
    rw (ends-none settings meaning bytes (never free) i, free.unlimited)
    (matched-hit (nat_lt i (line_count settings bytes))
    (is_hit settings meaning (line settings bytes i)) _
    (lt-ltb i (line_count settings bytes) below))

-- some number below n passes exactly if one of the first n items does
some_below-any : {X : Type 0} (p : ℕ → Bool) (f : X → Bool) (d : X) (xs : List X)
    → ((i : ℕ) → i < length xs → p i ≡ f (slice_index_or xs i d)) → (n : ℕ) → n ≤ length xs
    → some_below p n ≡ list_any f (take n xs)
some_below-any p f d xs same zero fits = refl
some_below-any p f d xs same (suc n) fits = let below : n < length xs = omega (arith, fits) in
    rw (same n below, ← add-one n, list_any_more f xs n d below)
    (rw (some_below-any p f d xs same n (omega (arith, fits))) refl)

pub hits-are_found : HitsAreFound
hits-are_found settings meaning bytes free =
    let all = lines (byte_of settings.line_terminator) bytes in
    rw (take_all (length all) all (omega arith))
    at (some_below-any _ (is_hit settings meaning) [] all
    (λ i below. hits-are_selected settings meaning bytes i free below) (length all) (omega arith))

none-more : (settings : Settings) → settings.invert_match ≡ true → (some passes : Bool)
    → not (some || hits_if settings passes) ≡ (not some && passes)
none-more settings inverts true passes = refl
none-more settings inverts false true = rw inverts refl
none-more settings inverts false false = rw inverts refl

-- no number below n passes exactly if each of the first n items does, under inversion
none_below-all : (settings : Settings) → settings.invert_match ≡ true → {X : Type 0}
    (p : ℕ → Bool) (f : X → Bool) (d : X) (xs : List X)
    → ((i : ℕ) → i < length xs → p i ≡ hits_if settings (f (slice_index_or xs i d))) → (n : ℕ)
    → n ≤ length xs → not (some_below p n) ≡ list_all f (take n xs)
none_below-all settings inverts p f d xs same zero fits = refl
none_below-all settings inverts p f d xs same (suc n) fits =
    let below : n < length xs = omega (arith, fits) in
    rw (same n below, ← add-one n, list_all_more f xs n d below)
    (rw (← none_below-all settings inverts p f d xs same n (omega (arith, fits)))
    (none-more settings inverts _ _))

pub none-is_selected : NoneIsSelected
none-is_selected settings meaning bytes free inverts =
    let all = lines (byte_of settings.line_terminator) bytes in
    rw (take_all (length all) all (omega arith))
    at (none_below-all settings inverts _
    (λ line. is_some (meaning.first (strip settings.line_terminator line))) [] all
    (λ i below. hits-are_selected settings meaning bytes i free below) (length all) (omega arith))

-- each line may be reported
reports_end-whole : (settings : Settings) (meaning : Meaning) (bytes : List ℕ)
    → IsUnlimited settings → reports_end settings meaning bytes ≡ line_count settings bytes
reports_end-whole settings meaning bytes free =
    let open_at : (count : ℕ) → has_room settings count ≡ true =
    λ count. ap (is_below count) free.unlimited in
    rw (
      by_stop-none settings meaning bytes (never free),
      by_limit-none settings meaning bytes open_at,
    ) refl

pub hits-are_counted : HitsAreCounted
hits-are_counted settings meaning bytes free =
    let all = lines (byte_of settings.line_terminator) bytes in
    ap (count_below (is_matched settings meaning bytes))
    (reports_end-whole settings meaning bytes free)
    ∙ count_below-items (is_hit settings meaning) (is_matched settings meaning bytes) [] all
    (length all) (omega arith) (λ i below. hits-are_matched settings meaning bytes i free below)
    ∙ ap (count_by (is_hit settings meaning)) (take-length all)

-- as many items pass if the tests agree
count_by-same : {X : Type 0} (p q : X → Bool) → ((x : X) → p x ≡ q x) → (xs : List X)
    → count_by p xs ≡ count_by q xs
count_by-same p q same [] = refl
count_by-same p q same (x ∷ xs) =
    sum_by-cons (λ y. cond (p y) 1 0) x xs
    ∙ rw (same x, count_by-same p q same xs) (sym (sum_by-cons (λ y. cond (q y) 1 0) x xs))

-- without inversion a line hits if it matches
pub hits_if-plain : (settings : Settings) (matches : Bool) → hits_if settings false ≡ false
    → hits_if settings matches ≡ matches
hits_if-plain settings true plain = ap not plain
hits_if-plain settings false plain = plain

pub predicates-are_counted : PredicatesAreCounted
predicates-are_counted settings meaning bytes holds free plain same =
    hits-are_counted settings meaning bytes free
    ∙ count_by-same (is_hit settings meaning) (λ line. holds (strip settings.line_terminator line))
    (λ line.
    let stripped = strip settings.line_terminator line in
    hits_if-plain settings (is_some (meaning.first stripped)) plain ∙ same stripped)
    (lines (byte_of settings.line_terminator) bytes)
