-- The matches that are the lines that hit, as the texts of these lines.
use Rattle.std.proofs.Common.{◌≡◌, ◌∙◌, ℕ, zero, suc, ◌+◌, ◌≤◌, Bool, true, false, List, []}
use Rattle.std.proofs.Common.{◌∷◌, ◌++◌, drop, length, map, Option, None, Some, ap, ap₂, arith}
use Rattle.std.proofs.Common.{if◌then◌else◌, refl, sym}
use Rattle.std.proofs.lemmas.Bool.{lt-ltb}
use Rattle.std.proofs.lemmas.List.{append-nil, drop_all, drop_more, length-map, take-map}
use Rattle.std.proofs.lemmas.List.Elements.{All-cons, All-filter, All-head, All-nil, All-tail}
use Rattle.std.proofs.lemmas.List.Elements.{All-take, All-weaker}
use Rattle.std.proofs.lemmas.List.Folds.{flat_map-map}
use Rattle.std.specs.List.{enumerate_from, flat_map, list_any, range_with_len}
use Rattle.std.specs.Prelude.{◌||◌, All, cond, filter, nat_lt, slice_index_or}
use Rattle.grep_matcher.specs.Lines.{byte_of, lines}
use Rattle.grep_matcher.specs.Meanings.{Meaning}
use Rattle.grep_printer.proofs.TakenLineLemmas.{lines-alone}
use Rattle.grep_printer.specs.LineTexts.{plain_line, plain_lines}
use Rattle.grep_report.specs.SinkReports.{no_surroundings}
use Rattle.grep_searcher.proofs.LineFilterLemmas.{hits-are_lines}
use Rattle.grep_searcher.specs.HitLines.{hit_lines, hit_matches, is_hit, items_up_to}
use Rattle.grep_searcher.specs.Plans.{Call, Settings, line, line_count, matches, reported_bytes}
use Rattle.grep_searcher.specs.Plans.{start}
use Rattle.grep_searcher.specs.SearchLaws.{match_of, number_of}
use Rattle.linegrep_cli.proofs.PlainTextLemmas.{plain-text}

-- ---- lists

pub flat_map-agree : {X : Type 0} (f g : X → List ℕ) (xs : List X) → All (λ x. f x ≡ g x) xs
    → flat_map f xs ≡ flat_map g xs
flat_map-agree f g [] same = refl
flat_map-agree f g (x ∷ xs) same = ap₂ (λ (a b : List ℕ). a ++ b)
    (All-head (λ y. f y ≡ g y) x xs same)
    (flat_map-agree f g xs (All-tail (λ y. f y ≡ g y) x xs same))

map-up_to : {X Y : Type 0} (f : X → Y) (limit : Option ℕ) (xs : List X)
    → map f (items_up_to limit xs) ≡ items_up_to limit (map f xs)
map-up_to f None xs = refl
map-up_to f (Some most) xs = sym (take-map f most xs)

All-up_to : {X : Type 0} (P : X → Type 0) (limit : Option ℕ) (xs : List X) → All P xs
    → All P (items_up_to limit xs)
All-up_to P None xs all = all
All-up_to P (Some most) xs all = All-take P most xs all

-- the items of a list, each with its place, of which some pass
filter-places : {X : Type 0} (p : X → Bool) (i : ℕ) (xs : List X)
    → map (λ (one : ℕ × X). one.1) (filter (λ one. p one.1) (enumerate_from i xs)) ≡ filter p xs
filter-places p i [] = refl
filter-places p i (x ∷ xs) = go (p x) (filter-places p (i + 1) xs)
  where
    go : (b : Bool) → map (λ one. one.1) (filter (λ one. p one.1) (enumerate_from (i + 1) xs))
        ≡ filter p xs
        → map (λ one. one.1) (cond b ((i, x) ∷ filter (λ one. p one.1) (enumerate_from (i + 1) xs))
        (filter (λ one. p one.1) (enumerate_from (i + 1) xs)))
        ≡ cond b (x ∷ filter p xs) (filter p xs)
    go true later = ap (λ ys. x ∷ ys) later
    go false later = later

All-places : {X : Type 0} (P : X → Type 0) (i : ℕ) (xs : List X) → All P xs
    → All (λ one. P one.1) (enumerate_from i xs)
All-places P i [] all = All-nil (λ one. P one.1)
All-places P i (x ∷ xs) all = All-cons (λ one. P one.1) (i, x) (enumerate_from (i + 1) xs)
    (All-head P x xs all) (All-places P (i + 1) xs (All-tail P x xs all))

-- some pass exactly if one does
pub some-pass : {X : Type 0} (p : X → Bool) (xs : List X)
    → nat_lt 0 (length (filter p xs)) ≡ list_any p xs
some-pass p [] = refl
some-pass p (x ∷ xs) = go (p x) (some-pass p xs)
  where
    go : (b : Bool) → nat_lt 0 (length (filter p xs)) ≡ list_any p xs
        → nat_lt 0 (length (cond b (x ∷ filter p xs) (filter p xs))) ≡ (b || list_any p xs)
    go true later = lt-ltb 0 (suc (length (filter p xs))) (omega arith)
    go false later = later

-- ---- the lines that hit

module _ (k : Settings) (meaning : Meaning) (bytes : List ℕ) where
  abbrev t : ℕ
  t = byte_of k.line_terminator

  abbrev all : List (List ℕ)
  all = lines t bytes

  -- a line with its place, as a match
  abbrev pub call-of : ℕ × List ℕ → Call
  call-of one = matches (number_of k one.0) (start k bytes one.0) one.1 no_surroundings

  abbrev hits-at : ℕ × List ℕ → Bool
  hits-at one = is_hit k meaning one.1

  -- the lines that hit, each with its place; under a limit the first of these
  abbrev pub hits-placed : List (ℕ × List ℕ)
  hits-placed = items_up_to k.max_matches (filter hits-at (enumerate_from 0 all))

  filter-calls : (n i : ℕ) → i + n ≡ length all
      → filter (λ found. is_hit k meaning (reported_bytes found))
      (map (match_of k bytes) (range_with_len i n))
      ≡ map call-of (filter hits-at (enumerate_from i (drop i all)))
  filter-calls zero i sum =
      let none : length all ≤ i = omega (arith, sum) in
      rw (drop_all i all none) refl
  filter-calls (suc n) i sum =
      let next : (i + 1) + n ≡ length all = omega (arith, sum) in
      rw (drop_more all i [] (omega (arith, sum)))
      (go (is_hit k meaning (line k bytes i)) (filter-calls n (i + 1) next))
    where
      go : (b : Bool)
          → filter (λ found. is_hit k meaning (reported_bytes found))
          (map (match_of k bytes) (range_with_len (i + 1) n))
          ≡ map call-of (filter hits-at (enumerate_from (i + 1) (drop (i + 1) all)))
          → cond b (match_of k bytes i
          ∷ filter (λ found. is_hit k meaning (reported_bytes found))
          (map (match_of k bytes) (range_with_len (i + 1) n)))
          (filter (λ found. is_hit k meaning (reported_bytes found))
          (map (match_of k bytes) (range_with_len (i + 1) n)))
          ≡ map call-of (cond b ((i, line k bytes i)
          ∷ filter hits-at (enumerate_from (i + 1) (drop (i + 1) all)))
          (filter hits-at (enumerate_from (i + 1) (drop (i + 1) all))))
      go true later = ap (λ cs. match_of k bytes i ∷ cs) later
      go false later = later

  pub hits-are : hit_matches k meaning bytes ≡ map call-of hits-placed
  hits-are = ap (items_up_to k.max_matches) (filter-calls (line_count k bytes) 0 (omega arith))
      ∙ sym (map-up_to call-of k.max_matches (filter hits-at (enumerate_from 0 all)))

  -- the text of a line
  abbrev pub line-text : ℕ × List ℕ → List ℕ
  line-text one = plain_line t 58 (number_of k one.0) one.1

  alone-text : (one : ℕ × List ℕ) → lines t one.1 ≡ one.1 ∷ []
      → plain-text t (call-of one) ≡ line-text one
  alone-text one alone = ap (plain_lines t 58 (number_of k one.0)) alone
      ∙ append-nil (line-text one)

  pub all-alone : All (λ (one : ℕ × List ℕ). lines t one.1 ≡ one.1 ∷ []) hits-placed
  all-alone = All-up_to (λ one. lines t one.1 ≡ one.1 ∷ []) k.max_matches
      (filter hits-at (enumerate_from 0 all))
      (All-filter hits-at (λ one. lines t one.1 ≡ one.1 ∷ []) (enumerate_from 0 all)
      (All-places (λ line. lines t line ≡ line ∷ []) 0 all (lines-alone t bytes)))

  -- the texts of the matches are those of the lines
  pub hit-texts : flat_map (plain-text t) (hit_matches k meaning bytes)
      ≡ flat_map line-text hits-placed
  hit-texts =
      ap (flat_map (plain-text t)) hits-are
      ∙ (flat_map-map (plain-text t) call-of hits-placed
      ∙ flat_map-agree (λ one. plain-text t (call-of one)) line-text hits-placed
      (All-weaker (λ (one : ℕ × List ℕ). lines t one.1 ≡ one.1 ∷ [])
      (λ one. plain-text t (call-of one) ≡ line-text one) alone-text hits-placed all-alone))

  -- there are as many as lines that hit
  pub length-hits : length (hit_matches k meaning bytes) ≡ length (hit_lines k meaning bytes)
  length-hits = sym (length-map (hit_matches k meaning bytes) reported_bytes)
      ∙ ap length (hits-are_lines k meaning bytes)

  -- the lines that hit, without their places
  pub hits-unplaced : map (λ (one : ℕ × List ℕ). one.1) hits-placed ≡ hit_lines k meaning bytes
  hits-unplaced = map-up_to (λ (one : ℕ × List ℕ). one.1) k.max_matches
      (filter hits-at (enumerate_from 0 all))
      ∙ ap (items_up_to k.max_matches) (filter-places (is_hit k meaning) 0 all)

  -- without numbers the texts are those of the lines alone
  pub unnumbered-texts : k.line_number ≡ false
      → flat_map line-text hits-placed
      ≡ flat_map (λ line. plain_line t 58 None line) (hit_lines k meaning bytes)
  unnumbered-texts none =
      flat_map-agree line-text (λ one. plain_line t 58 None one.1) hits-placed
      (λ i d below. ap (λ b. plain_line t 58
      (if b then Some ((slice_index_or hits-placed i d).0 + 1) else None)
      (slice_index_or hits-placed i d).1) none)
      ∙ (sym (flat_map-map (λ line. plain_line t 58 None line) (λ (one : ℕ × List ℕ). one.1)
      hits-placed)
      ∙ ap (flat_map (λ line. plain_line t 58 None line)) hits-unplaced)
