-- Which matches were found across lines, and which are still to be found, from one match to the
-- next.
use Rattle.std.proofs.Common.{◌≡◌, ℕ, ◌+◌, ◌-◌, ◌<◌, true, List, [], ◌∷◌, ◌++◌, length, drop, refl}
use Rattle.std.proofs.Common.{sym, ◌∙◌, ap, arith, append_assoc, length-append, length-drop, ap₂}
use Rattle.std.proofs.Common.{Option, Some, None}
use Rattle.std.proofs.lemmas.Bool.Decides.{nat_tests}
use Rattle.std.specs.Option.{option_map}
use Rattle.grep_matcher.specs.Meanings.{Meaning}
use Rattle.grep_matcher.specs.FindResults.{IsWithin}
use Rattle.grep_definitions.specs.Plans.{is_below, IsAskedAfter, match_limit, Settings}
use Rattle.grep_definitions.specs.Plans.{position_after, match_from}
use Rattle.grep_definitions.specs.SuccessiveMatches.{matches_left}
use Rattle.grep_definitions.proofs.SuccessiveMatchLemmas.{matches_left-start, matches_left-found}
use Rattle.grep_definitions.proofs.SuccessiveMatchLemmas.{matches_left-none, matches_left-end}
use Rattle.grep_definitions.proofs.SuccessiveMatchLemmas.{position_past-last, match_from-found}
use Rattle.grep_definitions.proofs.SuccessiveMatchLemmas.{match_from-missed}
use Rattle.grep_walk.specs.declared.blocks.Blocks.{Blocks}
use Rattle.grep_walk.specs.TouchedUnits.{AreFound, IsFound, HasNoMore}

-- what is left of a limit after so many
abbrev left_of : Option ℕ → ℕ → Option ℕ
left_of limit n = option_map (λ l. l - n) limit

left_of-none : (limit : Option ℕ) → limit ≡ left_of limit 0
left_of-none None = refl
left_of-none (Some l) = ap Some (omega arith)

left_of-more : (limit : Option ℕ) (n : ℕ) → option_map (λ l. l - 1) (left_of limit n)
    ≡ left_of limit (n + 1)
left_of-more None n = refl
left_of-more (Some l) n = ap Some (omega arith)

left_of-below : (limit : Option ℕ) (n : ℕ) → is_below 0 (left_of limit n) ≡ true → is_below n limit
    ≡ true
left_of-below None n is = refl
left_of-below (Some l) n is = grind (arith, nat_tests)

module _ (k : Settings) (meaning : Meaning) (bytes : List ℕ) where
  -- none at the start
  pub found-start : AreFound k meaning bytes 0 (match_limit k) []
  found-start = record {
    all = matches_left-start meaning bytes (match_limit k);
    room = left_of-none (match_limit k);
    at = λ some. refl;
  }

  -- one more
  pub found-more : (position : ℕ) (left : Option ℕ) (found : List (ℕ × ℕ)) (m : ℕ × ℕ)
      → AreFound k meaning bytes position left found
      → match_from meaning bytes position ≡ Some m → is_below 0 left ≡ true
      → AreFound k meaning bytes (position_after m) (option_map (λ l. l - 1) left) (found ++ m ∷ [])
  found-more position left found m so_far is room = record {
    all = so_far.all ∙ (ap (λ later. found ++ later)
        (matches_left-found meaning bytes position left m is room)
        ∙ sym (append_assoc found (m ∷ []) (matches_left meaning bytes (position_after m)
        (option_map (λ l. l - 1) left))));
    room = ap (option_map (λ l. l - 1)) so_far.room ∙ (left_of-more (match_limit k) (length found)
        ∙ ap (left_of (match_limit k)) (sym (length-append found (m ∷ []))));
    at = λ some. position_past-last 0 found m;
  }

  -- no more
  pub found-none : (position : ℕ) (left : Option ℕ) (found : List (ℕ × ℕ))
      → AreFound k meaning bytes position left found
      → match_from meaning bytes position ≡ None → AreFound k meaning bytes (length bytes) left
      found
  found-none position left found so_far is = record {
    all = so_far.all ∙ ap (λ later. found ++ later)
        (matches_left-none meaning bytes position left is
        ∙ sym (matches_left-end meaning bytes (length bytes) left (omega arith)));
    room = so_far.room;
    at = λ some. absurd (omega arith);
  }

  -- what is asked for the next match
  pub asked-next : (position : ℕ) (left : Option ℕ) (found : List (ℕ × ℕ))
      → AreFound k meaning bytes position left found
      → position < length bytes → is_below 0 left ≡ true → IsAskedAfter k meaning bytes found
      (drop position bytes)
  asked-next position left found so_far below room = record {
    later = matches_left meaning bytes position left;
    all = so_far.all;
    room = left_of-below (match_limit k) (length found) (rw (← so_far.room) room);
    inside = omega (arith, so_far.at below);
    rest = ap (λ p. drop p bytes) (sym (so_far.at below));
  }

  -- what is known if no match is left
  pub no-more : (b : Blocks) → matches_left meaning bytes b.position b.left ≡ []
      → HasNoMore k meaning bytes b b
  no-more b none = record { left = none; still = none; found = λ found so_far. so_far }

  -- the matcher finds none in the rest of the bytes
  pub no-more-missed : (b : Blocks) → meaning.first (drop b.position bytes) ≡ None
      → HasNoMore k meaning bytes b (record b { position = length bytes })
  no-more-missed b is =
      let missed = match_from-missed meaning bytes b.position is in
      record {
        left = matches_left-none meaning bytes b.position b.left missed;
        still = matches_left-end meaning bytes (length bytes) b.left (omega arith);
        found = λ found so_far. found-none b.position b.left found so_far missed;
      }

  -- it finds one
  pub found-next : (b : Blocks) (m found : ℕ × ℕ) (position : ℕ) (left : Option ℕ) → b.position
      < length bytes → is_below 0 b.left ≡ true
      → meaning.first (drop b.position bytes) ≡ Some m → IsWithin (drop b.position bytes) (Some m)
      → found ≡ (m.0 + b.position, m.1 + b.position) → position ≡ position_after found → left
      ≡ option_map (λ l. l - 1) b.left
      → IsFound k meaning bytes b (record b { position = position; left = left }) found
  found-next b m found position left below room is inside at position_is left_is =
      let start : found.0 ≡ m.0 + b.position = ap (λ x. x.0) at in
      let end : found.1 ≡ m.1 + b.position = ap (λ x. x.1) at in
      let sums : found ≡ (b.position + m.0, b.position + m.1) =
      at ∙ ap₂ (λ x y. (x, y)) (omega arith) (omega arith) in
      let next = match_from-found meaning bytes b.position m below inside is ∙ ap Some (sym sums) in
      record {
        after = omega arith;
        ordered = omega arith;
        within = omega (arith, length-drop b.position bytes);
        inside = below;
        position = position_is;
        left = rw (position_is, left_is) (matches_left-found meaning bytes b.position b.left found
            next room);
        found = λ asked so_far. rw (position_is, left_is)
            (found-more b.position b.left asked found so_far next room);
      }
