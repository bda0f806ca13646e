-- What a matcher that finds an empty match at each position finds from positions on are first
-- matches.
use Rattle.std.proofs.Common.{◌≡◌, ◌≤◌, ℕ, List, Some, ap, arith, length, refl}
use Rattle.grep_matcher.specs.FirstMatches.{AreFirstMatches}

pub empty-matches : (haystack : List ℕ)
    → AreFirstMatches haystack (Some (0, 0)) (λ start. Some (start, start))
empty-matches haystack = record {
  whole = refl;
  within = λ start inside. (omega arith, (omega arith, inside));
  same = λ start later after inside passed.
      let equal : later ≡ start = omega (arith, after, passed) in
      ap (λ (n : ℕ). Some (n, n)) equal;
}
