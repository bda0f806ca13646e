-- The matches of long lines.
use Rattle.std.proofs.Common.{ℕ, List, None, Option, Some, arith, if◌then◌else◌, length, refl}
use Rattle.std.specs.Prelude.{◌&&◌, nat_eq, nat_lt}
use Rattle.grep_matcher.specs.FirstMatches.{AreFirstMatches}

-- a haystack of more than 80 bytes has one match, which is empty and at its start
abbrev pub long_at : List ℕ → ℕ → Option (ℕ × ℕ)
long_at haystack start = if nat_eq start 0 && nat_lt 80 (length haystack) then Some (0, 0) else None

pub long-first : (haystack : List ℕ) → AreFirstMatches haystack (long_at haystack 0) (long_at haystack)
long-first haystack = record {
  whole = refl;
  within = λ start inside. grind (arith, inside);
  same = λ start later after inside passed. grind (arith, after, passed);
}
