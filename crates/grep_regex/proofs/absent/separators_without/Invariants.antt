use Rattle.std.proofs.Common.{◌≡◌, ◌&&◌, ℕ, not, map, take}
use Rattle.std.specs.List.{list_any}
use Rattle.grep_matcher.specs.ByteSets.{holds}
use Rattle.grep_regex.specs.Clear.{is_among}
use Rattle.grep_regex.specs.Locality.{is_separator}
use Rattle.grep_regex.proofs.absent.separators_without.Given as goal

abbrev pub invariant-loop-i : goal.invariant-loop-i
invariant-loop-i l = (byte : ℕ) → holds l.absent byte ≡ (is_separator byte
    && not (list_any (λ p. is_among p byte) (map (λ p. p.now) (take l.i l.patterns))))
