use Rattle.std.proofs.Common.{◌≡◌, map, take}
use Rattle.regex_hir.specs.Meaning.{meaning}
use Rattle.grep_regex.specs.Alike.{AreAlike}
use Rattle.grep_regex.specs.Patterns.{read_re, ArePatterns, most_groups}
use Rattle.grep_regex.proofs.parse.read_all.Given as goal

abbrev pub invariant-loop-i : goal.invariant-loop-i
invariant-loop-i l = record {
  alike : AreAlike (map meaning l.hirs.items)
      (map (read_re l.options) (map (λ p. p.now) (take l.i l.patterns)));
  read : ArePatterns l.options (map (λ p. p.now) (take l.i l.patterns));
  groups : l.groups ≡ most_groups l.options (map (λ p. p.now) (take l.i l.patterns));
}
