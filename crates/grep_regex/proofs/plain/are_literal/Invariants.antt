use Rattle.std.proofs.Common.{◌≡◌, map, take, true}
use Rattle.std.specs.List.{list_all}
use Rattle.regex_hir.specs.Re.{literal}
use Rattle.grep_regex.specs.AbsentBytes.{is_plain}
use Rattle.grep_regex.specs.Alike.{AreAlike}
use Rattle.grep_regex.specs.Patterns.{read_re}
use Rattle.grep_regex.proofs.plain.are_literal.Given as goal

abbrev pub invariant-loop-i : goal.invariant-loop-i
invariant-loop-i l = record {
  plain : list_all (is_plain l.options) (map (λ p. p.now) (take l.i l.patterns)) ≡ true;
  alike : AreAlike (map (read_re l.options) (map (λ p. p.now) (take l.i l.patterns)))
      (map literal (map (λ p. p.now) (take l.i l.patterns)));
}
