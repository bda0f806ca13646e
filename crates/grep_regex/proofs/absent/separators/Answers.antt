use Rattle.std.proofs.Common.{◌∙◌, ◌||◌, ◌==◌, ap, sym}
use Rattle.grep_matcher.specs.ByteSets.{holds}
use Rattle.grep_regex.specs.Locality.{is_separator}
use Rattle.grep_regex.proofs.AbsentLoopLemmas.{bound-added, bound-passed}
use Rattle.grep_regex.proofs.absent.separators.Goals as goal
use Rattle.grep_regex.proofs.absent.separators.Goals.{then-is_separator, else-is_separator}

pub loop-byte-preserved : goal.loop-byte-preserved
loop-byte-preserved c = elim c.if-is_separator.branch [
  | then-is_separator w ↦ λ other. ap (λ set. holds set other) w.all-is ∙ (w.add.ensures other
      ∙ (ap (λ t. other == c.loop-byte.byte || t) (c.loop-byte.invariant other)
      ∙ bound-added is_separator c.loop-byte.byte other (sym c.is_separator.ensures ∙ w.if-is_separator.true)))
  | else-is_separator w ↦ λ other. ap (λ set. holds set other) w.all-is ∙ (c.loop-byte.invariant other
      ∙ bound-passed is_separator c.loop-byte.byte other (sym c.is_separator.ensures ∙ w.if-is_separator.false))
]
