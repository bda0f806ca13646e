use Rattle.std.proofs.Common.{◌∙◌, ◌||◌, ◌==◌, ap, arith, sym}
use Rattle.regex_class.specs.Ranges.{in_ranges}
use Rattle.grep_matcher.specs.ByteSets.{holds}
use Rattle.grep_regex.proofs.AbsentLoopLemmas.{bound-added, bound-passed}
use Rattle.grep_regex.proofs.RunLemmas.{below-bound}
use Rattle.grep_regex.proofs.class_tree.ascii_set.Goals as goal
use Rattle.grep_regex.proofs.class_tree.ascii_set.Goals.{then-contains, else-contains}

pub loop-byte-preserved : goal.loop-byte-preserved
loop-byte-preserved c =
    let members = in_ranges c.args.class.now.ranges.items in
    elim c.if-contains.branch [
      | then-contains w ↦ λ other. ap (λ set. holds set other) w.set-is ∙ (w.add.ensures other
          ∙ (ap (λ t. other == c.loop-byte.byte || t) (c.loop-byte.invariant other)
          ∙ bound-added members c.loop-byte.byte other
          (ap members (sym c.from.ensures) ∙ (sym c.contains.ensures ∙ w.if-contains.true))))
      | else-contains w ↦ λ other. ap (λ set. holds set other) w.set-is ∙ (c.loop-byte.invariant other
          ∙ bound-passed members c.loop-byte.byte other
          (ap members (sym c.from.ensures) ∙ (sym c.contains.ensures ∙ w.if-contains.false)))
    ]

pub returns : goal.returns
returns c = λ other low. c.loop-byte.invariant other
    ∙ below-bound (in_ranges c.args.class.now.ranges.items other) other c.loop-byte.byte
    (omega (arith, low, c.loop-byte-test.false))
