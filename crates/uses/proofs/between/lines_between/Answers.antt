use Rattle.std.proofs.Common.{◌≡◌, true, List, [], ◌∷◌, filter, refl, ap, arith, ◌∙◌}
use Rattle.std.proofs.lemmas.Grind.{common_steps}
use Rattle.grep_searcher.specs.Lines.{lines}
use Rattle.uses.proofs.between.lines_between.Goals as goal

every-item : {X : Type 0} (items : List X) → filter (λ item. true) items ≡ items
every-item [] = refl
every-item (item ∷ items) = ap (λ later. item ∷ later) (every-item items)

pub returns-clause-text : goal.returns-clause-text
returns-clause-text c =
    let all = c.in_ok-lines.ensures.lines (λ _. tt) ∙ every-item (lines 10 c.args.bytes.now) in
    grind (arith, common_steps, all, c.loop-line.invariant.1, c.deref-line-items.ensures.value, c.loop-line-test.false)
