use Rattle.std.proofs.Common.{sym, ◌∙◌}
use Rattle.linegrep_options.specs.OptionUses.{places_of}
use Rattle.linegrep_options.proofs.UseLemmas.{places-end, places-other, places-same}
use Rattle.linegrep_options.proofs.uses.places_of.Goals as goal
use Rattle.linegrep_options.proofs.uses.places_of.Goals.{then-is_same+in_ok-push, else-is_same}

pub loop-at-preserved : goal.loop-at-preserved
loop-at-preserved c =
    let uses = c.args.uses.now in
    let loop = c.loop-at in
    let whole = places_of c.args.option 1 uses in
    elim c.if-is_same.branch [
      | then-is_same+in_ok-push w ↦ rw (w.places-is, w.in_ok-push.ensures.items)
          (places-same c.args.option uses loop.at _ loop.places.items whole
          c.loop-at-test.true (sym c.is_same.ensures ∙ w.if-is_same.true) loop.invariant)
      | else-is_same w ↦ rw w.places-is
          (places-other c.args.option uses loop.at _ loop.places.items whole
          c.loop-at-test.true (sym c.is_same.ensures ∙ w.if-is_same.false) loop.invariant)
    ]

pub returns : goal.returns
returns c = places-end c.args.option c.args.uses.now c.loop-at.at c.loop-at.places.items
    (places_of c.args.option 1 c.args.uses.now) c.loop-at-test.false c.loop-at.invariant
