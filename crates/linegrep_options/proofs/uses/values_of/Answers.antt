use Rattle.std.proofs.Common.{sym, ◌∙◌}
use Rattle.linegrep_options.specs.OptionUses.{values_of}
use Rattle.linegrep_options.proofs.UseLemmas.{values-end, values-none, values-some}
use Rattle.linegrep_options.proofs.uses.values_of.Goals as goal
use Rattle.linegrep_options.proofs.uses.values_of.Goals.{in-Some+in_ok-push, in_default}

pub loop-one-preserved : goal.loop-one-preserved
loop-one-preserved c =
    let uses = c.args.uses.now in
    let loop = c.loop-one in
    let whole = values_of c.args.option uses in
    elim c.match-value_for.branch [
      | in-Some+in_ok-push w ↦ rw (w.values-is, w.in_ok-push.ensures.items)
          (values-some c.args.option uses loop.one-index _ loop.values.items whole w.in-Some.value
          c.loop-one-test.true (sym c.value_for.ensures ∙ w.in-Some.is) loop.invariant)
      | in_default w ↦ rw w.values-is
          (values-none c.args.option uses loop.one-index _ loop.values.items whole
          c.loop-one-test.true (sym c.value_for.ensures ∙ w.in_default.is) loop.invariant)
    ]

pub returns : goal.returns
returns c = values-end c.args.option c.args.uses.now c.loop-one.one-index c.loop-one.values.items
    (values_of c.args.option c.args.uses.now) c.loop-one-test.false c.loop-one.invariant
