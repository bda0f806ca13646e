use Rattle.std.proofs.Common.{◌≡◌, ◌+◌, sym, ap, ◌∙◌, slice_index, drop, get_or-drop}
use Rattle.std.proofs.Common.{None, Some, refl, option_map, ◌==◌, eqb-true}
use Rattle.grep_replace.specs.Templates.{name_at, reference_at}
use Rattle.grep_replace.proofs.template.reference_at.Goals as goal

pub returns-then-not-begins_with-clause-value : goal.returns-then-not-begins_with-clause-value
unfolding reference_at
returns-then-not-begins_with-clause-value c =
    rw (reference_at, ← c.if-not-begins_with.ensures.value) refl

pub returns-then-begins_with-clause-value : goal.returns-then-begins_with-clause-value
unfolding reference_at
returns-then-begins_with-clause-value c =
    let second = get_or-drop 1 c.args.text.now 0 0 in
    rw (
      reference_at,
      ← c.if-not-begins_with.ensures.value,
      ← second,
      ← c.after-rest.ensures,
      ← c.if-begins_with.ensures.value,
    ) refl

pub returns-in-Some-clause-value : goal.returns-in-Some-clause-value
unfolding reference_at
returns-in-Some-clause-value c =
    let second = get_or-drop 1 c.args.text.now 0 0 in
    rw (
      reference_at,
      ← c.if-not-begins_with.ensures.value,
      ← second,
      ← c.after-rest.ensures,
      ← c.if-begins_with.ensures.value,
      ← c.in-Some.ensures.value,
    ) refl

pub returns-in-None-clause-value : goal.returns-in-None-clause-value
unfolding reference_at
returns-in-None-clause-value c =
    let second = get_or-drop 1 c.args.text.now 0 0 in
    rw (
      reference_at,
      ← c.if-not-begins_with.ensures.value,
      ← second,
      ← c.after-rest.ensures,
      ← c.if-begins_with.ensures.value,
      ← c.name_at.ensures.value,
      c.in-None.is,
    ) refl
