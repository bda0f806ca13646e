use Rattle.std.proofs.Common.{◌≡◌, refl, sym, ◌∙◌, lt-ltb, ◌<◌, arith, take}
use Rattle.regex.proofs.TemplateLemmas.{name_is_text}
use Rattle.grep_replace.specs.Templates.{name_at}
use Rattle.grep_replace.proofs.template.name_at.Goals as goal

pub returns-then-len-eq0-clause-value : goal.returns-then-len-eq0-clause-value
unfolding name_at
returns-then-len-eq0-clause-value c =
    rw (name_at, ← c.if-begins_with.ensures.value, ← c.name_len-len.ensures, c.if-len-eq0.true) refl

pub returns-in-Ok-clause-value : goal.returns-in-Ok-clause-value
unfolding name_at
returns-in-Ok-clause-value c =
    let some : 0 < c.name_len-len.result = omega arith in
    rw (
      c.in-Ok.ensures.cases.0,
      name_at,
      ← c.if-begins_with.ensures.value,
      ← c.name_len-len.ensures,
      lt-ltb _ _ some,
    ) refl

pub returns-in-Err-clause-value : goal.returns-in-Err-clause-value
unfolding name_at
returns-in-Err-clause-value c =
    let broken = rw c.in-Err.is at c.from_utf8.ensures.cases in
    absurd (broken.0 (rw c.name_len-len.ensures (name_is_text c.args.rest.now)))
