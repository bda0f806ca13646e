use Rattle.std.proofs.Common.{◌≡◌, ◌+◌, ◌<◌, ◌==◌, ◌&&◌, nat_lt, ap, refl, sym, ◌∙◌, lt-ltb, arith}
use Rattle.std.proofs.Common.{take, drop, get_or-drop, slice_index, false, length}
use Rattle.std.proofs.lemmas.List.Sums.{prefix_len-le-length}
use Rattle.regex.proofs.TemplateLemmas.{name_is_text}
use Rattle.regex.specs.Templates.{is_name_byte}
use Rattle.grep_replace.proofs.TemplateLemmas.{after-name}
use Rattle.grep_replace.specs.Templates.{name_at}
use Rattle.grep_replace.proofs.template.braced_name.Goals.{
  then-len-eq0-via-then-len-eq0,
  then-len-eq0-via-else-len-eq0+then-not-begins_with,
}
use Rattle.grep_replace.proofs.template.braced_name.Goals as goal

pub after-requires : goal.after-requires
after-requires c = omega (arith, c.name_len-len.ensures, prefix_len-le-length is_name_byte c.after-inside.result.now)

pub returns-then-len-eq0-clause-value : goal.returns-then-len-eq0-clause-value
unfolding name_at
returns-then-len-eq0-clause-value c =
    elim c.then-len-eq0.branch [
      | then-len-eq0-via-then-len-eq0 w ↦
          rw (name_at, c.requires.braced, ← c.after-inside.ensures, ← c.name_len-len.ensures, w.if-len-eq0.true) refl
      | then-len-eq0-via-else-len-eq0+then-not-begins_with w ↦
          let some : 0 < c.name_len-len.result = omega (arith, w.if-len-eq0.false) in
          rw (
            name_at,
            c.requires.braced,
            ← c.after-inside.ensures,
            ← c.name_len-len.ensures,
            lt-ltb _ _ some,
            after-name c.args.rest.now c.after-inside.result.now w.after.result.now c.name_len-len.result
                c.after-inside.ensures w.after.ensures,
            ← w.if-not-begins_with.ensures.value,
          ) refl
    ]

pub returns-in-Ok-clause-value : goal.returns-in-Ok-clause-value
unfolding name_at
returns-in-Ok-clause-value c =
    let some : 0 < c.name_len-len.result = omega (arith, c.if-len-eq0.false) in
    rw (
      c.in-Ok.ensures.cases.0,
      name_at,
      c.requires.braced,
      ← c.after-inside.ensures,
      ← c.name_len-len.ensures,
      lt-ltb _ _ some,
      after-name c.args.rest.now c.after-inside.result.now c.after.result.now c.name_len-len.result
          c.after-inside.ensures c.after.ensures,
      ← c.if-not-begins_with.ensures.value,
    ) refl

pub returns-in-Err-clause-value : goal.returns-in-Err-clause-value
unfolding name_at
returns-in-Err-clause-value c =
    let broken = rw c.in-Err.is at c.from_utf8.ensures.cases in
    absurd (broken.0 (rw c.name_len-len.ensures (name_is_text c.after-inside.result.now)))
