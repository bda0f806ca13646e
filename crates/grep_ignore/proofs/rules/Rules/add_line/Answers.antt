use Rattle.std.proofs.Common.{[], ◌∙◌, sym, refl, inr, subst}
use Rattle.std.proofs.lemmas.List.{append-nil}
use Rattle.grep_ignore.specs.Globs.{OnMalformed}
use Rattle.grep_ignore.specs.Lines.{IsMisread}
use Rattle.grep_ignore.proofs.rules.Rules.add_line.Goals as goal

pub returns-in-Ok-push : goal.returns-in-Ok-push
returns-in-Ok-push c = (
  [],
  _,
  c.in-Err-Malformed.ensures.err.0 ∙ sym (append-nil c.args.self.now),
  c.in-Ok-push.ensures.items,
  inr (
    subst (λ e. OnMalformed e (IsMisread c.args.ignores_case c.args.line.now))
        c.in-Err-Malformed.field-0-is c.in-Err-Malformed.ensures.err.1,
    refl,
    (_, refl, refl),
  ),
)
