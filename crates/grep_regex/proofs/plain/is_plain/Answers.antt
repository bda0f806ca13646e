use Rattle.std.proofs.Common.{◌∙◌, ap, sym, not, refl}
use Rattle.grep_regex.proofs.PlainLemmas.{reads-plain}
use Rattle.grep_regex.proofs.plain.is_plain.Goals as goal

pub returns-then-options-clause-read : goal.returns-then-options-clause-read
returns-then-options-clause-read c = λ fixed exact.
    reads-plain c.args.options.now c.args.pattern.now c.utf8.pattern (rw fixed refl) exact

pub returns-then-not-options-clause-read : goal.returns-then-not-options-clause-read
returns-then-not-options-clause-read c = λ own exact.
    reads-plain c.args.options.now c.args.pattern.now c.utf8.pattern
    (rw (c.if-options.false, c.if-not-options.true) (ap not (sym c.has_meta_character.ensures) ∙ own)) exact
