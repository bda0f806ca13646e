use Rattle.grep_regex.proofs.OptionsLemmas.{same-bool, same-syntax}
use Rattle.grep_regex.proofs.options.Options.is_same_syntax.Goals as goal

pub returns : goal.returns
returns c = λ yes. same-syntax c.args.self.now c.args.other.now
    (same-bool _ _ c.if-self-other.false)
    (same-bool _ _ c.if-self-other-2.false)
    (same-bool _ _ c.if-self-other-3.false)
    (same-bool _ _ c.if-self-other-4.false)
    (same-bool _ _ c.if-self-other-5.false)
    c.if-self-other-6.false
