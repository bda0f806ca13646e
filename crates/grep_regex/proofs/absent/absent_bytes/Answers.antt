use Rattle.std.proofs.Common.{◌∙◌, map, sym}
use Rattle.grep_regex.proofs.AbsentLemmas.{absent-of-nul, absent-of-plain, absent-of-unplain, avoids-nul, avoids-plain}
use Rattle.grep_regex.proofs.AbsentLemmas.{avoids-unplain}
use Rattle.grep_regex.proofs.absent.absent_bytes.Goals as goal

pub returns-then-is_nul-clause-value : goal.returns-then-is_nul-clause-value
returns-then-is_nul-clause-value c = λ byte. absent-of-nul c.args.options.now
    (map (λ p. p.now) c.args.patterns.now) byte (sym c.is_nul.ensures ∙ c.if-is_nul.true) ∙ sym (c.nul.ensures byte)

pub returns-then-is_nul-clause-avoids : goal.returns-then-is_nul-clause-avoids
returns-then-is_nul-clause-avoids c = avoids-nul c.args.options.now
    (map (λ p. p.now) c.args.patterns.now) (sym c.is_nul.ensures ∙ c.if-is_nul.true)

pub returns-then-not-are_plain-clause-value : goal.returns-then-not-are_plain-clause-value
returns-then-not-are_plain-clause-value c = λ byte. absent-of-unplain c.args.options.now
    (map (λ p. p.now) c.args.patterns.now) byte (sym c.is_nul.ensures ∙ c.if-is_nul.false)
    (sym c.are_plain.ensures.value ∙ c.if-not-are_plain.true)

pub returns-then-not-are_plain-clause-avoids : goal.returns-then-not-are_plain-clause-avoids
returns-then-not-are_plain-clause-avoids c = avoids-unplain c.args.options.now
    (map (λ p. p.now) c.args.patterns.now) (sym c.is_nul.ensures ∙ c.if-is_nul.false)
    (sym c.are_plain.ensures.value ∙ c.if-not-are_plain.true)

pub returns-clause-value : goal.returns-clause-value
returns-clause-value c = λ byte. absent-of-plain c.args.options.now (map (λ p. p.now) c.args.patterns.now) byte
    (sym c.are_plain.ensures.value ∙ c.if-not-are_plain.false) ∙ sym (c.separators_without.ensures byte)

pub returns-clause-avoids : goal.returns-clause-avoids
returns-clause-avoids c = avoids-plain c.args.options.now (map (λ p. p.now) c.args.patterns.now)
    (c.are_plain.ensures.read c.if-not-are_plain.false) (sym c.are_plain.ensures.value ∙ c.if-not-are_plain.false)
