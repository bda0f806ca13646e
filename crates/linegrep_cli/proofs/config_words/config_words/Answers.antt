use Rattle.std.proofs.Common.{◌∙◌, ◌++◌, ◌∷◌, [], ◌==◌, ap, filter, map, rules, sym, tests}
use Rattle.std.proofs.lemmas.Iterator.Consumers.{YieldsList-end}
use Rattle.std.proofs.lemmas.Iterator.Splits.{YieldsList-from_slice_split}
use Rattle.linegrep_cli.specs.ConfigWords.{is_argument, trimmed}
use Rattle.linegrep_cli.proofs.ConfigLemmas.{lines-more}
use Rattle.linegrep_cli.proofs.config_words.config_words.Goals as goal

pub loop-line-preserved : goal.loop-line-preserved
loop-line-preserved c =
    let lines = c.loop-line.yielded in
    rw c.trimmed.ensures at c.in_ok-add_line.ensures
    ∙ ap (λ words. words ++ filter is_argument (trimmed c.in-Some.line.now ∷ [])) c.loop-line.invariant
    ∙ sym (lines-more lines c.in-Some.line)

pub returns : goal.returns
returns c =
    let all = YieldsList-end (YieldsList-from_slice_split _ (λ byte. byte == 10) c.args.contents.now (cc) (cc) (cc)
    (λ x b q k. search (rules, tests))) c.loop-line.yielded _ c.loop-line.yielded_by _ _ c.in-None.is
    c.next.ensures.steps in
    c.loop-line.invariant ∙ ap (λ lines. filter is_argument (map trimmed lines)) all.0
