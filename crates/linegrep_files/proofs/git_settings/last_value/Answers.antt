use Rattle.std.proofs.Common.{◌≡◌, ◌∙◌, ap, false, fold, map, rules, sym, tests}
use Rattle.std.proofs.lemmas.Iterator.Consumers.{YieldsList-end}
use Rattle.std.proofs.lemmas.Iterator.Splits.{YieldsList-from_slice_split}
use Rattle.std.specs.Option.{option_copied, option_or}
use Rattle.linegrep_files.specs.GitSettings.{is_core_at, is_plain, last_value, value_at}
use Rattle.linegrep_files.proofs.GitSettingLemmas.{core-more, last-more, or-copied}
use Rattle.linegrep_files.proofs.git_settings.last_value.Goals as goal

pub loop-line-preserved : goal.loop-line-preserved
loop-line-preserved c =
    let lines = c.loop-line.yielded in
    let core : c.is_core_at-is_core.result
    ≡ is_core_at (fold is_core_at false (map (λ x. x.now) lines)) c.in-Some.line.now =
    c.is_core_at-is_core.ensures ∙ ap (λ b. is_core_at b c.in-Some.line.now) c.loop-line.invariant.core in
    record {
      core = core ∙ sym (core-more lines c.in-Some.line);
      last = ap option_copied c.or-last.ensures ∙ or-copied c.value_at.result c.loop-line.last
          ∙ ap (option_or (option_copied c.value_at.result)) c.loop-line.invariant.last
          ∙ ap (λ o. option_or o (last_value false (map (λ x. x.now) lines)))
          (c.value_at.ensures ∙ ap (λ b. value_at b c.in-Some.line.now) core)
          ∙ sym (last-more lines c.in-Some.line);
    }

pub returns : goal.returns
returns c =
    let all = YieldsList-end (YieldsList-from_slice_split _ (is_plain 10) c.args.pieces.now (cc) (cc) (cc)
    (λ x b q k. search (rules, tests))) c.loop-line.yielded _ c.loop-line.yielded_by _ _ c.in-None.is
    c.next.ensures.steps in
    c.loop-line.invariant.last ∙ ap (last_value false) all.0
