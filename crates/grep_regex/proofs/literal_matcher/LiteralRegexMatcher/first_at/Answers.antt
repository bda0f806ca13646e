use Rattle.std.proofs.Common.{◌∙◌, Some, ap, refl, sym}
use Rattle.grep_regex.specs.Views.{regex_text_at}
use Rattle.grep_regex.proofs.SpelledLemmas.{literal-first}
use Rattle.grep_regex.proofs.literal_matcher.LiteralRegexMatcher.first_at.Goals as goal

pub returns : goal.returns
returns c =
    let m = c.args.self.now in
    let r = m.regex.now in
    let hay = c.args.haystack.now in
    let start = c.args.start in
    record {
      value = c.occurrence.ensures.value
          ∙ (literal-first r (Some m.literal) m.literal hay start m.spelled refl (λ k. (c.type_inv.haystack k).fits) c.requires
          ∙ ap (λ text. regex_text_at r text start) (sym (m.sees_all hay)));
      within = c.occurrence.ensures.within;
    }
