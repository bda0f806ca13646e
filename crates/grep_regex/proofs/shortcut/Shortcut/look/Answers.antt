use Rattle.grep_regex.proofs.SpelledLemmas.{literal-answers}
use Rattle.grep_regex.proofs.shortcut.Shortcut.look.Goals as goal

pub returns-in-Some : goal.returns-in-Some
returns-in-Some c =
    let s = c.args.self.now in (
      literal-answers s.regex.now s.literal c.in-Some.literal c.args.haystack.now c.args.start c.args.asked
          c.occurrence.result s.spelled c.in-Some.is (λ k. (c.type_inv.haystack k).fits) c.requires
          c.occurrence.ensures.value,
      c.occurrence.ensures.within,
    )
