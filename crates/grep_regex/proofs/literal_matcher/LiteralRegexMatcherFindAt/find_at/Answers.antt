use Rattle.std.proofs.Common.{◌∙◌, Some, ap, subst, sym}
use Rattle.grep_matcher.specs.FindResults.{Avoids, IsFrom}
use Rattle.grep_regex.specs.Views.{regex_meaning}
use Rattle.grep_regex.proofs.TrustLemmas.{avoids-of}
use Rattle.grep_regex.proofs.literal_matcher.LiteralRegexMatcherFindAt.find_at.Goals as goal

pub returns-in-Some : goal.returns-in-Some
returns-in-Some c =
    let r = c.args.self.now.regex.now in
    let found = c.in-Some.is ∙ ap Some (sym c.new.ensures) in
    record {
      value = sym found ∙ c.first_at.ensures.value;
      within = subst (IsFrom c.args.start c.args.haystack.now) found c.first_at.ensures.within;
      avoids = subst (Avoids (regex_meaning r).absent c.args.haystack.now)
          (sym c.first_at.ensures.value ∙ found)
          (avoids-of r c.args.haystack.now c.args.start (λ k. (c.type_inv.haystack k).fits));
      error = tt;
    }
