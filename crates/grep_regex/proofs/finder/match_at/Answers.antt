use Rattle.std.proofs.Common.{◌∙◌, Some, ap, subst, sym}
use Rattle.grep_matcher.specs.FindResults.{Avoids, IsFrom}
use Rattle.grep_regex.specs.Views.{regex_meaning}
use Rattle.grep_regex.proofs.TrustLemmas.{avoids-of}
use Rattle.grep_regex.proofs.finder.match_at.Goals as goal

pub returns-in-Ok-None : goal.returns-in-Ok-None
returns-in-Ok-None g c = record {
  value = sym c.in-Ok-None.field-0-is ∙ c.in-Ok-None.ensures.value;
  within = (tt, tt);
  avoids = tt;
}

pub returns-in-Ok-Some : goal.returns-in-Ok-Some
returns-in-Ok-Some g c =
    let r = c.args.shortcut.now.regex.now in
    let found = c.in-Ok-Some.field-0-is ∙ ap Some (sym c.new.ensures) in
    record {
      value = sym found ∙ c.in-Ok-Some.ensures.value;
      within = subst (IsFrom c.args.start c.args.haystack.now) found c.in-Ok-Some.ensures.within;
      avoids = subst (Avoids (regex_meaning r).absent c.args.haystack.now)
          (sym c.in-Ok-Some.ensures.value ∙ found)
          (avoids-of r c.args.haystack.now c.args.start (λ k. (c.type_inv.haystack k).fits));
    }
