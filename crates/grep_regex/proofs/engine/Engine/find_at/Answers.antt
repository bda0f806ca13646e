use Rattle.std.proofs.Common.{◌∙◌, refl, sym, subst}
use Rattle.grep_matcher.specs.FindResults.{IsFrom}
use Rattle.grep_regex.proofs.EngineLemmas.{engine-finds, engine-decision, first-answers}
use Rattle.grep_regex.specs.PatternFirstMatches.{text-within}
use Rattle.grep_regex.specs.Views.{regex_options, regex_patterns}
use Rattle.grep_regex.proofs.engine.Engine.find_at.Goals as goal

pub returns-in_default : goal.returns-in_default
returns-in_default c =
    let r = c.args.self.now.regex.now in
    let found = c.find.ensures.found
    ∙ engine-finds _ r c.args.haystack.now c.args.start c.args.self.now.same
    (λ k. (c.type_inv.haystack k).fits) c.requires in
    record {
      value = first-answers c.args.asked _ _ found;
      within = subst (IsFrom c.args.start c.args.haystack.now) (sym found)
          (text-within (regex_options r) (regex_patterns r) c.args.haystack.now c.args.start);
      same = refl;
    }

pub returns-then-is_match-clause-value : goal.returns-then-is_match-clause-value
returns-then-is_match-clause-value c = rw c.in-AnyMatch.is (sym c.if-is_match.true ∙ (c.is_match.ensures.found
    ∙ engine-decision _ c.args.self.now.regex.now c.args.haystack.now c.args.start c.args.self.now.same
    (λ k. (c.type_inv.haystack k).fits) c.requires))

pub returns-else-is_match-clause-value : goal.returns-else-is_match-clause-value
returns-else-is_match-clause-value c = rw c.in-AnyMatch.is (sym c.if-is_match.false ∙ (c.is_match.ensures.found
    ∙ engine-decision _ c.args.self.now.regex.now c.args.haystack.now c.args.start c.args.self.now.same
    (λ k. (c.type_inv.haystack k).fits) c.requires))
