use Rattle.std.proofs.Common.{ap, inl, inr, subst, sym}
use Rattle.linegrep_cli.specs.TemplateOptions.{IsTemplate}
use Rattle.grep_regex.specs.Views.{regex_first_at, regex_groups_at, regex_meaning}
use Rattle.linegrep_cli.proofs.search.search_named.Goals as goal

pub returns-in-Some : goal.returns-in-Some
returns-in-Some g c = inr (inl (record {
  matcher = _;
  is_matcher = record {
    meaning = ap regex_meaning c.in-Some.ensures.regex;
    first = ap regex_first_at c.in-Some.ensures.regex;
    trusted = λ terminator. tt;
  };
  template = c.search.ensures.0;
  is_template = subst (IsTemplate c.args.options.now c.args.regex.now) (sym c.search.ensures.1) c.requires.template;
  groups = ap regex_groups_at c.in-Some.ensures.regex;
  run = c.search.ensures.2;
}))

pub returns-in-Ok : goal.returns-in-Ok
returns-in-Ok g c = inr (inr (record {
  matcher = _;
  is_matcher = record {
    meaning = ap regex_meaning c.in-Ok.ensures;
    first = ap regex_first_at c.in-Ok.ensures;
    trusted = λ terminator. tt;
  };
  template = c.search-in-Ok.ensures.0;
  is_template = subst (IsTemplate c.args.options.now c.args.regex.now) (sym c.search-in-Ok.ensures.1)
      c.requires.template;
  groups = ap regex_groups_at c.in-Ok.ensures;
  run = c.search-in-Ok.ensures.2;
}))
