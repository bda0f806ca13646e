use Rattle.std.proofs.Common.{◌∙◌, inl, inr, sym, true≢false}
use Rattle.linegrep_cli.proofs.search.search_all.Goals as goal

pub returns-in-Ok : goal.returns-in-Ok
returns-in-Ok g c = elim c.search_named.ensures [
  | inl (failure, uncaused, refused) ↦ inl (record {
    failure = failure;
    refused = refused;
    caused = λ is. absurd (true≢false (sym is ∙ uncaused));
  })
  | inr run ↦ inr (record {
    regex = c.in-Ok.regex;
    has_options = c.in-Ok.ensures.options;
    has_patterns = c.in-Ok.ensures.patterns;
    sized = c.in-Ok.ensures.sized;
    run = run;
  })
]

pub returns-in-Err : goal.returns-in-Err
returns-in-Err g c = inl (record {
  failure = c.in-Err.failure;
  refused = c.refused.ensures;
  caused = c.in-Err.ensures.refused;
})
