use Rattle.grep_regex.proofs.builder.RegexMatcherBuilder.build_literals.Goals as goal

pub returns : goal.returns
returns c = rw (← c.self.view_is) (record {
  options = c.compile.ensures.options;
  patterns = c.compile.ensures.patterns;
  accepted = c.compile.ensures.accepted;
  sized = c.compile.ensures.sized;
  error = c.compile.ensures.error;
})
