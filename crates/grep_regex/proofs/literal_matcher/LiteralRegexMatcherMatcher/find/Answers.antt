use Rattle.std.proofs.lemmas.Result.{IfOk-weaker}
use Rattle.grep_matcher.specs.FindResults.{IsFrom, IsWithin}
use Rattle.grep_regex.proofs.literal_matcher.LiteralRegexMatcherMatcher.find.Goals as goal

pub returns : goal.returns
returns c = record {
  value = c.find_at.ensures.value;
  within = IfOk-weaker c.find_at.result (IsFrom 0 c.args.haystack.now) (IsWithin c.args.haystack.now)
      (λ found from. from.1) c.find_at.ensures.within;
  avoids = c.find_at.ensures.avoids;
  error = c.find_at.ensures.error;
}
