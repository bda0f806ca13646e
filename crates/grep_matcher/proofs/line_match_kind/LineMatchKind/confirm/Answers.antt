use Rattle.std.proofs.Common.{refl}
use Rattle.grep_matcher.proofs.LineMatchLemmas.{trusted-by-line}
use Rattle.grep_matcher.proofs.line_match_kind.LineMatchKind.confirm.Goals as goal

pub returns-in-Some : goal.returns-in-Some
returns-in-Some c = record {
  value = rw (c.in-Some.is, c.end.ensures.value) refl;
  inside = λ haystack within. rw c.end.ensures.value (rw c.in-Some.is at within).1;
  trusted = λ meaning haystack is within. rw c.end.ensures.value
      (rw c.in-Some.is at (trusted-by-line meaning haystack c.args.found is within));
}

pub returns-in-None : goal.returns-in-None
returns-in-None c = record {
  value = rw c.in-None.is refl;
  inside = λ haystack within. tt;
  trusted = λ meaning haystack is within.
      rw c.in-None.is at (trusted-by-line meaning haystack c.args.found is within);
}
