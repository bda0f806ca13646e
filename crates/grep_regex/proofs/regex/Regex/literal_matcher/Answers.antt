use Rattle.std.proofs.Common.{refl}
use Rattle.grep_regex.proofs.regex.Regex.literal_matcher.Goals as goal

pub invariant_of-result-clause-has_one_group : goal.invariant_of-result-clause-has_one_group
invariant_of-result-clause-has_one_group c = ∣ c.if-not-has_one_group.ensures refl ∣₁
