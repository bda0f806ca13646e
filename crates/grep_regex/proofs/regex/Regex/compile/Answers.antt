use Rattle.std.proofs.Common.{◌≡◌, ◌∙◌, ℕ, true, subst, sym}
use Rattle.regex_hir.specs.Meaning.{meaning}
use Rattle.grep_matcher.specs.FindResults.{holds_if_some}
use Rattle.grep_regex.specs.AbsentBytes.{is_absent}
use Rattle.grep_regex.specs.Patterns.{AvoidsAbsent, FindsAs, FindsSpans}
use Rattle.grep_regex.specs.Programs.{capturing_program}
use Rattle.grep_regex.specs.Sizes.{AreSized}
use Rattle.grep_regex.proofs.regex.Regex.compile.Goals as goal

pub invariant_of-shared : goal.invariant_of-shared
invariant_of-shared c =
    let o = c.args.options in
    let texts = sym c.in_ok-patterns.ensures in
    let programs = c.in-Ok.programs in
    record {
      lacks = ∣ subst (λ p. (byte : ℕ) → is_absent o p byte ≡ holds_if_some c.absent_bytes-absent.result byte) texts
          c.absent_bytes-absent.ensures.value ∣₁;
      avoids = ∣ subst (AvoidsAbsent o) texts c.absent_bytes-absent.ensures.avoids ∣₁;
      finds = ∣ subst (λ p. FindsSpans o p (meaning programs.finding.hir)) texts c.in-Ok.ensures.finds ∣₁;
      captures = ∣ subst (λ p. FindsAs o p (meaning (capturing_program programs).hir)) texts c.in-Ok.ensures.captures ∣₁;
      confirms = ∣ c.confirms-by_line.ensures.local ∣₁;
      strips = ∣ (λ yes none. subst (λ p. is_absent o p 13 ≡ true) texts
          (c.absent_bytes-absent.ensures.value 13 ∙ c.confirms-by_line.ensures.strips yes none)) ∣₁;
      sized = ∣ subst (λ p. AreSized o p programs) texts c.in-Ok.ensures.sized ∣₁;
    }
