use Rattle.std.proofs.Common.{subst, sym}
use Rattle.regex_hir.specs.Meaning.{meaning}
use Rattle.grep_regex.proofs.SameEndLemmas.{same-spans}
use Rattle.grep_regex.specs.SameEnds.{HasSameSpans}
use Rattle.grep_regex.proofs.programs.Programs.new.Goals as goal

pub returns-in-Ok-clause-spans : goal.returns-in-Ok-clause-spans
returns-in-Ok-clause-spans c =
    subst (λ h. HasSameSpans (meaning h) (meaning c.args.program.hir)) (sym c.in-Ok.ensures.pattern)
    (same-spans (meaning c.args.program.hir) (meaning c.in_ok-plain.plain) c.in_ok-plain.ensures)
