use Rattle.std.proofs.Common.{subst}
use Rattle.linegrep_files.specs.Choices.{of_exclusion, of_glob}
use Rattle.linegrep_files.specs.Globs.{IsGlobChoice}
use Rattle.linegrep_files.proofs.ChoiceLemmas.{unmatched-reason}
use Rattle.linegrep_files.proofs.choices.Choices.reason.Goals as goal

pub returns-in-Chosen-clause-reason : goal.returns-in-Chosen-clause-reason
returns-in-Chosen-clause-reason c = of_glob
    (subst (IsGlobChoice c.args.self.now.globs c.args.path.now c.args.is_folder) c.in-Chosen.is c.in_ok-choice.ensures)

pub returns-in-LeftOut-clause-reason : goal.returns-in-LeftOut-clause-reason
returns-in-LeftOut-clause-reason c = of_exclusion
    (subst (IsGlobChoice c.args.self.now.globs c.args.path.now c.args.is_folder) c.in-LeftOut.is c.in_ok-choice.ensures)

pub returns-in-Unmatched-clause-reason : goal.returns-in-Unmatched-clause-reason
returns-in-Unmatched-clause-reason c =
    unmatched-reason c.args.self.now c.args.path.now _ _ c.args.is_folder _ c.unmatched_reason.result
    (subst (IsGlobChoice c.args.self.now.globs c.args.path.now c.args.is_folder) c.in-Unmatched.is c.in_ok-choice.ensures)
    c.as_bytes-name.ensures.value c.is_shown-is_shown.ensures c.unmatched_reason.ensures.reason
