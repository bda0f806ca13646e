use Rattle.std.proofs.Common.{IfSome, subst}
use Rattle.regex_hir.specs.Meaning.{meaning}
use Rattle.grep_regex.specs.Choices.{items_of}
use Rattle.grep_regex.specs.Classes.{HasRuns, IsRun}
use Rattle.grep_regex.proofs.ChoiceLemmas.{one-decides}
use Rattle.grep_regex.proofs.RunLemmas.{run-decides}
use Rattle.grep_regex.proofs.SizeLemmas.{has-runs-decide, has-runs-sizes, run-sizes}
use Rattle.grep_regex.proofs.class_tree.prefix_of.Goals as goal

pub returns-in-Some : goal.returns-in-Some
returns-in-Some c =
    let re = meaning c.args.hir.now in
    let sets = c.in-Some.sets.items in
    let run = subst (λ o. IfSome o (λ s. IsRun re s.items)) c.in-Some.is c.in_ok-sets.ensures in
    rw (c.in_ok-new.ensures.choices, c.in_ok-choices.ensures) (record {
      decides = one-decides re sets (run-decides re sets run);
      sizes = λ _. run-sizes re sets run;
    })

pub returns-in-Some-2 : goal.returns-in-Some-2
returns-in-Some-2 c =
    let re = meaning c.args.hir.now in
    let choices = items_of c.in-Some-2.choices.items in
    let runs = subst (λ o. IfSome o (λ s. HasRuns re (items_of s.items))) c.in-Some-2.is c.in_ok-choices-2.ensures in
    rw c.in_ok-new-2.ensures.choices (record {
      decides = has-runs-decide re choices runs;
      sizes = λ _. has-runs-sizes re choices runs;
    })
