use Rattle.std.proofs.Common.{◌≡◌, Some, arith, subst, true}
use Rattle.grep_regex.specs.Classes.{decision}
use Rattle.grep_regex.proofs.SizeLemmas.{decided-fits}
use Rattle.grep_regex.proofs.classes.first_size.Goals as goal

pub returns-in-Matches-clause-fits : goal.returns-in-Matches-clause-fits
returns-in-Matches-clause-fits c =
    let sets = c.index-choices-i.result in
    let fits = decided-fits sets.items c.args.haystack.now c.args.at c.requires
    (subst (λ s. decision s c.args.haystack.now c.args.at ≡ Some true) c.deref.ensures.value c.in-Matches.ensures) in
    omega (arith, fits, c.len.ensures, sets.ok)
