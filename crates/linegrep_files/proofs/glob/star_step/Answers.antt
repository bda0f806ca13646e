use Rattle.std.proofs.Common.{◌∙◌, ◌∷◌, ap, sym}
use Rattle.grep_ignore.proofs.ClassLemmas.{begins-is}
use Rattle.linegrep_files.specs.Globs.{of_stars}
use Rattle.linegrep_files.proofs.PieceLemmas.{stars-begin}
use Rattle.linegrep_files.proofs.glob.star_step.Goals as goal

pub returns : goal.returns
returns c = λ ignores begins. of_stars _ _ c.requires
    (begins-is 42 c.args.text.now (stars-begin c.args.text.now c.requires) ∙ ap (λ l. 42 ∷ l) (sym c.tail.ensures))
    c.name_bytes.ensures
