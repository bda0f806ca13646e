use Rattle.grep_replace.proofs.SuccessiveLemmas.{parts-are-successive}
use Rattle.grep_replace.proofs.laws.parts_are_successive.Goals as goal

pub returns : goal.returns
returns g c matcher bytes start limit begins =
    parts-are-successive bytes start limit (g.M.FindAt.first_at matcher bytes) begins
    (g.met.M.FindAt.are_first matcher bytes).within
