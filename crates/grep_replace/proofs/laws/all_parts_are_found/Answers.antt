use Rattle.std.proofs.Common.{length}
use Rattle.grep_replace.proofs.SuccessiveLemmas.{all-are-successive, all-found}
use Rattle.grep_replace.proofs.laws.all_parts_are_found.Goals as goal

pub returns-clause-found : goal.returns-clause-found
returns-clause-found g c matcher bytes = all-found (g.M.FindAt.first_at matcher bytes) (length bytes)

pub returns-clause-successive : goal.returns-clause-successive
returns-clause-successive g c matcher bytes =
    all-are-successive bytes (g.M.FindAt.first_at matcher bytes) (g.met.M.FindAt.are_first matcher bytes).within
