use Rattle.linegrep_files.proofs.FoundLemmas.{found-chosen, found-left, found-nothing}
use Rattle.linegrep_files.proofs.finder.Finder.find_named.Goals as goal

pub returns-in-None-clause-found : goal.returns-in-None-clause-found
returns-in-None-clause-found g c = found-chosen _ _ _ _ _ _ c.requires c.in-Ok.ensures.path
    c.in_ok-path.ensures c.limits.ensures c.path.ensures c.is_folder.ensures c.in-Ok.ensures.at
    (rw c.in-None.is at c.in_ok-reason-in-Ok.ensures.reason)

pub returns-in-Some-clause-found : goal.returns-in-Some-clause-found
returns-in-Some-clause-found g c = found-left _ _ _ _ _ _ c.in-Some.reason c.requires c.in-Ok.ensures.path
    c.in_ok-path.ensures c.limits.ensures c.path.ensures c.is_folder.ensures c.in-Ok.ensures.at
    (rw c.in-Some.is at c.in_ok-reason-in-Ok.ensures.reason)

pub returns-in-Err-clause-found : goal.returns-in-Err-clause-found
returns-in-Err-clause-found g c = found-nothing _ _ _ _ _ c.in-Err.reason c.requires c.in_ok-path.ensures
    c.limits.ensures c.in-Err.ensures.at
