use Rattle.std.proofs.Common.{◌∙◌, inl, inr, refl, rules}
use Rattle.linegrep_files.specs.Words.{escaped}
use Rattle.linegrep_files.proofs.NoteLemmas.{word-path}
use Rattle.linegrep_files.proofs.finder.Finder.path.Goals as goal

pub returns-in-Ok : goal.returns-in-Ok
returns-in-Ok g c = word-path c.join.result c.args.folder.now c.args.name.now c.args.name.now c.in-Ok.name.now
    (inl (search rules, refl)) c.in-Ok.ensures.cases.0 c.join.ensures

pub returns-in_ok-word-in-Err : goal.returns-in_ok-word-in-Err
returns-in_ok-word-in-Err g c = word-path c.join-in-Err.result c.args.folder.now c.args.name.now (escaped c.args.name.now) _
    (inr (search rules, refl)) (c.as_str.ensures.value ∙ c.in_ok-word-in-Err.ensures) c.join-in-Err.ensures
