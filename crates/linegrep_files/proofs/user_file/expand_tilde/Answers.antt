use Rattle.std.proofs.Common.{◌≡◌, ◌++◌, rules, subst, sym}
use Rattle.std.specs.Prelude.{codes, string_bytes}
use Rattle.linegrep_files.proofs.GitFileLemmas.{ok-at}
use Rattle.linegrep_files.specs.UserFiles.{IsExpanded, of_other_start, of_tilde}
use Rattle.linegrep_files.proofs.user_file.expand_tilde.Goals as goal

pub returns-in_ok-named-in-Some : goal.returns-in_ok-named-in-Some
returns-in_ok-named-in-Some c =
    let is : c.args.path.now ≡ codes "~/" ++ c.in-Some.rest.now = (search rules) in
    subst (λ path. IsExpanded c.args.home.now path (string_bytes c.in_ok-named-in-Some.named)) (sym is)
    (subst (IsExpanded c.args.home.now (codes "~/" ++ c.in-Some.rest.now)) (sym c.in_ok-named-in-Some.ensures)
    (of_tilde c.in-Some.rest.now))

pub returns-in-None : goal.returns-in-None
returns-in-None c = ok-at _ (IsExpanded c.args.home.now c.args.path.now) _ c.from_str.ensures.ok
    (of_other_start c.args.path.now (search rules))
