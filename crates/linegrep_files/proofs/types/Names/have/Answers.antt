use Rattle.std.proofs.Common.{◌≡◌, ◌∙◌, ap, subst, sym}
use Rattle.std.specs.List.{ends_with}
use Rattle.std.specs.Prelude.{IsTrue, nat_eq, string_bytes}
use Rattle.linegrep_files.proofs.types.Names.have.Goals as goal

pub returns-in-EndingIn : goal.returns-in-EndingIn
returns-in-EndingIn c =
    let is : c.ends_with.result ≡ ends_with nat_eq c.args.name.now (string_bytes c.in-EndingIn.end) =
    c.ends_with.ensures.value ∙ ap (ends_with nat_eq c.args.name.now) c.as_bytes-in-EndingIn.ensures.value in
    rw c.in-EndingIn.is (λ yields. subst IsTrue is yields, λ ends. subst IsTrue (sym is) ends)

pub returns-in-Matching : goal.returns-in-Matching
returns-in-Matching c = rw c.in-Matching.is c.is_match.ensures
