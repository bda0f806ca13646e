use Rattle.std.proofs.Common.{◌≡◌, Bool, true, false, Some, None, refl, subst, if◌then◌else◌}
use Rattle.std.specs.Prelude.{IfOk, is_some, nat_eq}
use Rattle.std.specs.List.{starts_with}
use Rattle.uses.specs.Prefixes.{prefix_facts}
use Rattle.uses.proofs.prefix.count_with_prefix.Goals as goal

is_found : {X : Type 0} (x : X) (b : Bool) → is_some (if b then Some x else None) ≡ b
is_found x true = refl
is_found x false = refl

pub returns-clause-count : goal.returns-clause-count
returns-clause-count c = λ by free plain. subst (λ k. IfOk c.count_matching_lines.result (λ count. count ≡ k))
    (c.hits_are_selected.ensures.predicates _ (prefix_facts c.args.prefix.now).meaning _
    (λ line. starts_with nat_eq line c.args.prefix.now) free plain (λ line. is_found _ _)) (c.count_matching_lines.ensures.count by)
