-- The order in which what is found is visited, and which folders are too deep.
use Rattle.std.proofs.Common.{◌≡◌, ◌∙◌, ℕ, Bool, true, false, sym}
use Rattle.std.specs.Cmp.{IsStrictWeakOrder}
use Rattle.std.specs.Cmp.Lexicographic.{nat_list_cmp_total}
use Rattle.std.proofs.lemmas.List.MinMax.{IsStrictWeakOrder-flip, ranks_by}
use Rattle.linegrep_files.specs.Folders.{path_of}
use Rattle.linegrep_files.specs.Limits.{allows_depth}
use Rattle.linegrep_files.specs.Walks.{comes_before}
use Rattle.linegrep_files.specs.declared.limits.Limits.{Limits}

-- which of two is visited after the other is an order
pub order-ranks : IsStrictWeakOrder (λ one other. comes_before other one)
order-ranks = IsStrictWeakOrder-flip _ (ranks_by nat_list_cmp_total path_of)

-- a folder is too deep
pub is-deep : {limits of_choices : Limits} {depth below : ℕ} {allows : Bool} → limits ≡ of_choices
    → depth ≡ below → allows ≡ allows_depth limits depth → allows ≡ false
    → allows_depth of_choices below ≡ false
is-deep is_limits is_depth is allows = sym (rw (is_limits, is_depth) at is) ∙ allows

-- a folder isn't too deep
pub isnt-deep : {limits of_choices : Limits} {depth below : ℕ} {allows : Bool} → limits ≡ of_choices
    → depth ≡ below → allows ≡ allows_depth limits depth → allows ≡ true
    → allows_depth of_choices below ≡ true
isnt-deep is_limits is_depth is allows = sym (rw (is_limits, is_depth) at is) ∙ allows
