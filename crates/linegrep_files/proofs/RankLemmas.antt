-- How files are sorted that are all found first.
use Rattle.std.proofs.Common.{◌≡◌, ℕ, Bool, true, false, refl}
use Rattle.std.specs.Cmp.{IsStrictWeakOrder, IsTotalOrder}
use Rattle.std.specs.Ordering.{is_lt, ordering_reverse}
use Rattle.std.specs.Path.{path_cmp, path_cmp_total}
use Rattle.std.specs.Prelude.{None, Option, Some, if◌then◌else◌, string_bytes}
use Rattle.std.specs.declared.cmp.Ordering.TheVariants.{Equal, Less}
use Rattle.std.proofs.lemmas.Cmp.{back_total, nat_cmp_total, on_total}
use Rattle.std.proofs.lemmas.List.MinMax.{ranks_by}
use Rattle.linegrep_files.specs.Orders.{by_time, is_by_time, rank_order}
use Rattle.linegrep_files.specs.declared.order.Order.{Order}
use Rattle.linegrep_files.specs.declared.order.Ranked.{Ranked}

-- the order of times is total
by-time-total : IsTotalOrder by_time
by-time-total = record { antisymm = back; trans = through; congr = alike }
  where
    back : (one other : Option ℕ) → by_time one other ≡ ordering_reverse (by_time other one)
    back (Some one) (Some other) = nat_cmp_total.antisymm one other
    back (Some one) None = refl
    back None (Some other) = refl
    back None None = refl

    through : (one two three : Option ℕ) → by_time one two ≡ Less → by_time two three ≡ Less
        → by_time one three ≡ Less
    through (Some one) (Some two) (Some three) first later = nat_cmp_total.trans one two three first later
    through (Some one) (Some two) None first later = refl
    through (Some one) None (Some three) first later = cc
    through (Some one) None None first later = refl
    through None (Some two) three first later = cc
    through None None three first later = cc

    alike : (one two three : Option ℕ) → by_time one two ≡ Equal → by_time one three ≡ by_time two three
    alike (Some one) (Some two) (Some three) same = nat_cmp_total.congr one two three same
    alike (Some one) (Some two) None same = refl
    alike (Some one) None three same = cc
    alike None (Some two) three same = cc
    alike None None three same = refl

-- which of two files comes first is an order
pub ranks-are : (order : Order) → IsStrictWeakOrder (λ one other. is_lt (rank_order order one other))
ranks-are order = ranks_by (total order.is_reversed (is_by_time order)) (λ (file : Ranked). file)
  where
    upward : (timed : Bool) → IsTotalOrder (λ (one other : Ranked). if timed then by_time one.time other.time
        else path_cmp (string_bytes one.path) (string_bytes other.path))
    upward true = on_total (λ (file : Ranked). file.time) by-time-total
    upward false = path_cmp_total (λ (file : Ranked). string_bytes file.path)

    total : (is_reversed timed : Bool) → IsTotalOrder (λ (one other : Ranked). if is_reversed
        then (if timed then by_time other.time one.time
        else path_cmp (string_bytes other.path) (string_bytes one.path))
        else (if timed then by_time one.time other.time
        else path_cmp (string_bytes one.path) (string_bytes other.path)))
    total true timed = back_total (upward timed)
    total false timed = upward timed
