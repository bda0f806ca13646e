-- In which order files are found.
use Rattle.std.specs.Prelude.{◌≡◌, ℕ, Bool, true, false, ◌||◌, if◌then◌else◌, List}
use Rattle.std.specs.Prelude.{None, Option, Some, Result, Ok, Err, codes}
use Rattle.std.specs.Prelude.{MatchBool, string_bytes}
use Rattle.std.specs.Borrow.{Bor}
use Rattle.std.specs.Ordering.{nat_cmp}
use Rattle.std.specs.declared.cmp.Ordering.{Ordering}
use Rattle.std.specs.declared.cmp.Ordering.TheVariants.{Equal, Greater, Less}
use Rattle.std.specs.declared.io.Error.{Error}
use Rattle.std.specs.Path.{path_cmp}
use Rattle.std.specs.Str.{bytes_eq}
use Rattle.linegrep_files.specs.declared.order.Order.{Order}
use Rattle.linegrep_files.specs.declared.order.Ranked.{Ranked}
use Rattle.linegrep_files.specs.declared.order.SortKey.{SortKey}
use Rattle.linegrep_files.specs.declared.order.SortKey.TheVariants.{Accessed, Created, Modified}
use Rattle.linegrep_files.specs.declared.order.SortKey.TheVariants.{Path}

-- files are sorted by a time, and not by their paths
abbrev pub is_time : SortKey → Bool
is_time Path = false
is_time _ = true

abbrev pub is_by_time : Order → Bool
is_by_time order = is_time order.key

-- all files have to be found before they are sorted: by a time, or by their paths backwards
abbrev pub is_late : Order → Bool
is_late order = is_by_time order || order.is_reversed

-- the order of paths
abbrev pub by_path : Order
by_path = record { key = Path; is_reversed = false }

-- the order that a name stands for, or the same backwards. If it stands for none, the order of
-- paths
abbrev pub named_order : Option (Bor (List ℕ)) → Bool → Order
named_order None is_reversed = by_path
named_order (Some name) is_reversed =
    if bytes_eq name.now (codes "modified")
    then record { key = Modified; is_reversed = is_reversed }
    else if bytes_eq name.now (codes "accessed")
    then record { key = Accessed; is_reversed = is_reversed }
    else if bytes_eq name.now (codes "created")
    then record { key = Created; is_reversed = is_reversed }
    else if bytes_eq name.now (codes "path") then record { key = Path; is_reversed = is_reversed }
    else by_path

-- how two times are sorted. A time that isn't known comes after others
abbrev pub by_time : Option ℕ → Option ℕ → Ordering
by_time (Some one) (Some other) = nat_cmp one other
by_time (Some one) None = Less
by_time None (Some other) = Greater
by_time None None = Equal

-- how two files are sorted if all files are found first: by their times, or by the components of
-- their paths
abbrev pub upward_order : Order → Ranked → Ranked → Ordering
upward_order order one other = if is_by_time order then by_time one.time other.time
    else path_cmp (string_bytes one.path) (string_bytes other.path)

-- how two files are sorted: upwards, or backwards
abbrev pub rank_order : Order → Ranked → Ranked → Ordering
rank_order order one other = if order.is_reversed then upward_order order other one
    else upward_order order one other

-- By what a system may say of the times of files.
module _ (times : SortKey → List ℕ → Result (Option ℕ) Error → Type 0) where
  -- the time of the file at a path: what the system says, or none if it fails
  pub data IsTimeOf (order : Order) (path : List ℕ) : Option ℕ → Type 0 where
    of_time : (time : Option ℕ) → times order.key path (Ok time) → IsTimeOf order path time
    of_failure : (error : Error) → times order.key path (Err error) → IsTimeOf order path None

  -- what the file at a path is sorted by: the path, and its time, if files are sorted by one
  pub record IsRanked (order : Order) (path : List ℕ) (ranked : Ranked) : Type 0 where
    pub path_is : string_bytes ranked.path ≡ path
    pub time_is : MatchBool (is_by_time order) (IsTimeOf order path ranked.time)
        (ranked.time ≡ None)

  -- the system has an order: it knows the current folder's time if files are sorted by times
  abbrev pub HasOrder : Order → Type 0
  HasOrder order = is_by_time order ≡ true
      → (time : Option ℕ) × times order.key (codes ".") (Ok time)

  -- the system doesn't have an order of times, since it fails at the current folder's
  abbrev pub LacksOrder : Order → Type 0
  LacksOrder order = (is_by_time order ≡ true)
      × ((error : Error) × times order.key (codes ".") (Err error))
