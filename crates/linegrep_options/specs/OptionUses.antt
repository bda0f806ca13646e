-- Which uses of options decide.
use denote.Enum.Declared.{tag_of}
use Rattle.std.specs.Prelude.{ℕ, ◌+◌, ◌-◌, Bool, false, ◌&&◌, ◌||◌, ◌==◌, if◌then◌else◌, List, []}
use Rattle.std.specs.Prelude.{◌∷◌}
use Rattle.std.specs.Prelude.{find, length, position, reverse, Option, None, Some}
use Rattle.std.specs.Borrow.{Bor}
use Rattle.std.specs.List.{filter_map, list_any}
use Rattle.std.specs.Option.{option_and_then}
use Rattle.linegrep_options.specs.Rows.{all_contraries}
use Rattle.linegrep_options.specs.contracts.option_id.OptionId.{the_type}
use Rattle.linegrep_options.specs.declared.option_id.OptionId.{OptionId}
use Rattle.linegrep_options.specs.declared.table.Contrary.{Contrary}
use Rattle.linegrep_options.specs.declared.uses.Use.{Use}

-- two options are one
abbrev pub is_same : OptionId → OptionId → Bool
is_same one other = tag_of the_type one == tag_of the_type other

-- that a use of an option after one of another takes that back
abbrev pub is_contrary : OptionId → OptionId → Contrary → Bool
is_contrary option by contrary = is_same contrary.option option && is_same contrary.by by

abbrev pub takes_back : List Contrary → OptionId → OptionId → Bool
takes_back contraries option by = list_any (is_contrary option by) contraries

-- a use decides whether an option applies: it is of that, or of one that takes it back
abbrev pub decides : List Contrary → OptionId → Use → Bool
decides contraries option one = is_same one.id option || takes_back contraries option one.id

-- an option applies: of the uses that decide that the last is its own
unfoldable pub applies : List Use → OptionId → Bool
applies uses option = is_own (find (decides all_contraries option) (reverse uses))
  where
    is_own : Option Use → Bool
    is_own None = false
    is_own (Some last) = is_same last.id option

-- the last use of an option
abbrev pub last_use : List Use → OptionId → Option Use
last_use uses option = find (λ one. is_same one.id option) (reverse uses)

-- the value of the last use of an option
unfoldable pub last_value : List Use → OptionId → Option (Bor (List ℕ))
last_value uses option = option_and_then (λ one. one.value) (last_use uses option)

-- the place of the last use of an option, from 1, or 0 if it isn't used
unfoldable pub last_place : List Use → OptionId → ℕ
last_place uses option = from_end (position (λ one. is_same one.id option) (reverse uses))
  where
    from_end : Option ℕ → ℕ
    from_end None = 0
    from_end (Some back) = length uses - back

-- the value of a use, if it is of an option and has one
abbrev pub value_for : OptionId → Use → Option (Bor (List ℕ))
value_for option one = if is_same one.id option then one.value else None

-- the values of an option, in the order of its uses
unfoldable pub values_of : OptionId → List Use → List (Bor (List ℕ))
values_of option uses = filter_map (value_for option) uses

-- the places of the uses of an option, counted from a number
unfoldable pub places_of : OptionId → ℕ → List Use → List ℕ
places_of option place [] = []
places_of option place (one ∷ later) = if is_same one.id option
    then place ∷ places_of option (place + 1) later else places_of option (place + 1) later
