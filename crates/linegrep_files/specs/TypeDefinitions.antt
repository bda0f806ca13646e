-- The types of files that are known, and those that are selected, after each of some changes.
use Rattle.std.specs.Prelude.{◌≡◌, ℕ, Bool, true, false, not, ◌&&◌, ◌||◌, ◌==◌, if◌then◌else◌, List}
use Rattle.std.specs.Prelude.{[]}
use Rattle.std.specs.Prelude.{◌∷◌, ◌++◌, None, Option, Some, codes, filter, fold, map}
use Rattle.std.specs.Borrow.{Bor}
use Rattle.std.specs.Char.Unicode.Alphabetic.{is_alphabetic}
use Rattle.std.specs.Char.Unicode.Numeric.{is_numeric}
use Rattle.std.specs.Cmp.Lexicographic.{slice_cmp}
use Rattle.std.specs.List.{after_first, before_first, flat_map, join_by, list_all, list_any}
use Rattle.std.specs.List.{slice_split}
use Rattle.std.specs.List.{zip}
use Rattle.std.specs.List.Sorted.{IsPermutation, IsSortedBy, IsSortedByKey}
use Rattle.std.specs.Option.{option_and_then}
use Rattle.std.specs.Ordering.{is_lt, nat_cmp, ordering_then}
use Rattle.std.specs.declared.cmp.Ordering.{Ordering}
use Rattle.std.specs.Str.{bytes_eq, chars}
use Rattle.std.specs.Str.Lines.{lines}
use Rattle.grep_ignore.specs.Classes.{is_empty}
use Rattle.linegrep_files.specs.declared.known_types.TheConstants.{TYPES}
use Rattle.linegrep_files.specs.declared.file_options.TypeOptions.{TypeOptions}
use Rattle.linegrep_files.specs.declared.file_options.Values.{Values}
use Rattle.linegrep_files.specs.declared.type_definitions.Action.{Action}
use Rattle.linegrep_files.specs.declared.type_definitions.Action.TheVariants.{Add, Clear, Select}
use Rattle.linegrep_files.specs.declared.type_definitions.Change.{Change}
use Rattle.linegrep_files.specs.declared.type_definitions.Definition.{Definition}
use Rattle.linegrep_files.specs.declared.type_definitions.KnownTypes.{KnownTypes}
use Rattle.linegrep_files.specs.declared.type_definitions.Selection.{Selection}
use Rattle.linegrep_files.specs.declared.type_definitions.TypeError.{TypeError}
use Rattle.linegrep_files.specs.declared.type_definitions.TypeError.TheVariants.{OutOfMemory}

-- definitions: names of types, each with a glob
abbrev pub Definitions : Type 0
Definitions = List (List ℕ × List ℕ)

-- selected types: their names, and whether each is left out
abbrev pub Selections : Type 0
Selections = List (List ℕ × Bool)

abbrev pub pair_of : Definition → List ℕ × List ℕ
pair_of definition = (definition.name.now, definition.glob.now)

abbrev pub pairs_of : List Definition → Definitions
pairs_of definitions = map pair_of definitions

abbrev pub chosen_of : List Selection → Selections
chosen_of selections = map (λ s. (s.name.now, s.is_exclusion)) selections

-- the globs of a type
abbrev pub globs_of : Definitions → List ℕ → List (List ℕ)
globs_of definitions name = map (λ d. d.1) (filter (λ d. bytes_eq d.0 name) definitions)

abbrev pub is_known : Definitions → List ℕ → Bool
is_known definitions name = list_any (λ d. bytes_eq d.0 name) definitions

-- the names of types, in order. If a name comes several times in a row, it counts once
abbrev pub names_after : List ℕ → Definitions → List (List ℕ)
names_after last [] = []
names_after last (d ∷ later) =
    if bytes_eq d.0 last then names_after d.0 later else d.0 ∷ names_after d.0 later

-- a text has a colon, and what is before the first and after it
abbrev pub is_colon : ℕ → Bool
is_colon byte = byte == 58

abbrev pub is_comma : ℕ → Bool
is_comma byte = byte == 44

abbrev pub has_colon : List ℕ → Bool
has_colon text = list_any is_colon text

-- a letter or a digit
abbrev pub is_letter : ℕ → Bool
is_letter letter = is_alphabetic letter || is_numeric letter

-- a type may have this name: it has letters and digits alone, and isn't the name of all types
abbrev pub is_type_name : List ℕ → Bool
is_type_name name = not (is_empty name) && not (bytes_eq name (codes "all"))
    && list_all is_letter (chars name)

-- definitions, after a type got another glob
abbrev pub with_glob : List ℕ → Definitions → List ℕ → Definitions
with_glob name definitions glob = definitions ++ (name, glob) ∷ []

-- definitions, after a type got the globs of another type
abbrev pub with_globs_of : List ℕ → Definitions → List ℕ → Definitions
with_globs_of name definitions other =
    definitions ++ map (λ glob. (name, glob)) (globs_of definitions other)

-- definitions, after a type got the globs of several types, if all of these are known
abbrev pub with_types : List ℕ → Definitions → List (List ℕ) → Option Definitions
with_types name definitions others =
    if list_all (is_known definitions) others
    then Some (fold (with_globs_of name) definitions others)
    else None

-- definitions, by what follows a name and a colon: a glob, or the word that includes other types,
-- with their names
abbrev pub with_meaning : List ℕ → Definitions → List ℕ → Option Definitions
with_meaning name definitions meaning =
    if has_colon meaning then if bytes_eq (before_first is_colon meaning) (codes "include")
    && not (has_colon (after_first is_colon meaning))
    then with_types name definitions
    (slice_split is_comma (after_first is_colon meaning)) else None
    else if is_empty meaning then None else Some (with_glob name definitions meaning)

-- definitions, after one was added, if it is well formed
abbrev pub added : Definitions → List ℕ → Option Definitions
added definitions text =
    if has_colon text && is_type_name (before_first is_colon text)
    then with_meaning (before_first is_colon text) definitions (after_first is_colon text) else None

-- definitions without a type
abbrev pub cleared : Definitions → List ℕ → Definitions
cleared definitions name = filter (λ d. not (bytes_eq d.0 name)) definitions

-- selections, after a type was selected, or all types that are known by now
abbrev pub selected : Definitions → Selections → List ℕ → Bool → Selections
selected definitions selections name is_exclusion = selections
    ++ map (λ one. (one, is_exclusion)) (if bytes_eq name (codes "all")
    then names_after [] definitions else name ∷ [])

-- what is known and what is selected
pub record Known : Type 0 where
  pub definitions : Definitions
  pub selections : Selections

abbrev pub known_of : KnownTypes → Known
known_of types = record {
  definitions = pairs_of types.definitions.items;
  selections = chosen_of types.selections.items;
}

-- what is known, after a change, if it is well formed
abbrev pub changed : Known → Change → Option Known
changed known change = by change.action
  where
    by : Action → Option Known
    by Add = option_and_then
        (λ definitions. Some (record { definitions = definitions; selections = known.selections }))
        (added known.definitions change.text.now)
    by Clear = Some (record {
      definitions = cleared known.definitions change.text.now;
      selections = known.selections;
    })
    by (Select is_exclusion) = Some (record {
      definitions = known.definitions;
      selections = selected known.definitions known.selections change.text.now is_exclusion;
    })

-- what is known, after some changes in order
abbrev pub all_changed : Known → List Change → Option Known
all_changed known [] = Some known
all_changed known (change ∷ later) =
    option_and_then (λ next. all_changed next later) (changed known change)

-- the known types: in each line of a table the name of one, a colon, and its globs with commas
abbrev pub line_definitions : List ℕ → Definitions
line_definitions line = map (λ glob. (before_first is_colon line, glob))
    (slice_split is_comma (after_first is_colon line))

unfoldable pub known_table : List ℕ
known_table = TYPES.now

abbrev pub known_types : Definitions
known_types = fold (λ definitions line. definitions ++ line_definitions line) [] (lines known_table)

-- the change that a text of an option asks for, by the text's place among the words
abbrev pub change_of : Action → Bor (List ℕ) × ℕ → Change
change_of action pair = record { place = pair.1; action = action; text = pair.0 }

abbrev pub changes_of : Action → Values → List Change
changes_of action values = map (change_of action) (zip values.texts.now values.places.now)

abbrev pub all_changes : TypeOptions → List Change
all_changes options =
    changes_of (Select false) options.asked ++ changes_of (Select true) options.left_out
    ++ changes_of Add options.added ++ changes_of Clear options.cleared

-- the changes that options ask for, in the order of their words
pub record AreChanges (options : TypeOptions) (changes : List Change) : Type 0 where
  pub same : IsPermutation (all_changes options) changes
  pub sorted : IsSortedByKey (λ change. change.place) nat_cmp changes

-- what is known if options say nothing
abbrev pub known_at_start : Known
known_at_start = record { definitions = known_types; selections = [] }

-- what options know and select
pub record IsKnownBy (options : TypeOptions) (known : Known) : Type 0 where
  pub changes : List Change
  pub are : AreChanges options changes
  pub is : all_changed known_at_start changes ≡ Some known

-- a definition of options isn't well formed
abbrev pub HaveMalformed : TypeOptions → Type 0
HaveMalformed options = (changes : List Change) × AreChanges options changes
    × (all_changed known_at_start changes ≡ None)

-- a fact, unless an error is that memory is out
abbrev pub OnFault : TypeError → Type 0 → Type 0
OnFault OutOfMemory P = Unit {0}
OnFault error P = P

-- the order of definitions: by their names, and within a type by their globs
abbrev pub definition_order : Definition → Definition → Ordering
definition_order one other = ordering_then (slice_cmp nat_cmp one.name.now other.name.now)
    (slice_cmp nat_cmp one.glob.now other.glob.now)

-- the line of a type: its name, a colon, and its globs with commas between them
abbrev pub type_line : Definitions → List ℕ → List ℕ
type_line definitions name = name ++ (codes ": "
    ++ (join_by (λ glob. glob) (codes ", ") (globs_of definitions name) ++ 10 ∷ []))

-- a line for each type
abbrev pub type_lines : Definitions → List ℕ
type_lines definitions = flat_map (type_line definitions) (names_after [] definitions)

-- a text lists definitions in order
abbrev pub IsTypeList : Definitions → List ℕ → Type 0
IsTypeList definitions text = (sorted : List Definition)
    × IsPermutation definitions (pairs_of sorted)
    × IsSortedBy (λ one other. is_lt (definition_order one other)) sorted
    × (text ≡ type_lines (pairs_of sorted))

-- a text lists the types that options know
abbrev pub IsTypeListOf : TypeOptions → List ℕ → Type 0
IsTypeListOf options text = (known : Known) × IsKnownBy options known
    × IsTypeList known.definitions text
