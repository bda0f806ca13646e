-- What types of files say of a name: the last that has it decides.
use Rattle.std.specs.Prelude.{◌≡◌, ℕ, ◌+◌, ◌<◌, ◌≤◌, ◌⊎◌, if◌then◌else◌, Bool, ◌&&◌, ◌||◌, ◌==◌}
use Rattle.std.specs.Prelude.{List}
use Rattle.std.specs.Prelude.{[], ◌∷◌, ◌++◌, false, true, not, length, map, nat_eq, IsTrue}
use Rattle.std.specs.Prelude.{slice_index_or, string_bytes}
use Rattle.std.specs.Borrow.{Bor}
use Rattle.std.specs.List.{Any, ends_with, list_all, list_any}
use Rattle.linegrep_files.specs.Globs.{IsGlobOf, MatchesOne}
use Rattle.linegrep_files.specs.MalformedGlobs.{IsMalformedGlob}
use Rattle.linegrep_files.specs.TypeDefinitions.{Definitions, HaveMalformed, IsKnownBy, Known}
use Rattle.linegrep_files.specs.TypeDefinitions.{Selections, globs_of}
use Rattle.linegrep_files.specs.TypeDefinitions.{is_known}
use Rattle.linegrep_files.specs.declared.file_options.TypeOptions.{TypeOptions}
use Rattle.linegrep_files.specs.declared.globs.Choice.{Choice}
use Rattle.linegrep_files.specs.declared.globs.Choice.TheVariants.{Chosen, LeftOut, Unmatched}
use Rattle.linegrep_files.specs.declared.types.Names.{Names}
use Rattle.linegrep_files.specs.declared.types.Names.TheVariants.{EndingIn, Matching, Only}
use Rattle.linegrep_files.specs.declared.types.TypeGlob.{TypeGlob}
use Rattle.linegrep_files.specs.declared.types.Types.{Types}

-- a name is one of some
abbrev pub Have : Names → List ℕ → Type 0
Have (Only only) name = name ≡ string_bytes only
Have (EndingIn end) name = IsTrue (ends_with nat_eq name (string_bytes end))
Have (Matching glob) name = MatchesOne glob.choices.items name

-- what a type says of a file whose name it has
abbrev pub type_choice_of : TypeGlob → Choice
type_choice_of glob = if glob.is_exclusion then LeftOut else Chosen

-- no type from a position on has a name
abbrev pub NoneHasFrom : ℕ → List TypeGlob → List ℕ → Type 0
NoneHasFrom start globs name = (k : ℕ) (glob : TypeGlob) → start ≤ k → k < length globs
    → Have (slice_index_or globs k glob).names name → ⊥

-- what types say of a file with a name: the last that has the name decides. If none has it, the
-- file is left out if a type is asked for
abbrev pub IsTypeChoice : Types → List ℕ → Choice → Type 0
IsTypeChoice types name choice =
    ((choice ≡ (if types.are_asked then LeftOut else Unmatched))
    × NoneHasFrom 0 types.globs name)
    ⊎ ((last : ℕ) × (glob : TypeGlob) × (last < length types.globs)
    × (slice_index_or types.globs last glob ≡ glob) × Have glob.names name
    × (choice ≡ type_choice_of glob) × NoneHasFrom (last + 1) types.globs name)

-- options say nothing about types
abbrev pub are_none : TypeOptions → Bool
are_none options = is_empty options.asked.texts.now && is_empty options.left_out.texts.now
    && is_empty options.added.texts.now && is_empty options.cleared.texts.now
  where
    is_empty : List (Bor (List ℕ)) → Bool
    is_empty texts = length texts == 0

-- a byte of a glob that may stand for something else
abbrev pub is_wildcard : ℕ → Bool
is_wildcard byte = (byte == 42) || (byte == 63) || (byte == 91) || (byte == 93) || (byte == 123)
    || (byte == 125) || (byte == 92)

abbrev pub has_wildcard : List ℕ → Bool
has_wildcard glob = list_any is_wildcard glob

-- names are those of a glob: the glob itself, if it has no wildcard; all that end in what follows a
-- star at its start; or all that it matches
abbrev pub AreNames : List ℕ → Names → Type 0
AreNames glob (Only only) = (has_wildcard glob ≡ false) × (string_bytes only ≡ glob)
AreNames glob (EndingIn end) =
    (has_wildcard (string_bytes end) ≡ false) × (glob ≡ 42 ∷ string_bytes end)
AreNames glob (Matching matching) = IsGlobOf false false glob matching

-- globs, each with whether it leaves files out
abbrev pub with_choice : Bool → List (List ℕ) → List (List ℕ × Bool)
with_choice is_exclusion globs = map (λ glob. (glob, is_exclusion)) globs

abbrev pub AreTypeGlobs : List (List ℕ × Bool) → List TypeGlob → Type 0
AreTypeGlobs [] globs = globs ≡ []
AreTypeGlobs (one ∷ later) globs = (glob : TypeGlob) × (others : List TypeGlob)
    × (globs ≡ glob ∷ others) × AreNames one.0 glob.names × (glob.is_exclusion ≡ one.1)
    × AreTypeGlobs later others

-- the globs of selected types, one type after another
abbrev pub selected_globs : Definitions → Selections → List (List ℕ × Bool)
selected_globs definitions [] = []
selected_globs definitions (one ∷ later) =
    with_choice one.1 (globs_of definitions one.0) ++ selected_globs definitions later

-- types are those that are selected, each of which is known
pub record AreSelected (known : Known) (types : Types) : Type 0 where
  pub known_all : list_all (λ one. is_known known.definitions one.0) known.selections ≡ true
  pub asked : types.are_asked ≡ list_any (λ one. not one.1) known.selections
  pub globs : AreTypeGlobs (selected_globs known.definitions known.selections) types.globs

-- types are those that options select, among those that options know
pub record AreTypes (options : TypeOptions) (types : Types) : Type 0 where
  pub known : Known
  pub is_known : IsKnownBy options known
  pub are : AreSelected known types

-- a selected type can't be used: it isn't known, or one of its globs can't be read
abbrev pub IsUnusable : Definitions → List ℕ → Type 0
IsUnusable definitions name =
    (is_known definitions name ≡ false) ⊎ Any (IsMalformedGlob false) (globs_of definitions name)

-- what is selected can't be used
abbrev pub HaveUnusable : Known → Type 0
HaveUnusable known = Any (λ one. IsUnusable known.definitions one.0) known.selections

-- what options say of types is refused: a definition isn't well formed, or a type can't be used
abbrev pub AreTypesRefused : TypeOptions → Type 0
AreTypesRefused options =
    HaveMalformed options ⊎ ((known : Known) × IsKnownBy options known × HaveUnusable known)
