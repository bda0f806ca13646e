-- Definitions of types, one change after another.
use Rattle.std.proofs.Common.{◌≡◌, ℕ, Bool, true, false, not, ◌&&◌, ◌||◌, ◌==◌, if◌then◌else◌, List, [], ◌∷◌, ◌++◌}
use Rattle.std.proofs.Common.{◌∙◌, ◌+◌, ◌<◌, ap, append-nil, append_assoc, arith, filter, fold}
use Rattle.std.proofs.Common.{get_or, length, map, refl, rules, subst, sym, take}
use Rattle.std.proofs.Math.ListN.{get_or-map}
use Rattle.std.proofs.lemmas.List.{get_or_append_left, length-map, map_push, take_more}
use Rattle.std.specs.List.{after_first, before_first, list_all, list_any, slice_split, zip}
use Rattle.std.specs.List.Sorted.{IsPermutation}
use Rattle.std.specs.Borrow.{Bor}
use Rattle.std.proofs.lemmas.Bool.{eqb-true, false≢true}
use Rattle.std.specs.Option.{option_and_then}
use Rattle.std.specs.Prelude.{None, Option, Some}
use Rattle.std.specs.Str.{bytes_eq}
use Rattle.std.specs.Str.Lines.{lines}
use Rattle.linegrep_files.specs.FileTypes.{AreNames, AreTypeGlobs, AreTypes, are_none, selected_globs, with_choice}
use Rattle.linegrep_files.specs.TypeDefinitions.{Definitions, Known, Selections, all_changed, all_changes}
use Rattle.linegrep_files.specs.TypeDefinitions.{change_of, changed, changes_of, cleared, known_at_start, known_table}
use Rattle.linegrep_files.specs.TypeDefinitions.{known_types}
use Rattle.linegrep_files.specs.TypeDefinitions.{chosen_of, globs_of, is_colon, is_comma, is_known, known_of}
use Rattle.linegrep_files.specs.TypeDefinitions.{line_definitions, names_after, pair_of, pairs_of, with_glob}
use Rattle.linegrep_files.specs.declared.type_definitions.Change.{Change}
use Rattle.linegrep_files.specs.declared.type_definitions.Definition.{Definition}
use Rattle.linegrep_files.specs.declared.type_definitions.KnownTypes.{KnownTypes}
use Rattle.linegrep_files.specs.declared.type_definitions.Selection.{Selection}
use Rattle.linegrep_files.specs.declared.file_options.TypeOptions.{TypeOptions}
use Rattle.linegrep_files.specs.declared.types.Types.{Types}
use Rattle.linegrep_files.specs.declared.file_options.Values.{Values}
use Rattle.linegrep_files.specs.declared.type_definitions.Action.{Action}
use Rattle.linegrep_files.specs.declared.type_definitions.Action.TheVariants.{Add, Clear, Select}
use Rattle.linegrep_files.specs.declared.types.TypeGlob.{TypeGlob}

-- one change more
pub changes-more : (known : Known) (changes : List Change) (change : Change) (mid new : Known)
    → all_changed known changes ≡ Some mid → changed mid change ≡ Some new
    → all_changed known (changes ++ change ∷ []) ≡ Some new
changes-more known [] change mid new are is =
    let same : known ≡ mid = cc in rw (same, is) refl
changes-more known (first ∷ later) change mid new are is =
    by (changed known first) refl are (λ next more. changes-more next later change mid new more is)
  where
    by : (next : Option Known) → changed known first ≡ next
        → option_and_then (λ n. all_changed n later) next ≡ Some mid
        → ((n : Known) → all_changed n later ≡ Some mid → all_changed n (later ++ change ∷ []) ≡ Some new)
        → option_and_then (λ n. all_changed n (later ++ change ∷ [])) (changed known first) ≡ Some new
    by None none are more = absurd (cc)
    by (Some next) some are more = rw some (more next are)

pub changes-next : (known : Known) (changes : List Change) (at : ℕ) (d : Change) (mid new : Known)
    → at < length changes → all_changed known (take at changes) ≡ Some mid
    → changed mid (get_or changes at d) ≡ Some new → all_changed known (take (at + 1) changes) ≡ Some new
changes-next known changes at d mid new below are is =
    ap (all_changed known) (take_more changes at d below)
    ∙ changes-more known (take at changes) (get_or changes at d) mid new are is

-- four lists, one after another
pub four-added : {A : Type 0} (none one two three four a b c d : List A) → none ≡ [] → one ≡ none ++ a
    → two ≡ one ++ b → three ≡ two ++ c → four ≡ three ++ d → four ≡ a ++ b ++ c ++ d
four-added none one two three four a b c d empty first second third fourth =
    fourth ∙ ap (λ l. l ++ d) (third ∙ ap (λ l. l ++ c) (second ∙ ap (λ l. l ++ b) (first ∙ ap (λ l. l ++ a) empty)))
    ∙ simp append_assoc

-- one definition more of a list
pub pairs-more : (definitions : List Definition) (at : ℕ) (d : Definition) → at < length definitions
    → pairs_of (take (at + 1) definitions) ≡ pairs_of (take at definitions) ++ pair_of (get_or definitions at d) ∷ []
pairs-more definitions at d below =
    ap pairs_of (take_more definitions at d below) ∙ map_push pair_of (take at definitions) (get_or definitions at d)

-- the globs of a type with a definition more
pub globs-more : (definitions : Definitions) (one : List ℕ × List ℕ) (name : List ℕ)
    → globs_of (definitions ++ one ∷ []) name
    ≡ globs_of definitions name ++ (if bytes_eq one.0 name then one.1 ∷ [] else [])
globs-more [] one name = by (bytes_eq one.0 name)
  where
    by : (is : Bool) → map (λ d. d.1) (if is then one ∷ [] else []) ≡ (if is then one.1 ∷ [] else [])
    by true = refl
    by false = refl
globs-more (first ∷ later) one name = by (bytes_eq first.0 name) (globs-more later one name)
  where
    by : (is : Bool) → globs_of (later ++ one ∷ []) name
        ≡ globs_of later name ++ (if bytes_eq one.0 name then one.1 ∷ [] else [])
        → map (λ d. d.1) (if is then first ∷ filter (λ d. bytes_eq d.0 name) (later ++ one ∷ [])
        else filter (λ d. bytes_eq d.0 name) (later ++ one ∷ []))
        ≡ map (λ d. d.1) (if is then first ∷ filter (λ d. bytes_eq d.0 name) later
        else filter (λ d. bytes_eq d.0 name) later) ++ (if bytes_eq one.0 name then one.1 ∷ [] else [])
    by true more = ap (λ l. first.1 ∷ l) more
    by false more = more

-- the last name of some definitions, if there is one
abbrev pub last_name : List ℕ → Definitions → List ℕ
last_name last [] = last
last_name last (d ∷ later) = last_name d.0 later

pub last-more : (last : List ℕ) (definitions : Definitions) (one : List ℕ × List ℕ)
    → last_name last (definitions ++ one ∷ []) ≡ one.0
last-more last [] one = refl
last-more last (d ∷ later) one = last-more d.0 later one

-- the names of definitions with one more
pub names-more : (last : List ℕ) (definitions : Definitions) (one : List ℕ × List ℕ)
    → names_after last (definitions ++ one ∷ []) ≡ names_after last definitions
    ++ (if bytes_eq one.0 (last_name last definitions) then [] else one.0 ∷ [])
names-more last [] one = by (bytes_eq one.0 last)
  where
    by : (is : Bool) → (if is then [] else one.0 ∷ []) ≡ (if is then [] else one.0 ∷ [])
    by is = refl
names-more last (d ∷ later) one = by (bytes_eq d.0 last) (names-more d.0 later one)
  where
    by : (is : Bool) → names_after d.0 (later ++ one ∷ []) ≡ names_after d.0 later
        ++ (if bytes_eq one.0 (last_name d.0 later) then [] else one.0 ∷ [])
        → (if is then names_after d.0 (later ++ one ∷ []) else d.0 ∷ names_after d.0 (later ++ one ∷ []))
        ≡ (if is then names_after d.0 later else d.0 ∷ names_after d.0 later)
        ++ (if bytes_eq one.0 (last_name d.0 later) then [] else one.0 ∷ [])
    by true more = more
    by false more = ap (λ l. d.0 ∷ l) more

-- definitions without a type, by their pairs
pub cleared-is : (definitions : List Definition) (name : List ℕ)
    → pairs_of (filter (λ d. not (bytes_eq d.name.now name)) definitions) ≡ cleared (pairs_of definitions) name
cleared-is [] name = refl
cleared-is (d ∷ later) name = by (bytes_eq d.name.now name) (cleared-is later name)
  where
    by : (is : Bool) → pairs_of (filter (λ d. not (bytes_eq d.name.now name)) later) ≡ cleared (pairs_of later) name
        → pairs_of (if not is then d ∷ filter (λ d. not (bytes_eq d.name.now name)) later
        else filter (λ d. not (bytes_eq d.name.now name)) later)
        ≡ (if not is then (d.name.now, d.glob.now) ∷ cleared (pairs_of later) name else cleared (pairs_of later) name)
    by true same = same
    by false same = ap (λ l. (d.name.now, d.glob.now) ∷ l) same

-- one glob of a type more
pub type-globs-more : (done : List (List ℕ × Bool)) (globs : List TypeGlob) (text : List ℕ) (is_exclusion : Bool)
    (glob : TypeGlob) → AreTypeGlobs done globs → AreNames text glob.names → glob.is_exclusion ≡ is_exclusion
    → AreTypeGlobs (done ++ (text, is_exclusion) ∷ []) (globs ++ glob ∷ [])
type-globs-more [] globs text is_exclusion glob are names is =
    (glob, [], ap (λ l. l ++ glob ∷ []) are, names, is, refl)
type-globs-more (one ∷ later) globs text is_exclusion glob (first, others, same, of, says, are) names is = (
  first,
  others ++ glob ∷ [],
  ap (λ l. l ++ glob ∷ []) same,
  of,
  says,
  type-globs-more later others text is_exclusion glob are names is,
)

pub selected-more : (definitions : Definitions) (selections : Selections) (one : List ℕ × Bool)
    → selected_globs definitions (selections ++ one ∷ [])
    ≡ selected_globs definitions selections ++ with_choice one.1 (globs_of definitions one.0)
selected-more definitions [] one = append-nil (with_choice one.1 (globs_of definitions one.0))
selected-more definitions (first ∷ later) one =
    ap (λ l. with_choice first.1 (globs_of definitions first.0) ++ l) (selected-more definitions later one)
    ∙ sym (append_assoc (with_choice first.1 (globs_of definitions first.0)) (selected_globs definitions later)
    (with_choice one.1 (globs_of definitions one.0)))

-- a type is known, by pairs
pub known-is : (definitions : List Definition) (name : List ℕ)
    → list_any (λ d. bytes_eq d.name.now name) definitions ≡ is_known (pairs_of definitions) name
known-is [] name = refl
known-is (d ∷ later) name = ap (λ b. bytes_eq d.name.now name || b) (known-is later name)

-- the definitions of a line of a table
pub line-is : (name globs line : List ℕ) → name ≡ before_first is_colon line → globs ≡ after_first is_colon line
    → map (λ glob. (name, glob)) (slice_split is_comma globs) ≡ line_definitions line
line-is name globs line first second = rw (first, second) refl

-- a definition of a list that others were added to
same-pair : (now old : List Definition) (extra : Definitions) (at : ℕ) (d : Definition) → at < length old
    → d ≡ get_or now at d → pairs_of now ≡ pairs_of old ++ extra → pair_of (get_or old at d) ≡ pair_of d
same-pair now old extra at d below is are =
    sym (get_or-map pair_of old at d)
    ∙ sym (get_or_append_left (pairs_of old) extra (pair_of d) at (omega (arith, length-map old pair_of)))
    ∙ ap (λ l. get_or l at (pair_of d)) (sym are) ∙ get_or-map pair_of now at d ∙ ap pair_of (sym is)

-- the globs of a type with a definition more
globs-next : (old : List Definition) (at : ℕ) (d : Definition) (name : List ℕ) → at < length old
    → pair_of (get_or old at d) ≡ pair_of d
    → globs_of (pairs_of (take (at + 1) old)) name ≡ globs_of (pairs_of (take at old)) name
    ++ (if bytes_eq d.name.now name then d.glob.now ∷ [] else [])
globs-next old at d name below same =
    ap (λ l. globs_of l name) (pairs-more old at d below)
    ∙ globs-more (pairs_of (take at old)) (pair_of (get_or old at d)) name
    ∙ ap (λ p. globs_of (pairs_of (take at old)) name ++ (if bytes_eq p.0 name then p.1 ∷ [] else [])) same

pub includes-more : (now old : List Definition) (at : ℕ) (d : Definition) (new : Definitions) (name other : List ℕ)
    → at < length old → d ≡ get_or now at d
    → pairs_of now ≡ pairs_of old ++ map (λ glob. (name, glob)) (globs_of (pairs_of (take at old)) other)
    → bytes_eq d.name.now other ≡ true → new ≡ with_glob name (pairs_of now) d.glob.now
    → new ≡ pairs_of old ++ map (λ glob. (name, glob)) (globs_of (pairs_of (take (at + 1) old)) other)
includes-more now old at d new name other below is are same added =
    let globs = globs_of (pairs_of (take at old)) other in
    let next : globs_of (pairs_of (take (at + 1) old)) other ≡ globs ++ d.glob.now ∷ [] =
    globs-next old at d other below (same-pair now old _ at d below is are)
    ∙ ap (λ b. globs ++ (if b then d.glob.now ∷ [] else [])) same in
    added ∙ ap (λ l. l ++ (name, d.glob.now) ∷ []) are
    ∙ append_assoc (pairs_of old) (map (λ glob. (name, glob)) globs) ((name, d.glob.now) ∷ [])
    ∙ ap (λ l. pairs_of old ++ l) (sym (map_push (λ glob. (name, glob)) globs d.glob.now)
    ∙ ap (map (λ glob. (name, glob))) (sym next))

pub includes-same : (now old : List Definition) (at : ℕ) (d : Definition) (name other : List ℕ)
    → at < length old → d ≡ get_or now at d
    → pairs_of now ≡ pairs_of old ++ map (λ glob. (name, glob)) (globs_of (pairs_of (take at old)) other)
    → bytes_eq d.name.now other ≡ false
    → pairs_of now ≡ pairs_of old ++ map (λ glob. (name, glob)) (globs_of (pairs_of (take (at + 1) old)) other)
includes-same now old at d name other below is are same =
    let globs = globs_of (pairs_of (take at old)) other in
    let next : globs_of (pairs_of (take (at + 1) old)) other ≡ globs =
    globs-next old at d other below (same-pair now old _ at d below is are)
    ∙ ap (λ b. globs ++ (if b then d.glob.now ∷ [] else [])) same ∙ append-nil globs in
    are ∙ ap (λ l. pairs_of old ++ map (λ glob. (name, glob)) l) (sym next)

-- the last name with a definition more, and all names
pub last-next : (definitions : List Definition) (at : ℕ) (d : Definition) → at < length definitions
    → d ≡ get_or definitions at d → d.name.now ≡ last_name [] (pairs_of (take (at + 1) definitions))
last-next definitions at d below is =
    ap (λ e. e.name.now) is
    ∙ sym (ap (last_name []) (pairs-more definitions at d below)
    ∙ last-more [] (pairs_of (take at definitions)) (pair_of (get_or definitions at d)))

pub names-next : (definitions : List Definition) (at : ℕ) (d : Definition) (last : List ℕ) → at < length definitions
    → d ≡ get_or definitions at d → last ≡ last_name [] (pairs_of (take at definitions))
    → names_after [] (pairs_of (take (at + 1) definitions)) ≡ names_after [] (pairs_of (take at definitions))
    ++ (if bytes_eq d.name.now last then [] else d.name.now ∷ [])
names-next definitions at d last below is named =
    ap (names_after []) (pairs-more definitions at d below)
    ∙ names-more [] (pairs_of (take at definitions)) (pair_of (get_or definitions at d))
    ∙ ap (λ l. names_after [] (pairs_of (take at definitions))
    ++ (if bytes_eq (get_or definitions at d).name.now l then [] else (get_or definitions at d).name.now ∷ [])) (sym named)
    ∙ ap (λ e. names_after [] (pairs_of (take at definitions))
    ++ (if bytes_eq e.name.now last then [] else e.name.now ∷ [])) (sym is)

pub selects-more : (definitions : List Definition) (at : ℕ) (d : Definition) (last : List ℕ) (is_exclusion : Bool)
    (old mid new : Selections) → at < length definitions → d ≡ get_or definitions at d
    → last ≡ last_name [] (pairs_of (take at definitions)) → bytes_eq d.name.now last ≡ false
    → mid ≡ old ++ map (λ one. (one, is_exclusion)) (names_after [] (pairs_of (take at definitions)))
    → new ≡ mid ++ (d.name.now, is_exclusion) ∷ []
    → new ≡ old ++ map (λ one. (one, is_exclusion)) (names_after [] (pairs_of (take (at + 1) definitions)))
selects-more definitions at d last is_exclusion old mid new below is named other are more =
    let names = names_after [] (pairs_of (take at definitions)) in
    let next : names_after [] (pairs_of (take (at + 1) definitions)) ≡ names ++ d.name.now ∷ [] =
    names-next definitions at d last below is named
    ∙ ap (λ b. names ++ (if b then [] else d.name.now ∷ [])) other in
    more ∙ ap (λ l. l ++ (d.name.now, is_exclusion) ∷ []) are
    ∙ append_assoc old (map (λ one. (one, is_exclusion)) names) ((d.name.now, is_exclusion) ∷ [])
    ∙ ap (λ l. old ++ l) (sym (map_push (λ one. (one, is_exclusion)) names d.name.now)
    ∙ ap (map (λ one. (one, is_exclusion))) (sym next))

pub selects-same : (definitions : List Definition) (at : ℕ) (d : Definition) (last : List ℕ) (is_exclusion : Bool)
    (old mid : Selections) → at < length definitions → d ≡ get_or definitions at d
    → last ≡ last_name [] (pairs_of (take at definitions)) → bytes_eq d.name.now last ≡ true
    → mid ≡ old ++ map (λ one. (one, is_exclusion)) (names_after [] (pairs_of (take at definitions)))
    → mid ≡ old ++ map (λ one. (one, is_exclusion)) (names_after [] (pairs_of (take (at + 1) definitions)))
selects-same definitions at d last is_exclusion old mid below is named same are =
    let names = names_after [] (pairs_of (take at definitions)) in
    let next : names_after [] (pairs_of (take (at + 1) definitions)) ≡ names =
    names-next definitions at d last below is named
    ∙ ap (λ b. names ++ (if b then [] else d.name.now ∷ [])) same ∙ append-nil names in
    are ∙ ap (λ l. old ++ map (λ one. (one, is_exclusion)) l) (sym next)

known-start : (types : KnownTypes) (definitions : Definitions) → pairs_of types.definitions.items ≡ definitions
    → chosen_of types.selections.items ≡ []
    → known_of types ≡ record { definitions = definitions; selections = [] }
known-start types definitions are none = rw (are, none) refl

-- what is known once a table is read
pub table-known : (types empty : KnownTypes) (table : List ℕ) → table ≡ known_table → empty.definitions.items ≡ []
    → empty.selections.items ≡ []
    → pairs_of types.definitions.items ≡ fold (λ definitions line. definitions ++ line_definitions line)
    (pairs_of empty.definitions.items) (lines table)
    → types.selections ≡ empty.selections → known_of types ≡ known_at_start
table-known types empty table is none nothing read same = known-start types known_types
    (read ∙ ap (λ t. fold (λ definitions line. definitions ++ line_definitions line)
    (pairs_of empty.definitions.items) (lines t)) is
    ∙ ap (λ l. fold (λ definitions line. definitions ++ line_definitions line) (pairs_of l) (lines known_table)) none)
    (ap (λ s. chosen_of s.items) same ∙ ap chosen_of nothing)

-- a glob more of a selected type
pub chosen-more : (before : List (List ℕ × Bool)) (globs new : List TypeGlob) (definitions : List Definition)
    (at : ℕ) (d : Definition) (name : List ℕ) (is_exclusion : Bool) (glob : TypeGlob) → at < length definitions
    → bytes_eq (get_or definitions at d).name.now name ≡ true
    → AreNames (get_or definitions at d).glob.now glob.names → glob.is_exclusion ≡ is_exclusion
    → new ≡ globs ++ glob ∷ []
    → AreTypeGlobs (before ++ with_choice is_exclusion (globs_of (pairs_of (take at definitions)) name)) globs
    → AreTypeGlobs (before ++ with_choice is_exclusion (globs_of (pairs_of (take (at + 1) definitions)) name)) new
chosen-more before globs new definitions at d name is_exclusion glob below same names says more are =
    let one = get_or definitions at d in
    let known = globs_of (pairs_of (take at definitions)) name in
    let next : globs_of (pairs_of (take (at + 1) definitions)) name ≡ known ++ one.glob.now ∷ [] =
    ap (λ l. globs_of l name) (pairs-more definitions at d below)
    ∙ globs-more (pairs_of (take at definitions)) (pair_of one) name
    ∙ ap (λ b. known ++ (if b then one.glob.now ∷ [] else [])) same in
    let texts : (before ++ with_choice is_exclusion known) ++ (one.glob.now, is_exclusion) ∷ []
    ≡ before ++ with_choice is_exclusion (globs_of (pairs_of (take (at + 1) definitions)) name) =
    append_assoc before (with_choice is_exclusion known) ((one.glob.now, is_exclusion) ∷ [])
    ∙ ap (λ l. before ++ l) (sym (map_push (λ g. (g, is_exclusion)) known one.glob.now)
    ∙ ap (with_choice is_exclusion) (sym next)) in
    subst (λ l. AreTypeGlobs l new) texts
    (subst (λ l. AreTypeGlobs ((before ++ with_choice is_exclusion known) ++ (one.glob.now, is_exclusion) ∷ []) l)
    (sym more) (type-globs-more (before ++ with_choice is_exclusion known) globs one.glob.now is_exclusion glob
    are names says))

-- one type is asked for, by pairs
pub asked-is : (selections : List Selection)
    → list_any (λ one. not one.is_exclusion) selections ≡ list_any (λ one. not one.1) (chosen_of selections)
asked-is [] = refl
asked-is (one ∷ later) = ap (λ b. not one.is_exclusion || b) (asked-is later)

all-push : {A : Type 0} (test : A → Bool) (xs : List A) (x : A) → list_all test xs ≡ true → test x ≡ true
    → list_all test (xs ++ x ∷ []) ≡ true
all-push test [] x are is = rw is refl
all-push test (first ∷ later) x are is = by (test first) refl are (λ rest. all-push test later x rest is)
  where
    by : (one : Bool) → test first ≡ one → (one && list_all test later) ≡ true
        → (list_all test later ≡ true → list_all test (later ++ x ∷ []) ≡ true)
        → (test first && list_all test (later ++ x ∷ [])) ≡ true
    by true passes all more = rw passes (more all)
    by false passes all more = absurd (false≢true all)

-- one selection more of a list
selections-more : (selections : List Selection) (at : ℕ) (d : Selection) → at < length selections
    → chosen_of (take (at + 1) selections) ≡ chosen_of (take at selections)
    ++ ((get_or selections at d).name.now, (get_or selections at d).is_exclusion) ∷ []
selections-more selections at d below =
    ap chosen_of (take_more selections at d below)
    ∙ map_push (λ (s : Selection). (s.name.now, s.is_exclusion)) (take at selections) (get_or selections at d)

pub known-next : (definitions : Definitions) (selections : List Selection) (at : ℕ) (d : Selection)
    → at < length selections → is_known definitions (get_or selections at d).name.now ≡ true
    → list_all (λ one. is_known definitions one.0) (chosen_of (take at selections)) ≡ true
    → list_all (λ one. is_known definitions one.0) (chosen_of (take (at + 1) selections)) ≡ true
known-next definitions selections at d below is are =
    ap (list_all (λ one. is_known definitions one.0)) (selections-more selections at d below)
    ∙ all-push (λ one. is_known definitions one.0) (chosen_of (take at selections)) _ are is

pub globs-of-next : (definitions : Definitions) (selections : List Selection) (at : ℕ) (d : Selection)
    (globs : List TypeGlob) → at < length selections
    → AreTypeGlobs (selected_globs definitions (chosen_of (take at selections))
    ++ with_choice (get_or selections at d).is_exclusion (globs_of definitions (get_or selections at d).name.now)) globs
    → AreTypeGlobs (selected_globs definitions (chosen_of (take (at + 1) selections))) globs
globs-of-next definitions selections at d globs below are =
    subst (λ l. AreTypeGlobs l globs)
    (sym (ap (selected_globs definitions) (selections-more selections at d below)
    ∙ selected-more definitions (chosen_of (take at selections))
    ((get_or selections at d).name.now, (get_or selections at d).is_exclusion))) are

no-texts : (texts : List (Bor (List ℕ))) → (length texts == 0) ≡ true → texts ≡ []
no-texts [] none = refl
no-texts (text ∷ later) none = absurd (omega (arith, eqb-true (length (text ∷ later)) 0 none))

none-changed : (action : Action) (values : Values) → (length values.texts.now == 0) ≡ true
    → changes_of action values ≡ []
none-changed action values none =
    ap (λ t. map (change_of action) (zip t values.places.now)) (no-texts values.texts.now none)

four-true : (a b c d : Bool) → (a && b && c && d) ≡ true → (a ≡ true) × (b ≡ true) × (c ≡ true) × (d ≡ true)
four-true true true true true all = (refl, refl, refl, refl)
four-true true true true false all = absurd (false≢true all)
four-true true true false d all = absurd (false≢true all)
four-true true false c d all = absurd (false≢true all)
four-true false b c d all = absurd (false≢true all)

four-none : {A : Type 0} (a b c d : List A) → a ≡ [] → b ≡ [] → c ≡ [] → d ≡ [] → a ++ b ++ c ++ d ≡ []
four-none a b c d first second third fourth = rw (first, second, third, fourth) refl

no-changes : (options : TypeOptions) → are_none options ≡ true → all_changes options ≡ []
no-changes options none =
    let (asked, left_out, added, dropped) = four-true _ _ _ _ none in
    four-none _ _ _ _ (none-changed (Select false) options.asked asked)
    (none-changed (Select true) options.left_out left_out) (none-changed Add options.added added)
    (none-changed Clear options.cleared dropped)

-- nothing is selected if options say nothing
pub none-selected : (options : TypeOptions) (types : Types) → are_none options ≡ true → types.globs ≡ []
    → types.are_asked ≡ false → AreTypes options types
none-selected options types none globs asked = record {
  known = record { definitions = known_types; selections = [] };
  is_known = record {
    changes = [];
    are = record {
      same = subst (λ l. IsPermutation l []) (sym (no-changes options none)) (search rules);
      sorted = search rules;
    };
    is = refl;
  };
  are = record { known_all = refl; asked = asked; globs = globs };
}
