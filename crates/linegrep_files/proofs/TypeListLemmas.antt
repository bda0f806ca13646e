-- The list of types, one line after another.
use Rattle.std.proofs.Common.{◌≡◌, ℕ, ◌+◌, ◌<◌, ◌∙◌, true, false, if◌then◌else◌}
use Rattle.std.proofs.Common.{List, [], ◌∷◌, ◌++◌, ap, append-nil, append_assoc}
use Rattle.std.proofs.Common.{get_or, length, map, refl, sym, take}
use Rattle.std.proofs.lemmas.Cmp.{then_total}
use Rattle.std.specs.Cmp.Lexicographic.{on_texts}
use Rattle.std.proofs.lemmas.List.{get_or_default}
use Rattle.std.proofs.lemmas.List.MinMax.{ranks_by}
use Rattle.std.proofs.lemmas.Slice.Eq.{bytes_eq-Decides}
use Rattle.std.proofs.lemmas.Grind.{flat_map-append}
use Rattle.std.specs.Borrow.{Bor}
use Rattle.std.specs.List.{flat_map, join_by}
use Rattle.std.specs.Cmp.{IsStrictWeakOrder}
use Rattle.std.specs.Ordering.{is_lt}
use Rattle.std.specs.Str.{bytes_eq}
use Rattle.std.specs.Global.{Global}
use Rattle.std.specs.Prelude.{Err, IfOk, Ok, OnOk, Result, String, codes, is_ok, string_bytes}
use Rattle.std.specs.List.Sorted.{IsPermutation, IsSortedBy}
use Rattle.std.proofs.lemmas.List.Sorted.{IsPermutation-map}
use Rattle.linegrep_files.specs.TypeDefinitions.{Definitions, definition_order, globs_of}
use Rattle.linegrep_files.specs.TypeDefinitions.{names_after, pair_of, pairs_of}
use Rattle.linegrep_files.specs.TypeDefinitions.{IsTypeList, type_line, type_lines}
use Rattle.linegrep_files.specs.declared.type_definitions.Definition.{Definition}
use Rattle.linegrep_files.proofs.TypeDefinitionLemmas.{last-next, last_name, names-next}

-- the order of definitions is one
pub definition-ranks : IsStrictWeakOrder (λ one other. is_lt (definition_order one other))
definition-ranks = ranks_by (then_total (on_texts (λ (d : Definition). d.name.now)) (on_texts (λ (d : Definition). d.glob.now)))
    (λ d. d)

-- with a definition more of the type that comes last there is no line more
pub lines-same : (all : Definitions) (definitions : List Definition) (at : ℕ) (d : Definition) (last text : List ℕ)
    → at < length definitions → last ≡ last_name [] (pairs_of (take at definitions))
    → bytes_eq (get_or definitions at d).name.now last ≡ true
    → text ≡ flat_map (type_line all) (names_after [] (pairs_of (take at definitions)))
    → text ≡ flat_map (type_line all) (names_after [] (pairs_of (take (at + 1) definitions)))
lines-same all definitions at d last text below named same are =
    let one = get_or definitions at d in
    are ∙ ap (flat_map (type_line all)) (sym (names-next definitions at one last below
    (get_or_default definitions at d one below) named
    ∙ ap (λ b. names_after [] (pairs_of (take at definitions)) ++ (if b then [] else one.name.now ∷ [])) same
    ∙ append-nil (names_after [] (pairs_of (take at definitions)))))

-- with one of another type there is
pub lines-more : (all : Definitions) (definitions : List Definition) (at : ℕ) (d : Definition)
    (last text new : List ℕ) → at < length definitions → last ≡ last_name [] (pairs_of (take at definitions))
    → bytes_eq (get_or definitions at d).name.now last ≡ false
    → text ≡ flat_map (type_line all) (names_after [] (pairs_of (take at definitions)))
    → new ≡ text ++ type_line all (get_or definitions at d).name.now
    → new ≡ flat_map (type_line all) (names_after [] (pairs_of (take (at + 1) definitions)))
lines-more all definitions at d last text new below named other are more =
    let one = get_or definitions at d in
    let names = names_after [] (pairs_of (take at definitions)) in
    more ∙ ap (λ l. l ++ type_line all one.name.now) are
    ∙ ap (λ l. flat_map (type_line all) names ++ l) (sym (append-nil (type_line all one.name.now)))
    ∙ sym (flat_map-append (type_line all) names (one.name.now ∷ []))
    ∙ ap (flat_map (type_line all)) (sym (names-next definitions at one last below (get_or_default definitions at d one below) named
    ∙ ap (λ b. names ++ (if b then [] else one.name.now ∷ [])) other))

pub last-changes : (definitions : List Definition) (at : ℕ) (d : Definition) → at < length definitions
    → (get_or definitions at d).name.now ≡ last_name [] (pairs_of (take (at + 1) definitions))
last-changes definitions at d below = last-next definitions at (get_or definitions at d) below
    (get_or_default definitions at d (get_or definitions at d) below)

-- the last name stays, where it is that of one definition more, or else is that of that one
pub last-stays : (definitions : List Definition) (at : ℕ) (d : Definition) (last : List ℕ) → at < length definitions
    → bytes_eq (get_or definitions at d).name.now last ≡ true
    → last ≡ last_name [] (pairs_of (take (at + 1) definitions))
last-stays definitions at d last below same =
    sym ((bytes_eq-Decides (get_or definitions at d).name.now last).0 same) ∙ last-changes definitions at d below

-- globs with commas between them, as texts
joined-rest : (separator : List ℕ) (globs : List (Bor (List ℕ)))
    → flat_map (λ g. separator ++ g.now) globs ≡ flat_map (λ g. separator ++ g) (map (λ g. g.now) globs)
joined-rest separator [] = refl
joined-rest separator (glob ∷ later) = ap (λ l. (separator ++ glob.now) ++ l) (joined-rest separator later)

pub joined-globs : (separator : List ℕ) (globs : List (Bor (List ℕ))) (texts : List (List ℕ))
    → map (λ g. g.now) globs ≡ texts → join_by (λ g. g.now) separator globs ≡ join_by (λ g. g) separator texts
joined-globs separator [] texts are = ap (join_by (λ g. g) separator) are
joined-globs separator (glob ∷ later) texts are =
    ap (λ l. glob.now ++ l) (joined-rest separator later) ∙ ap (join_by (λ g. g) separator) are

-- the texts of a line, one after another
pub line-pushed : {X E : Type 0} (result : Result X E) (old first second third new : List ℕ) (name globs : List ℕ)
    (definitions : Definitions) → first ≡ old ++ name → second ≡ first ++ codes ": "
    → third ≡ second ++ globs → globs ≡ join_by (λ g. g) (codes ", ") (globs_of definitions name)
    → new ≡ (if is_ok result then third ++ codes "\n" else third)
    → OnOk result (new ≡ old ++ type_line definitions name)
line-pushed (Ok value) old first second third new name globs definitions named colon listed are ended = ended
    ∙ ap (λ l. l ++ codes "\n") (listed ∙ ap (λ l. l ++ globs) (colon ∙ ap (λ l. l ++ codes ": ") named))
    ∙ ap (λ g. (((old ++ name) ++ codes ": ") ++ g) ++ codes "\n") are ∙ simp append_assoc
line-pushed (Err e) old first second third new name globs definitions named colon listed are ended = tt

-- definitions that are in order, and listed
pub listed : {E : Type 0} (result : Result (String Global) E) (old new : List Definition) → IsPermutation old new
    → IsSortedBy (λ one other. is_lt (definition_order one other)) new
    → IfOk result (λ text. string_bytes text ≡ type_lines (pairs_of new))
    → IfOk result (λ text. IsTypeList (pairs_of old) (string_bytes text))
listed (Ok text) old new same sorted are = (new, IsPermutation-map pair_of old new same, sorted, are)
listed (Err e) old new same sorted are = tt
