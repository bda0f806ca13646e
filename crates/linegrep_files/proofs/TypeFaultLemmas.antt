-- Why types can't be used.
use Rattle.std.proofs.Common.{◌≡◌, ℕ, suc, zero, ◌+◌, ◌<◌, ◌∙◌, Bool, true, false}
use Rattle.std.proofs.Common.{if◌then◌else◌, List, [], ◌∷◌, ◌++◌, ap}
use Rattle.std.proofs.Common.{arith, drop, filter, get_or, inr, length, map, refl, sym, take}
use Rattle.std.proofs.Math.ListN.{get_or-map}
use Rattle.std.proofs.lemmas.List.{drop_more, get_or_default, length-map, take-append-drop}
use Rattle.std.specs.List.{Any}
use Rattle.std.specs.Option.{option_and_then}
use Rattle.std.specs.Prelude.{None, Option, Some}
use Rattle.std.specs.Str.{bytes_eq}
use Rattle.linegrep_files.specs.FileTypes.{IsUnusable}
use Rattle.linegrep_files.specs.MalformedGlobs.{IsMalformedGlob}
use Rattle.linegrep_files.specs.TypeDefinitions.{AreChanges, Definitions, HaveMalformed, Known, OnFault, all_changed}
use Rattle.linegrep_files.specs.TypeDefinitions.{changed, chosen_of, globs_of, known_at_start, pairs_of}
use Rattle.linegrep_files.specs.declared.file_options.TypeOptions.{TypeOptions}
use Rattle.linegrep_files.specs.declared.type_definitions.Change.{Change}
use Rattle.linegrep_files.specs.declared.type_definitions.Definition.{Definition}
use Rattle.linegrep_files.specs.declared.type_definitions.Selection.{Selection}
use Rattle.linegrep_files.specs.declared.type_definitions.TypeError.{TypeError}
use Rattle.linegrep_files.specs.declared.type_definitions.TypeError.TheVariants.{Glob, Malformed, OutOfMemory, Unknown}

-- a weaker fact of an error
pub fault-weaker : (e : TypeError) {P Q : Type 0} → (P → Q) → OnFault e P → OnFault e Q
fault-weaker (Unknown name) weaker holds = weaker holds
fault-weaker (Malformed text) weaker holds = weaker holds
fault-weaker (Glob glob cause) weaker holds = weaker holds
fault-weaker OutOfMemory weaker holds = tt

-- a change that can't be made, after others that can
stop-after : (known : Known) (changes : List Change) (change : Change) (later : List Change) (mid : Known)
    → all_changed known changes ≡ Some mid → changed mid change ≡ None
    → all_changed known (changes ++ change ∷ later) ≡ None
stop-after known [] change later mid are none =
    let same : known ≡ mid = cc in rw (same, none) refl
stop-after known (first ∷ rest) change later mid are none =
    by (changed known first) refl are (λ next more. stop-after next rest change later mid more none)
  where
    by : (next : Option Known) → changed known first ≡ next
        → option_and_then (λ n. all_changed n rest) next ≡ Some mid
        → ((n : Known) → all_changed n rest ≡ Some mid → all_changed n (rest ++ change ∷ later) ≡ None)
        → option_and_then (λ n. all_changed n (rest ++ change ∷ later)) (changed known first) ≡ None
    by None is are more = absurd (cc)
    by (Some next) is are more = rw is (more next are)

pub changes-stop : (known : Known) (changes : List Change) (at : ℕ) (d : Change) (mid : Known) → at < length changes
    → all_changed known (take at changes) ≡ Some mid → changed mid (get_or changes at d) ≡ None
    → all_changed known changes ≡ None
changes-stop known changes at d mid below are none =
    ap (all_changed known) (sym (take-append-drop at changes) ∙ ap (λ l. take at changes ++ l) (drop_more changes at d below))
    ∙ stop-after known (take at changes) (get_or changes at d) (drop (at + 1) changes) mid are none

-- what holds of one of the later elements
any-later : {X : Type 0} (P : X → Type 0) (first : X) (xs : List X) → Any P xs → Any P (first ∷ xs)
any-later P first xs (k, x, below, is, holds) = (suc k, x, omega (arith, below), is, holds)

-- a fact of a glob of a type
pub any-glob : (P : List ℕ → Type 0) (definitions : List Definition) (at : ℕ) (d : Definition) (name : List ℕ)
    → at < length definitions → bytes_eq (get_or definitions at d).name.now name ≡ true
    → P (get_or definitions at d).glob.now → Any P (globs_of (pairs_of definitions) name)
any-glob P [] at d name below same holds = absurd (omega (arith, below))
any-glob P (first ∷ later) zero d name below same holds = rw same (0, first.glob.now, omega arith, refl, holds)
any-glob P (first ∷ later) (suc at) d name below same holds =
    by (bytes_eq first.name.now name) (any-glob P later at d name (omega (arith, below)) same holds)
  where
    by : (is : Bool) → Any P (globs_of (pairs_of later) name)
        → Any P (map (λ d. d.1) (if is then (first.name.now, first.glob.now)
        ∷ filter (λ d. bytes_eq d.0 name) (pairs_of later) else filter (λ d. bytes_eq d.0 name) (pairs_of later)))
    by true any = any-later P first.glob.now (globs_of (pairs_of later) name) any
    by false any = any

-- a selected type that can't be used
pub any-selected : (definitions : Definitions) (selections : List Selection) (at : ℕ) (d : Selection)
    → at < length selections → IsUnusable definitions (get_or selections at d).name.now
    → Any (λ one. IsUnusable definitions one.0) (chosen_of selections)
any-selected definitions selections at d below unusable =
    let one = get_or selections at d in
    let pair : Selection → List ℕ × Bool = λ s. (s.name.now, s.is_exclusion) in (
      at,
      pair one,
      omega (arith, below, length-map selections pair),
      get_or-map pair selections at one ∙ ap pair (sym (get_or_default selections at d one below)),
      unusable,
    )

pub any-unusable : (definitions : Definitions) (selections : List Selection) (at : ℕ) (d : Selection)
    → at < length selections → Any (IsMalformedGlob false) (globs_of definitions (get_or selections at d).name.now)
    → Any (λ one. IsUnusable definitions one.0) (chosen_of selections)
any-unusable definitions selections at d below any = any-selected definitions selections at d below (inr any)

-- the changes that options ask for can't be made
pub never-changed : (options : TypeOptions) (changes : List Change) (known : Known) → AreChanges options changes
    → known ≡ known_at_start → all_changed known changes ≡ None → HaveMalformed options
never-changed options changes known are is none = (changes, are, ap (λ k. all_changed k changes) (sym is) ∙ none)
