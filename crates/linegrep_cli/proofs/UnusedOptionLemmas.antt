-- Options that aren't used: none of them applies, and none has a value.
use Rattle.std.proofs.Common.{◌≡◌, ◌⊎◌, ◌∙◌, ℕ, ◌-◌, ◌<◌, Bool, true, false, List, [], ◌∷◌, Option}
use Rattle.std.proofs.Common.{None, Some, ap, arith, inl, inr, length, refl, subst, sym}
use Rattle.std.proofs.Common.{true≢false}
use Rattle.std.proofs.lemmas.Bool.{and_parts, eqb-true}
use Rattle.std.proofs.lemmas.List.{get_or-reverse, length-reverse}
use Rattle.std.proofs.lemmas.List.Elements.{All-head, All-tail, All-weaker}
use Rattle.std.specs.Borrow.{Bor}
use Rattle.std.specs.List.{find, list_all, list_any}
use Rattle.std.specs.Option.{option_and_then}
use Rattle.std.specs.Prelude.{◌&&◌, ◌||◌, ◌==◌, All, cond, not, reverse}
use Rattle.linegrep_cli.specs.Corollaries.{UseOnly, changes_more, changing_options, is_among}
use Rattle.linegrep_cli.specs.OptionUses.{has}
use Rattle.linegrep_cli.specs.OptionValues.{number_for}
use Rattle.linegrep_cli.specs.declared.options.Options.{Options}
use Rattle.linegrep_options.specs.CommandLines.{number_of}
use Rattle.linegrep_options.specs.OptionUses.{applies, decides, is_same, last_value}
use Rattle.linegrep_options.specs.Rows.{all_contraries}
use Rattle.linegrep_options.specs.contracts.option_id.OptionId.{the_type}
use Rattle.linegrep_options.specs.declared.option_id.OptionId.{OptionId}
use Rattle.linegrep_options.specs.declared.uses.Use.{Use}
use denote.Enum.Declared.{tag_of}

-- ---- lists

-- what is found of some items is one of them
found-of : {X : Type 0} (P : X → Type 0) (p : X → Bool) (xs : List X) (x : X) → All P xs
    → find p xs ≡ Some x → P x
found-of P p [] x all is = absurd cc
found-of P p (y ∷ ys) x all is = go (p y) is
    (λ later. found-of P p ys x (All-tail P y ys all) later)
  where
    go : (b : Bool) → cond b (Some y) (find p ys) ≡ Some x → (find p ys ≡ Some x → P x) → P x
    go true same later = let one : y ≡ x = cc in subst P one (All-head P y ys all)
    go false same later = later same

-- none is found, if none passes
none-found : {X : Type 0} (p : X → Bool) (xs : List X) → All (λ x. p x ≡ false) xs
    → find p xs ≡ None
none-found p [] none = refl
none-found p (x ∷ xs) none = rw (All-head (λ y. p y ≡ false) x xs none)
    (none-found p xs (All-tail (λ y. p y ≡ false) x xs none))

All-reverse : {X : Type 0} (P : X → Type 0) (xs : List X) → All P xs → All P (reverse xs)
All-reverse P xs all = λ i d below.
    let inside : i < length xs = omega (arith, below, length-reverse xs) in
    subst P (sym (get_or-reverse xs i d inside)) (all (length xs - 1 - i) d (omega (arith, inside)))

cases_found : {X : Type 0} (found : Option X) → (found ≡ None) ⊎ ((x : X) × (found ≡ Some x))
cases_found None = inl refl
cases_found (Some x) = inr (x, refl)

-- ---- uses

-- uses of other options
abbrev pub AreOthers : OptionId → List Use → Type 0
AreOthers option uses = All (λ one. is_same one.id option ≡ false) uses

pub applies-none : (uses : List Use) (option : OptionId) → AreOthers option uses
    → applies uses option ≡ false
unfolding applies
applies-none uses option others = elim (cases_found (find (decides all_contraries option) (reverse uses))) [
  | inl none ↦ rw none refl
  | inr (last, is) ↦ rw is (found-of (λ one. is_same one.id option ≡ false)
      (decides all_contraries option) (reverse uses) last
      (All-reverse (λ one. is_same one.id option ≡ false) uses others) is)
]

pub value-none : (uses : List Use) (option : OptionId) → AreOthers option uses
    → last_value uses option ≡ None
unfolding last_value
value-none uses option others =
    ap (option_and_then (λ (one : Use). one.value))
    (none-found (λ one. is_same one.id option) (reverse uses)
    (All-reverse (λ one. is_same one.id option ≡ false) uses others))

pub number-none : (uses : List Use) (option : OptionId) → AreOthers option uses
    → number_for uses option ≡ None
number-none uses option others =
    ap (option_and_then (λ (text : Bor (List ℕ)). number_of text.now)) (value-none uses option others)

-- ---- options that are not among those that are used

-- an option changes something, and isn't allowed
abbrev pub IsRefused : List OptionId → OptionId → Type 0
IsRefused allowed option = changes_more allowed option ≡ true

-- options that are one are both refused, or neither is
same-change : (allowed : List OptionId) (one other : OptionId) → is_same one other ≡ true
    → changes_more allowed one ≡ changes_more allowed other
same-change allowed one other same =
    ap more (eqb-true (tag_of the_type one) (tag_of the_type other) same)
  where
    more : ℕ → Bool
    more tag = list_any (λ one. tag == tag_of the_type one) changing_options
        && not (list_any (λ one. tag == tag_of the_type one) allowed)

other-option : (allowed : List OptionId) (option used : OptionId) → IsRefused allowed option
    → changes_more allowed used ≡ false → is_same used option ≡ false
other-option allowed option used changes unchanging = go (is_same used option) refl
  where
    go : (b : Bool) → is_same used option ≡ b → b ≡ false
    go true same = sym changes ∙ (sym (same-change allowed used option same) ∙ unchanging)
    go false same = refl

pub others : (allowed : List OptionId) (options : Options) (only : UseOnly allowed options)
    (option : OptionId) → IsRefused allowed option → AreOthers option only.uses.now
others allowed options only option changes =
    All-weaker (λ (one : Use). changes_more allowed one.id ≡ false)
    (λ one. is_same one.id option ≡ false)
    (λ one unchanging. other-option allowed option one.id changes unchanging) only.uses.now
    only.no_other

pub has-none : (allowed : List OptionId) (options : Options) → UseOnly allowed options
    → (option : OptionId) → IsRefused allowed option → has options option ≡ false
has-none allowed options only option changes =
    ap (λ (uses : Bor (List Use)). applies uses.now option) only.are_options.uses_are
    ∙ applies-none only.uses.now option (others allowed options only option changes)

-- none of some options that change something is allowed
abbrev pub AreRefused : List OptionId → List OptionId → Type 0
AreRefused allowed some = list_all (changes_more allowed) some ≡ true

refused : (allowed some : List OptionId) → AreRefused allowed some → (option : OptionId)
    → is_among some option ≡ true → IsRefused allowed option
refused allowed [] all option among = absurd (true≢false (sym among))
refused allowed (one ∷ later) all option among =
    let (first, others) = and_parts _ _ all in
    go (is_same option one) refl among first (refused allowed later others option)
  where
    go : (b : Bool) → is_same option one ≡ b → (b || is_among later option) ≡ true
        → IsRefused allowed one → (is_among later option ≡ true → IsRefused allowed option)
        → IsRefused allowed option
    go true same among first later = same-change allowed option one same ∙ first
    go false same among first later = later among

-- what is known of an option that is one of them
module _ (allowed : List OptionId) (options : Options) (only : UseOnly allowed options)
    (some : List OptionId) (are : AreRefused allowed some) (option : OptionId)
    (among : is_among some option ≡ true) where
  -- it doesn't apply
  pub not-used : has options option ≡ false
  not-used = has-none allowed options only option (refused allowed some are option among)

  -- it isn't used, so that it has no value
  pub other-uses : AreOthers option only.uses.now
  other-uses = others allowed options only option (refused allowed some are option among)
