-- The values and the places of an option among uses.
use Rattle.std.proofs.Common.{◌≡◌, ℕ, ◌+◌, ◌<◌, ◌≤◌, false, true, List, [], ◌∷◌, ◌++◌, None, Some}
use Rattle.std.proofs.Common.{add-one, append_assoc, ap, arith, drop, get_or, length, refl, sym, ◌∙◌}
use Rattle.std.proofs.Math.Seq.{drop-cons}
use Rattle.std.proofs.lemmas.List.{append-nil, length-drop, nil_from_length}
use Rattle.std.specs.Borrow.{Bor}
use Rattle.linegrep_options.specs.OptionUses.{is_same, places_of, value_for, values_of}
use Rattle.linegrep_options.specs.declared.option_id.OptionId.{OptionId}
use Rattle.linegrep_options.specs.declared.uses.Use.{Use}

drop-end : {A : Type 0} (xs : List A) (i : ℕ) → length xs ≤ i → drop i xs ≡ []
drop-end xs i past = nil_from_length (drop i xs) (omega (arith, length-drop i xs))

-- with a use that has a value of the option
pub values-some : (option : OptionId) (uses : List Use) (i : ℕ) (d : Use) (items whole : List (Bor (List ℕ)))
    (value : Bor (List ℕ)) → i < length uses → value_for option (get_or uses i d) ≡ Some value
    → items ++ values_of option (drop i uses) ≡ whole
    → (items ++ value ∷ []) ++ values_of option (drop (i + 1) uses) ≡ whole
unfolding values_of
values-some option uses i d items whole value below is sum = rw (append_assoc, add-one)
    ((rw (drop-cons uses i d below, is) at sum))

-- with another use
pub values-none : (option : OptionId) (uses : List Use) (i : ℕ) (d : Use) (items whole : List (Bor (List ℕ)))
    → i < length uses → value_for option (get_or uses i d) ≡ None
    → items ++ values_of option (drop i uses) ≡ whole
    → items ++ values_of option (drop (i + 1) uses) ≡ whole
unfolding values_of
values-none option uses i d items whole below is sum = rw add-one
    ((rw (drop-cons uses i d below, is) at sum))

-- with all uses
pub values-end : (option : OptionId) (uses : List Use) (i : ℕ) (items whole : List (Bor (List ℕ)))
    → length uses ≤ i → items ++ values_of option (drop i uses) ≡ whole → items ≡ whole
unfolding values_of
values-end option uses i items whole past sum =
    sym (append-nil items) ∙ rw (drop-end uses i past) at sum

pub places-same : (option : OptionId) (uses : List Use) (i : ℕ) (d : Use) (items whole : List ℕ)
    → i < length uses → is_same (get_or uses i d).id option ≡ true
    → items ++ places_of option (i + 1) (drop i uses) ≡ whole
    → (items ++ (i + 1) ∷ []) ++ places_of option (i + 1 + 1) (drop (i + 1) uses) ≡ whole
unfolding places_of
places-same option uses i d items whole below is sum = rw append_assoc
    (ap (λ (later : List Use). items ++ (i + 1) ∷ places_of option (i + 1 + 1) later) (rw add-one refl)
    ∙ (rw (drop-cons uses i d below, is) at sum))

pub places-other : (option : OptionId) (uses : List Use) (i : ℕ) (d : Use) (items whole : List ℕ)
    → i < length uses → is_same (get_or uses i d).id option ≡ false
    → items ++ places_of option (i + 1) (drop i uses) ≡ whole
    → items ++ places_of option (i + 1 + 1) (drop (i + 1) uses) ≡ whole
unfolding places_of
places-other option uses i d items whole below is sum =
    ap (λ (later : List Use). items ++ places_of option (i + 1 + 1) later) (rw add-one refl)
    ∙ (rw (drop-cons uses i d below, is) at sum)

pub places-end : (option : OptionId) (uses : List Use) (i : ℕ) (items whole : List ℕ)
    → length uses ≤ i → items ++ places_of option (i + 1) (drop i uses) ≡ whole → items ≡ whole
unfolding places_of
places-end option uses i items whole past sum =
    sym (append-nil items) ∙ rw (drop-end uses i past) at sum
