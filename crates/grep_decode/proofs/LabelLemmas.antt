-- Reading a label.
use Rattle.std.proofs.Common.{◌≡◌, ℕ, ◌+◌, ◌<◌, Bool, true, false, List, [], map, length, take}
use Rattle.std.proofs.Common.{get_or, ◌∙◌, sym, refl, Bor, IsTrue, Option, Some, None, cond}
use Rattle.std.specs.Char.{to_ascii_lowercase}
use Rattle.std.specs.List.{list_any}
use Rattle.std.specs.Str.{str_eq_ignore_ascii_case, IsTrimAscii}
use Rattle.std.proofs.lemmas.Bool.Decides.{same_from_decides}
use Rattle.std.proofs.lemmas.List.Folds.{list_any_at, list_any_more}
use Rattle.std.proofs.lemmas.Slice.Eq.{bytes_eq-Decides}
use Rattle.std.proofs.lemmas.Str.Ascii.{trim_ascii_is}
use Rattle.grep_decode.specs.Labels.{label_named, is_spelling_of, without_space_before}
use Rattle.grep_decode.specs.Labels.{without_space_after}
use Rattle.grep_decode.specs.declared.label.Label.{Label}
use Rattle.grep_decode.specs.declared.label.Label.TheVariants.{Utf8, Utf16Le, Utf16Be}

module _ (name : List ℕ) (spellings : List (Bor (List ℕ))) (i : ℕ) (inside : i < length spellings)
  where
    -- the spelling is the name, whatever the case
    abbrev is_name : Bor (List ℕ) → Bool
    is_name spelling = str_eq_ignore_ascii_case spelling.now name

    -- the spelling at i
    abbrev spelling : Bor (List ℕ)
    spelling = get_or spellings i record { ref_ptr = (0, 0); now = [] }

    -- what a test of it with the name returned
    abbrev IsTest : Bool → Type 0
    IsTest r = (IsTrue r → map to_ascii_lowercase spelling.now ≡ map to_ascii_lowercase name)
        × (map to_ascii_lowercase spelling.now ≡ map to_ascii_lowercase name → IsTrue r)

    tested : (r : Bool) → IsTest r → is_name spelling ≡ r
    tested r test = same_from_decides _ r (bytes_eq-Decides _ _) test

    pub found : (r : Bool) → IsTest r → r ≡ true → true ≡ list_any is_name spellings
    found r test is = sym (list_any_at is_name spellings i _ inside (tested r test ∙ is))

    pub none-more : (r : Bool) → IsTest r → r ≡ false → list_any is_name (take i spellings) ≡ false
        → list_any is_name (take (i + 1) spellings) ≡ false
    none-more r test isnt none =
        rw (
          list_any_more is_name spellings i record {
            ref_ptr = (0, 0);
            now = [];
          } inside,
          none,
          tested r test ∙ isnt,
        ) refl

module _ (text name : List ℕ) (trim : IsTrimAscii text name) where
  trimmed : without_space_after (without_space_before text) ≡ name
  trimmed = sym (trim_ascii_is text name (without_space_before text) refl trim)

  -- the label by its tests in order
  abbrev by_tests : Bool → Bool → Bool → Option Label
  by_tests a b c = cond a (Some Utf8) (cond b (Some Utf16Le) (cond c (Some Utf16Be) None))

  pub named-is : (a b c : Bool) → a ≡ is_spelling_of Utf8 name → b ≡ is_spelling_of Utf16Le name
      → c ≡ is_spelling_of Utf16Be name → by_tests a b c ≡ label_named text
  unfolding label_named
  named-is a b c first second third = rw (trimmed, first, second, third) refl
