-- The colors that options choose.
use Rattle.std.specs.Prelude.{◌≡◌, ℕ, Bool, not, false, is_some, List, map, Option, None, Some}
use Rattle.std.specs.Borrow.{Bor}
use Rattle.std.specs.Char.{to_ascii_lowercase}
use Rattle.std.specs.List.{fold}
use Rattle.std.specs.Option.{option_copied}
use Rattle.grep_printer.specs.declared.colors.ColorTexts.{ColorTexts}
use Rattle.linegrep_cli.specs.ColorLooks.{AreTextsOf, first_looks, looks_with}
use Rattle.linegrep_cli.specs.declared.looks.Looks.{Looks}
use Rattle.linegrep_cli.specs.declared.options.Options.{Options}

-- all looks after one more change, if it and all changes before it are well formed. Its letters may
-- be capitals
abbrev pub looks_then : Option Looks → Bor (List ℕ) → Option Looks
looks_then None text = None
looks_then (Some looks) text = looks_with (map to_ascii_lowercase text.now) looks

-- all looks after some changes, of which the last decides
abbrev pub looks_of : List (Bor (List ℕ)) → Option Looks
looks_of texts = fold looks_then (Some first_looks) texts

-- the colors that are chosen aren't well formed
abbrev pub refuses_texts : Option (Bor (List (Bor (List ℕ)))) → Bool
refuses_texts None = false
refuses_texts (Some texts) = not (is_some (looks_of texts.now))

abbrev pub refuses_colors : Options → Bool
refuses_colors options = refuses_texts options.colors

-- the escapes are those of the colors that are chosen
abbrev pub AreChosen : Option (Bor (List (Bor (List ℕ)))) → ColorTexts → Type 0
AreChosen None texts = ⊥
AreChosen (Some changes) texts = (looks : Looks) × (looks_of changes.now ≡ Some looks)
    × AreTextsOf looks texts

-- the escapes are those of the colors that options choose, or there are none if they choose none
abbrev pub AreColorTexts : Options → Option ColorTexts → Type 0
AreColorTexts options None = options.colors ≡ None
AreColorTexts options (Some texts) = AreChosen options.colors texts

-- lent escapes are those of the colors that options choose
abbrev pub AreColorsLent : Options → Option (Bor ColorTexts) → Type 0
AreColorsLent options lent = AreColorTexts options (option_copied lent)
