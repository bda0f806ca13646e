-- After the end of a search each format is as if the search went on.
use Rattle.std.proofs.Common.{◌≡◌, refl}
use Rattle.std.specs.Prelude.{ℕ, true, List, Option}
use Rattle.grep_replace.specs.declared.template.Template.{Template}
use Rattle.grep_searcher.specs.Meanings.{Meaning}
use Rattle.grep_searcher.specs.Plans.{Settings, finishes}
use Rattle.grep_printer.specs.CountedTexts.{counted_rules}
use Rattle.grep_printer.specs.Formats.{PrintedCall, Rules, Scene}
use Rattle.grep_printer.specs.JsonTexts.{json_rules}
use Rattle.grep_printer.specs.ReplacedTexts.{replaced_call, replaced_rules}
use Rattle.grep_printer.specs.ReplacerTexts.{TextAt}
use Rattle.grep_printer.specs.StandardTexts.{standard_rules}
use Rattle.grep_printer.specs.SummaryTexts.{summary_rules}
use Rattle.grep_printer.specs.VimgrepTexts.{vimgrep_rules}

-- after `finish` the search goes on, as a format says
abbrev Ends : {F : Type 0} → Rules F → Type 0
Ends {F} rules =
    (format : F) (scene : Scene) (printed : PrintedCall) (count : ℕ) (binary : Option ℕ)
    → printed.call ≡ finishes count binary → rules.goes_on format scene printed ≡ true

pub standard-ends : Ends standard_rules
standard-ends format scene printed count binary is = rw is refl

pub summary-ends : Ends summary_rules
summary-ends format scene printed count binary is = rw is refl

pub json-ends : {R : Type 0} (text_at : R → TextAt) → Ends (json_rules text_at)
json-ends text_at format scene printed count binary is = refl

pub vimgrep-ends : Ends vimgrep_rules
vimgrep-ends format = standard-ends format.lines

-- `finish` stays the same call where parts are replaced
end-stays : (template : Template) (groups_at : List ℕ → ℕ → List (Option (ℕ × ℕ)))
    (settings : Settings) (meaning : Meaning) (printed : PrintedCall) (count : ℕ)
    (binary : Option ℕ) → printed.call ≡ finishes count binary
    → (replaced_call template groups_at settings meaning printed).call ≡ finishes count binary
end-stays template groups_at settings meaning printed count binary is = rw is refl

pub replaced-ends : {F M : Type 0} (rules : Rules F)
    (groups_at : M → List ℕ → ℕ → List (Option (ℕ × ℕ))) (meaning_of : M → Meaning) → Ends rules
    → Ends (replaced_rules rules groups_at meaning_of)
replaced-ends rules groups_at meaning_of ends format scene printed count binary is =
    ends format.format scene (replaced_call format.template.now (groups_at format.matcher)
    scene.settings (meaning_of format.matcher) printed) count binary
    (end-stays format.template.now (groups_at format.matcher) scene.settings
    (meaning_of format.matcher) printed count binary is)

pub counted-ends : {F : Type 0} (rules : Rules F) → Ends rules → Ends (counted_rules rules)
counted-ends rules ends format scene printed count binary is =
    ends format.format scene printed count binary is
