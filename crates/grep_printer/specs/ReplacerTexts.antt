-- What would replace the match at a position of a call's report, if something would.
use Rattle.std.specs.Prelude.{ℕ, List, Option, None, Some}
use Rattle.grep_searcher.specs.Meanings.{Meaning}
use Rattle.grep_searcher.specs.Plans.{Call, Settings}
use Rattle.grep_printer.specs.ReplacedTexts.{text_in_place}
use Rattle.grep_printer.specs.declared.replacers.NoReplacer.{NoReplacer}
use Rattle.grep_printer.specs.declared.replacers.TemplateReplacer.{TemplateReplacer}

-- what would replace the match at a position, by the settings of the search and the call
abbrev pub TextAt : Type 0
TextAt = Settings → Call → ℕ → Option (List ℕ)

-- no match is replaced
abbrev pub no_text_at : NoReplacer → TextAt
no_text_at replacer settings call position = None

-- each match is replaced by what a template makes of its groups
abbrev pub template_text_at : {M : Type 0} → (M → List ℕ → ℕ → List (Option (ℕ × ℕ)))
    → (M → Meaning) → TemplateReplacer M → TextAt
template_text_at groups_at meaning_of replacer settings call position =
    Some (text_in_place replacer.template.now (groups_at replacer.matcher) settings
    (meaning_of replacer.matcher) call position)

-- each match is replaced as a replacer says, if there is one
abbrev pub optional_text_at : {R : Type 0} → (R → TextAt) → Option R → TextAt
optional_text_at text_at None settings call position = None
optional_text_at text_at (Some replacer) settings call position =
    text_at replacer settings call position
