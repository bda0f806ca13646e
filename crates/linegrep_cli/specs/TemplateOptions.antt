-- The template that options ask for.
use Rattle.std.specs.Prelude.{◌≡◌, ℕ, List, Option, None, Some}
use Rattle.std.specs.Borrow.{Bor}
use Rattle.std.specs.Option.{option_copied}
use Rattle.grep_regex.specs.Groups.{group_names}
use Rattle.grep_regex.specs.Views.{regex_options, regex_patterns}
use Rattle.grep_regex.specs.declared.regex.Regex.{Regex}
use Rattle.grep_replace.specs.Templates.{AreReadFrom}
use Rattle.grep_replace.specs.declared.template.Template.{Template}
use Rattle.linegrep_cli.specs.declared.options.Options.{Options}

-- the text that is read as a template, if there is one
abbrev pub IsReadFrom : List (Option (List ℕ)) → Option (Bor (List ℕ)) → Template → Type 0
IsReadFrom names None template = ⊥
IsReadFrom names (Some text) template = AreReadFrom names text.now template.pieces.items

-- the template is what options ask for, if they ask for one, with the groups of a regular
-- expression
abbrev pub IsTemplate : Options → Regex → Option Template → Type 0
IsTemplate options regex None = options.replace ≡ None
IsTemplate options regex (Some template) =
    IsReadFrom (group_names (regex_options regex) (regex_patterns regex)) options.replace template

-- a lent template is what options ask for
abbrev pub IsTemplateLent : Options → Regex → Option (Bor Template) → Type 0
IsTemplateLent options regex lent = IsTemplate options regex (option_copied lent)
