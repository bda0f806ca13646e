-- What contracts see of a compiled expression.
use Rattle.std.specs.Prelude.{◌≡◌, ℕ, List, Option, is_some, option_map}
use Rattle.std.specs.Arc.{arc_value}
use Rattle.regex_hir.specs.Meaning.{meaning}
use Rattle.regex_hir.specs.Re.{Re}
use Rattle.regex_meta.specs.declared.program.Program.{Program}
use Rattle.regex_meta.specs.declared.searcher.Searcher.{Searcher}
use Rattle.grep_matcher.specs.Meanings.{Meaning}
use Rattle.grep_regex.specs.Groups.{groups_at, text_groups_at}
use Rattle.grep_regex.specs.Patterns.{first_match_at, text_match_at, meaning_of}
use Rattle.grep_regex.specs.Programs.{capturing_program}
use Rattle.grep_regex.specs.declared.asked.Asked.{Asked}
use Rattle.grep_regex.specs.declared.asked.Asked.TheVariants.{FirstMatch, AnyMatch, Start}
use Rattle.grep_regex.specs.declared.engine.Engine.{Engine}
use Rattle.grep_regex.specs.declared.matcher.RegexMatcher.{RegexMatcher}
use Rattle.grep_regex.specs.declared.options.Options.{Options}
use Rattle.grep_regex.specs.declared.programs.Programs.{Programs}
use Rattle.grep_regex.specs.declared.regex.Regex.{Regex}

-- its options, and the texts of its patterns
abbrev pub regex_options : Regex → Options
regex_options r = (arc_value r.shared).options

abbrev pub regex_patterns : Regex → List (List ℕ)
regex_patterns r = (arc_value r.shared).patterns

-- what was compiled: what finds matches, and what finds their groups
abbrev pub regex_programs : Regex → Programs
regex_programs r = (arc_value r.shared).programs

abbrev pub regex_program : Regex → Program
regex_program r = (arc_value r.shared).programs.finding

abbrev pub regex_capturing : Regex → Program
regex_capturing r = capturing_program (arc_value r.shared).programs

-- what a searcher searches for

abbrev pub searcher_program : Searcher → Program
searcher_program s = s.program.now

-- the pattern of what finds matches
abbrev pub program_re : Regex → Re
program_re r = meaning (arc_value r.shared).programs.finding.hir

-- the first match of a text, all of which is seen, that starts at a position or after it
abbrev pub regex_text_at : Regex → List ℕ → ℕ → Option (ℕ × ℕ)
regex_text_at r = text_match_at (regex_options r) (regex_patterns r)

-- the first match of a haystack that starts at a position or after it
abbrev pub regex_first_at : Regex → List ℕ → ℕ → Option (ℕ × ℕ)
regex_first_at r = first_match_at (regex_options r) (regex_patterns r)

-- the groups of such matches
abbrev pub regex_text_groups_at : Regex → List ℕ → ℕ → List (Option (ℕ × ℕ))
regex_text_groups_at r = text_groups_at (regex_options r) (regex_patterns r)

abbrev pub regex_groups_at : Regex → List ℕ → ℕ → List (Option (ℕ × ℕ))
regex_groups_at r = groups_at (regex_options r) (regex_patterns r)

-- the first match of a haystack
abbrev pub regex_first : Regex → List ℕ → Option (ℕ × ℕ)
regex_first r haystack = regex_first_at r haystack 0

-- what is found is the first match; for `AnyMatch` it is some pair exactly if there is a match, and
-- for `Start` one that starts where the match does
abbrev pub IsAnswer : Asked → Option (ℕ × ℕ) → Option (ℕ × ℕ) → Type 0
IsAnswer FirstMatch first found = found ≡ first
IsAnswer AnyMatch first found = is_some found ≡ is_some first
IsAnswer Start first found = option_map (λ m. m.0) found ≡ option_map (λ m. m.0) first

-- the expression for which an engine was made
abbrev pub engine_regex : Engine → Regex
engine_regex engine = engine.regex.now

-- what the matchers of an expression mean
abbrev pub regex_meaning : Regex → Meaning
regex_meaning r = meaning_of (regex_options r) (regex_patterns r)

-- the expression has these options and these texts
abbrev pub IsNamed : Options → List (List ℕ) → Regex → Type 0
IsNamed options patterns r = (regex_options r ≡ options) × (regex_patterns r ≡ patterns)

-- the expression of a matcher
abbrev pub matcher_regex : RegexMatcher → Regex
matcher_regex m = m.shortcut.regex.now
