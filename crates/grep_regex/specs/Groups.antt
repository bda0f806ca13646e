-- The groups of the matches of patterns.
use Rattle.std.specs.Prelude.{◌≡◌, ℕ, ◌+◌, ◌-◌, ◌*◌, ◌^◌, ◌&&◌, if◌then◌else◌, min, nat_le, List}
use Rattle.std.specs.Prelude.{[], ◌∷◌, length, Option, None, Some, chars}
use Rattle.std.specs.Option.{option_map_or}
use Rattle.regex_hir.specs.Find.{Match}
use Rattle.regex_hir.specs.Re.{Re}
use Rattle.regex_syntax.specs.Brackets.{Nested}
use Rattle.regex_syntax.specs.Grammar.{Names, read}
use Rattle.regex_vm.specs.Found.{group_cells, span}
use Rattle.grep_regex.specs.Clear.{find_clear}
use Rattle.grep_regex.specs.Patterns.{config_of, excluded_bytes, first_match_at}
use Rattle.grep_regex.specs.Patterns.{most_groups, text_of, written_re}
use Rattle.grep_regex.specs.Seen.{seen_bytes}
use Rattle.grep_regex.specs.declared.options.Options.{Options}

-- how many groups a match has, that of the whole match included: as many as one of the patterns has
abbrev pub group_count : Options → List (List ℕ) → ℕ
group_count o patterns = min (most_groups o patterns) (2 ^ 32 - 1)

-- the group with these cells, if it takes part in the match and lies in so many bytes: each cell is
-- the position of an end and one more, or 0
abbrev pub group_of_cells : ℕ → ℕ → ℕ → Option (ℕ × ℕ)
group_of_cells size first last =
    if nat_le 1 first && (nat_le first last && nat_le last (size + 1))
    then Some (first - 1, last - 1)
    else None

-- groups by their cells, two for each
abbrev pub groups_of_cells : ℕ → List ℕ → List (Option (ℕ × ℕ))
groups_of_cells size [] = []
groups_of_cells size (first ∷ []) = []
groups_of_cells size (first ∷ (last ∷ cells)) =
    group_of_cells size first last ∷ groups_of_cells size cells

-- so many groups of a match in so many bytes: the match, and those of the parts of the pattern that
-- have a number
abbrev pub groups_of_match : ℕ → ℕ → Match → List (Option (ℕ × ℕ))
groups_of_match size count m = Some (span m) ∷ groups_of_cells size (group_cells m (2 * count - 2))

-- the groups of the first match of a text, all of which is seen, that starts at a position or after
-- it: of the match that `text_match_at` gives by its span, those that the pattern writes on the way
-- that it prefers
abbrev pub text_groups_at : Options → List (List ℕ) → List ℕ → ℕ → List (Option (ℕ × ℕ))
text_groups_at o patterns text start =
    option_map_or (groups_of_match (length text) (group_count o patterns))
    (find_clear (excluded_bytes o.line_terminator) (written_re o patterns) text start) []

-- the groups of the first match of a haystack that starts at a position or after it
abbrev pub groups_at : Options → List (List ℕ) → List ℕ → ℕ → List (Option (ℕ × ℕ))
groups_at o patterns haystack start =
    text_groups_at o patterns (seen_bytes o.line_terminator haystack) start

-- that match alone
abbrev pub whole_at : Options → List (List ℕ) → List ℕ → ℕ → List (Option (ℕ × ℕ))
whole_at o patterns haystack start =
    option_map_or (λ m. Some m ∷ []) (first_match_at o patterns haystack start) []

-- the whole match is the only group of each match
abbrev pub HasOneGroup : Options → List (List ℕ) → Type 0
HasOneGroup o patterns = (haystack : List ℕ) (start : ℕ) →
    groups_at o patterns haystack start ≡ whole_at o patterns haystack start

-- the names of the groups that were read, by their numbers
abbrev pub names_in : Option (Nested Re × Names) → Names
names_in None = []
names_in (Some (re, names)) = names

-- the names of the groups of one pattern; of several no group has a name
abbrev pub group_names : Options → List (List ℕ) → Names
group_names o [] = []
group_names o (pattern ∷ []) = names_in (read (config_of o) (chars (text_of o pattern)))
group_names o (pattern ∷ (other ∷ patterns)) = []
