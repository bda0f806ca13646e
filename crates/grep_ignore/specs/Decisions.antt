-- What the rules of an ignore file say of a path: the last rule that is about it decides.
use Rattle.std.specs.Prelude.{◌≡◌, ℕ, ◌+◌, ◌<◌, ◌≤◌, ◌⊎◌, Bool, true, if◌then◌else◌, List, length}
use Rattle.std.specs.Prelude.{slice_index_or, ◌∷◌, ◌++◌, Option}
use Rattle.grep_ignore.specs.Endings.{IsLastAbout}
use Rattle.grep_ignore.specs.Matches.{Matches}
use Rattle.grep_ignore.specs.declared.rules.Decision.{Decision}
use Rattle.grep_ignore.specs.declared.rules.Decision.TheVariants.{Ignored, Kept, Unmatched}
use Rattle.grep_ignore.specs.declared.rules.Rule.{Rule}

-- a rule matches what is at a path, which is a folder if the rule is about folders alone
abbrev pub IsAbout : List ℕ → Bool → Rule → Type 0
IsAbout path is_folder rule =
    (rule.names_folders ≡ true → is_folder ≡ true) × Matches rule.wildcards path

-- what a rule says of what it is about
abbrev pub decision_of : Rule → Decision
decision_of rule = if rule.keeps then Kept else Ignored

-- the rule that decides of what is at a path: the last that is about it, if there is one
abbrev pub IsLastRule : List Rule → List ℕ → Bool → Option Rule → Type 0
IsLastRule rules = IsLastAbout (λ rule path is_folder. IsAbout path is_folder rule) rules

-- no rule from a position on is about what is at a path
abbrev pub NoneFrom : ℕ → List Rule → List ℕ → Bool → Type 0
NoneFrom start rules path is_folder = (k : ℕ) (rule : Rule) → start ≤ k → k < length rules
    → IsAbout path is_folder (slice_index_or rules k rule) → ⊥

-- the decision is that of the last rule that is about what is at a path, or that there is none
abbrev pub IsDecided : List Rule → List ℕ → Bool → Decision → Type 0
IsDecided rules path is_folder decision =
    ((decision ≡ Unmatched) × NoneFrom 0 rules path is_folder)
    ⊎ ((last : ℕ) × (rule : Rule) × (last < length rules) × (slice_index_or rules last rule ≡ rule)
    × IsAbout path is_folder rule × (decision ≡ decision_of rule)
    × NoneFrom (last + 1) rules path is_folder)

-- what is at a path is left out if the rules leave it out, or a folder on the way to it: nothing
-- below such a folder comes back
abbrev pub IsLeftOut : List Rule → List ℕ → Bool → Type 0
IsLeftOut rules path is_folder = IsDecided rules path is_folder Ignored
    ⊎ ((folder : List ℕ) × (rest : List ℕ) × (path ≡ folder ++ 47 ∷ rest)
    × IsDecided rules folder true Ignored)
