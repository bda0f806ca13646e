-- What the rules of several ignore files say of a path: the first that says something decides.
use Rattle.std.specs.Prelude.{◌≡◌, ℕ, ◌<◌, ◌≤◌, ◌⊎◌, Bool, true, false, if◌then◌else◌, List, length}
use Rattle.std.specs.Prelude.{Option, Some, None, nat_le, drop, insert, slice_index_or}
use Rattle.grep_ignore.specs.Decisions.{IsDecided, IsLastRule}
use Rattle.grep_ignore.specs.declared.layers.Decider.{Decider}
use Rattle.grep_ignore.specs.declared.layers.Layer.{Layer}
use Rattle.grep_ignore.specs.declared.layers.Origin.{Origin}
use Rattle.grep_ignore.specs.declared.layers.Origin.TheVariants.{RgIgnore, Ignore, GitIgnore}
use Rattle.grep_ignore.specs.declared.layers.Origin.TheVariants.{GitExclude, GitGlobal, Named}
use Rattle.grep_ignore.specs.declared.rules.Decision.{Decision}
use Rattle.grep_ignore.specs.declared.rules.Decision.TheVariants.{Unmatched}
use Rattle.grep_ignore.specs.declared.rules.Rule.{Rule}

-- the order of origins: rules of a lower rank decide before those of a higher one
abbrev pub rank_of : Origin → ℕ
rank_of RgIgnore = 0
rank_of Ignore = 1
rank_of GitIgnore = 2
rank_of GitExclude = 3
rank_of GitGlobal = 4
rank_of Named = 5

-- whether rules count, by the depth of the repository that a path is in, if it is in one: git's own
-- count in a repository, and those of its folders from its top on
abbrev pub counts_from : Option ℕ → Origin → ℕ → Bool
counts_from repository RgIgnore depth = true
counts_from repository Ignore depth = true
counts_from None GitIgnore depth = false
counts_from None GitExclude depth = false
counts_from None GitGlobal depth = false
counts_from (Some top) GitIgnore depth = nat_le top depth
counts_from (Some top) GitExclude depth = nat_le top depth
counts_from (Some top) GitGlobal depth = true
counts_from repository Named depth = true

-- where the path begins that rules are about: in the folder of their file, or for those that belong
-- to no folder where the program runs
abbrev pub start_of : ℕ → Layer → ℕ
start_of start layer = if nat_le 4 (rank_of layer.origin) then start else layer.start

-- what the rules of a layer say of a path: nothing if they don't count
abbrev pub Says : List ℕ → Bool → ℕ → Option ℕ → Layer → Decision → Type 0
Says path is_folder start repository layer decision =
    ((counts_from repository layer.origin layer.depth ≡ true)
    × IsDecided layer.rules (drop (start_of start layer) path) is_folder decision)
    ⊎ ((counts_from repository layer.origin layer.depth ≡ false) × (decision ≡ Unmatched))

-- the layers before a position say nothing
abbrev pub AreSilent : List ℕ → Bool → ℕ → Option ℕ → List Layer → ℕ → Type 0
AreSilent path is_folder start repository layers end = (k : ℕ) (layer : Layer) → k < end
    → Says path is_folder start repository (slice_index_or layers k layer) Unmatched

-- the rule that decides of a path, if there is one: in the first layer that says something of it,
-- the last rule that is about it
pub data IsDecider (path : List ℕ) (is_folder : Bool) (start : ℕ) (repository : Option ℕ)
    (layers : List Layer) : Option Decider → Type 0 where
  of_none : AreSilent path is_folder start repository layers (length layers)
      → IsDecider path is_folder start repository layers None
  of_rule : (first : ℕ) (layer : Layer) (rule : Rule) → first < length layers
      → slice_index_or layers first layer ≡ layer
      → counts_from repository layer.origin layer.depth ≡ true
      → IsLastRule layer.rules (drop (start_of start layer) path) is_folder (Some rule)
      → AreSilent path is_folder start repository layers first
      → IsDecider path is_folder start repository layers
      (Some (record { keeps = rule.keeps; layer = first; line = rule.number }))

-- a layer is put before those of its origin, and after those that decide before it
abbrev pub IsInserted : List Layer → Layer → List Layer → Type 0
IsInserted old layer new = (at : ℕ) × (at ≤ length old) × (new ≡ insert old at layer)
    × ((k : ℕ) (other : Layer) → k < at
    → rank_of (slice_index_or old k other).origin < rank_of layer.origin)
    × ((other : Layer) → at < length old
    → rank_of layer.origin ≤ rank_of (slice_index_or old at other).origin)
