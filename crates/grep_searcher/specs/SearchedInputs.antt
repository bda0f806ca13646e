-- What is searched of an input.
use Rattle.std.specs.Prelude.{◌≡◌, ◌⊎◌, ℕ, false, List, None}
use Rattle.grep_decode.specs.Decoded.{marked}
use Rattle.grep_definitions.specs.Plans.{Settings}
use Rattle.grep_definitions.specs.Searches.{searched_bytes}

-- without a label, and if no mark is looked for, or the input begins with none, it is the input
-- itself
abbrev pub InputIsSearched : Type 0
InputIsSearched =
    (settings : Settings) (input : List ℕ) → settings.encoding ≡ None
    → (settings.bom_sniffing ≡ false) ⊎ (marked input ≡ None)
    → searched_bytes settings input ≡ input
