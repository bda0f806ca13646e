-- Laws of searches that end at a binary byte.
use Rattle.std.specs.Prelude.{◌≡◌, ℕ, ◌≤◌, true, false, List, ◌++◌, All, length, take, None, Some}
use Rattle.std.specs.Prelude.{Bool, is_some}
use Rattle.grep_matcher.specs.Meanings.{Meaning}
use Rattle.grep_report.specs.declared.binary_detection.BinaryDetection.TheVariants.{Quit}
use Rattle.grep_definitions.specs.Plans.{search_plan, Planned, Settings, reported_bytes, line_plan}
use Rattle.grep_definitions.specs.Searches.{binary_of, position_of, view_of, BinaryPoint}
use Rattle.grep_definitions.specs.Searches.{contents_point, IsCutAt, IsFront}

-- whether a call reports bytes that hold the byte
abbrev pub holds_byte : ℕ → Planned → Bool
holds_byte b call = is_some (position_of b (reported_bytes call.call))

-- no report before the point at which a search of contents ends holds the byte, and no report at
-- all if there is no such point
abbrev pub QuitReportsAreClear : Type 0
QuitReportsAreClear =
    (b : ℕ) (settings : Settings) (meaning : Meaning) (bytes : List ℕ)
    → ((point : BinaryPoint)
    → contents_point b bytes (search_plan settings meaning bytes).calls ≡ Some point
    → All (λ call. holds_byte b call ≡ false)
    (take point.position (search_plan settings meaning bytes).calls))
    × (contents_point b bytes (search_plan settings meaning bytes).calls ≡ None
    → All (λ call. holds_byte b call ≡ false) (search_plan settings meaning bytes).calls)

-- by line, if a byte isn't among the first bytes, no report after which the count is within them
-- holds it
abbrev pub CountedReportsAreClear : Type 0
CountedReportsAreClear =
    (b : ℕ) (settings : Settings) (meaning : Meaning) (bytes : List ℕ) (count : ℕ)
    → position_of b (take count bytes) ≡ None
    → All (λ call. call.if_false.count ≤ count → holds_byte b call ≡ false)
    (line_plan settings meaning bytes).calls

-- by line, if the byte that ends a search isn't among the lines that were seen at the front of an
-- input, no report over them holds it: so none does before an error without `binary_data`
abbrev pub SeenLinesAreClear : Type 0
SeenLinesAreClear =
    (b : ℕ) (settings : Settings) (meaning : Meaning) (bytes seen : List ℕ)
    → settings.binary_detection ≡ Quit b → IsFront settings (view_of settings bytes) seen
    → binary_of settings (take (length seen) bytes) ≡ None
    → All (λ call. holds_byte b call ≡ false) (line_plan settings meaning seen).calls

-- the calls over the lines that were seen before a binary byte begin the calls over the whole view
-- of an input, under settings as built
abbrev pub SeenLinesBegin : Type 0
SeenLinesBegin =
    (settings : Settings) (meaning : Meaning) (bytes seen : List ℕ) (offset : ℕ)
    → (settings.passthru ≡ true → settings.before_context ≡ 0)
    → IsCutAt settings meaning bytes seen offset
    → (later : List Planned)
    × ((line_plan settings meaning (view_of settings bytes)).calls
    ≡ (line_plan settings meaning seen).calls ++ later)
