-- What these callers return, said of the matched lines: those that are selected, or trailing after
-- a selected one.
use Rattle.std.specs.Prelude.{◌≡◌, ℕ, ◌+◌, List, length, map, Option, slice_get, Some, take}
use Rattle.std.specs.List.{flat_map}
use Rattle.grep_searcher.specs.declared.LineTerminator.{LineTerminator}
use Rattle.grep_searcher.specs.declared.LineTerminator.TheVariants.{Byte}
use Rattle.grep_searcher.specs.BoundedReads.{IsReadUpTo}
use Rattle.grep_searcher.specs.HitLines.{kept_hits}
use Rattle.grep_searcher.specs.Lines.{strip}
use Rattle.grep_searcher.specs.MatchHandlers.{KeptReport, kept_line}
use Rattle.grep_searcher.specs.Meanings.{Meaning}
use Rattle.grep_searcher.specs.Plans.{line, reported_bytes, search_plan, Settings}
use Rattle.grep_searcher.specs.SearchLaws.{match_calls, matched_lines}
use Rattle.grep_searcher.specs.Searches.{IsInput, Taken}
use Rattle.grep_searcher.specs.Source.{ReadResult}
use Rattle.uses.specs.PlainSettings.{held_to}

-- the first matched lines, at most n, with their numbers, their offsets and their bytes
abbrev pub first_lines : ℕ → Settings → Meaning → List ℕ → List KeptReport
first_lines n settings meaning bytes =
    map (kept_line settings bytes) (take n (matched_lines settings meaning bytes))

-- these are the first matched lines of a reader, at most n, whatever follows what was taken of it
abbrev pub AreFirstLines : {R : Type 0} → (R → Option (List ℕ)) → (R → ReadResult → R → Type 0) → ℕ
    → Settings → Meaning → R → List KeptReport → R → Type 0
AreFirstLines remaining read_step n settings meaning reader found reader' =
    (taken : Taken remaining read_step reader reader')
    × ((bytes : List ℕ) → IsInput settings taken.ended taken.pieces bytes
    → found ≡ first_lines n settings meaning bytes)

-- the bytes of the matched lines, joined
abbrev pub matched_bytes : Settings → Meaning → List ℕ → List ℕ
matched_bytes settings meaning bytes =
    flat_map (line settings bytes) (matched_lines settings meaning bytes)

-- the number and the text of each matched line, in order
abbrev pub numbered_lines_of : Settings → Meaning → List ℕ → List (ℕ × List ℕ)
numbered_lines_of settings meaning bytes =
    map (λ i. (i + 1, line settings bytes i)) (matched_lines settings meaning bytes)

-- the first match in a line, without its terminator; and that is a line feed
abbrev pub first_in_line : LineTerminator → Meaning → List ℕ → Option (ℕ × ℕ)
first_in_line terminator meaning line = meaning.first (strip terminator line)

abbrev pub first_in : Meaning → List ℕ → Option (ℕ × ℕ)
first_in = first_in_line (Byte 10)

-- the lines that are reported as matches, and the first match in each
abbrev pub lines_of_matches : Settings → Meaning → List ℕ → List (List ℕ)
lines_of_matches settings meaning bytes =
    map reported_bytes (match_calls (search_plan settings meaning bytes).calls)

abbrev pub firsts_in_matches : Settings → Meaning → List ℕ → List (Option (ℕ × ℕ))
firsts_in_matches settings meaning bytes =
    map (first_in_line settings.line_terminator meaning) (lines_of_matches settings meaning bytes)

-- the first line that hits is found in an input that is searched as it is, if there is one; and of
-- the input, of which this is left, at most so many bytes, and three, were read beyond that line
abbrev pub IsFirstLine : ℕ → Meaning → List ℕ → Option (List ℕ) → Option KeptReport → Type 0
IsFirstLine limit meaning input left found =
    (found ≡ slice_get (kept_hits (held_to limit) meaning input) 0)
    × ((line : KeptReport) → found ≡ Some line
    → IsReadUpTo input left (line.offset + length line.bytes + limit + 3))
