-- Where matched lines are.
use Rattle.std.specs.Prelude.{ℕ, List, length, map}
use Rattle.grep_searcher.specs.Meanings.{Meaning}
use Rattle.grep_searcher.specs.Plans.{Call, Settings, line, matches, start}
use Rattle.grep_searcher.specs.SearchLaws.{matched_lines}

-- of a match, the offset of its first byte, and how many bytes it has
abbrev pub span_of : Call → ℕ × ℕ
span_of (matches number offset line around) = (offset, length line)
span_of _ = (0, 0)

-- of each matched line, in order, the offset of its first byte, and how many bytes it has
abbrev pub matched_spans : Settings → Meaning → List ℕ → List (ℕ × ℕ)
matched_spans settings meaning bytes =
    map (λ i. (start settings bytes i, length (line settings bytes i)))
    (matched_lines settings meaning bytes)
