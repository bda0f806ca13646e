-- The outline of a search.
use Rattle.std.specs.Prelude.{ℕ, List, [], ◌∷◌}
use Rattle.grep_searcher.specs.Plans.{Call, matches, context, breaks}

-- `>` for a match, a space for a line near one, `-` where lines were left out; nothing for any
-- other call
abbrev pub outline_part : Call → List ℕ
outline_part (matches number offset line around) = 62 ∷ []
outline_part (context kind number offset line) = 32 ∷ []
outline_part breaks = 45 ∷ []
outline_part _ = []
