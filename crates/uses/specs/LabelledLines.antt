-- The lines that a search reports, each after a label.
use Rattle.std.specs.Prelude.{ℕ, List, [], ◌∷◌, ◌++◌}
use Rattle.grep_searcher.specs.Plans.{Call, breaks, context, matches}

-- a label, which no call changes, and the text so far
pub record LabelledText : Type 0 where
  pub label : List ℕ
  pub text : List ℕ

-- a match after the label and a colon, a line near one after the label and a dash, two dashes where
-- lines were left out; nothing for any other call
abbrev pub labelled : List ℕ → Call → List ℕ
labelled label (matches number offset line around) = label ++ 58 ∷ line
labelled label (context kind number offset line) = label ++ 45 ∷ line
labelled label breaks = 45 ∷ 45 ∷ 10 ∷ []
labelled label _ = []
