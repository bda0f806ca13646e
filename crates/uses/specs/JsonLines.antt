-- Matches as lines of JSON.
use Rattle.std.specs.Prelude.{ℕ, List, [], ◌∷◌, ◌++◌, codes, unwrap_or}
use Rattle.std.specs.Str.Lossy.{utf8_lossy}
use Rattle.serde_json.specs.Data.{Data, string, number, unsigned, object, member, no_members}
use Rattle.serde_json.specs.Written.{compact_text}
use Rattle.grep_searcher.specs.Plans.{Call, matches}

-- a number, an offset and a text
abbrev pub json_data : ℕ → ℕ → List ℕ → Data
json_data n offset text =
    object (member (codes "line") (number (unsigned n))
    (member (codes "offset") (number (unsigned offset))
    (member (codes "text") (string text) no_members)))

-- these in JSON, where what isn't UTF-8 is replaced in the text
abbrev pub json_text : ℕ → ℕ → List ℕ → List ℕ
json_text n offset line = compact_text (json_data n offset (utf8_lossy line))

-- the line of a match: the number of its first line, or 0 if lines aren't numbered, its offset, and
-- its text
abbrev pub json_of : Call → List ℕ
json_of (matches n offset line around) = json_text (unwrap_or n 0) offset line ++ 10 ∷ []
json_of _ = []
