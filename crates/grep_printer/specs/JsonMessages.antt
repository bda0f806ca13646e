-- The messages of a printer of JSON, as values.
use Rattle.std.specs.Prelude.{ℕ, ◌+◌, ◌-◌, ◌/◌, ◌%◌, ◌^◌, false, if◌then◌else◌, List, [], ◌∷◌, ◌++◌}
use Rattle.std.specs.Prelude.{codes}
use Rattle.std.specs.Prelude.{decimal, Option, None, Some, slice_range}
use Rattle.std.specs.Fmt.{format_spec, padded_integral}
use Rattle.std.specs.Borrow.{Bor}
use Rattle.std.specs.Str.{is_utf8}
use Rattle.base64.specs.Engines.{standard}
use Rattle.base64.specs.GeneralPurpose.{encode_of}
use Rattle.json.specs.Json.{Json, null, number, string, array, object, Items, no_items, item}
use Rattle.json.specs.Json.{Members, no_members, member}
use Rattle.json.specs.Print.{print}
use Rattle.json.specs.Tree.{json_tokens}
use Rattle.grep_printer.specs.declared.stats.Stats.{Stats}

-- a number
abbrev pub number_json : ℕ → Json
number_json n = number (decimal n)

-- a number if there is one
abbrev pub optional_json : Option ℕ → Json
optional_json None = null
optional_json (Some n) = number_json n

-- a text as the only member of an object
abbrev pub wrapped_json : List ℕ → List ℕ → Json
wrapped_json name text = object (member name (string text) no_members)

-- a text
abbrev pub text_json : List ℕ → Json
text_json = wrapped_json (codes "text")

-- bytes in base64
abbrev pub base64_json : List ℕ → Json
base64_json = wrapped_json (codes "bytes")

-- bytes: a text if they are UTF-8, or else in base64
unfoldable pub bytes_json : List ℕ → Json
bytes_json bytes =
    if is_utf8 bytes then text_json bytes else base64_json (encode_of standard bytes)

-- a path if there is one
abbrev pub path_json : Option (Bor (List ℕ)) → Json
path_json None = null
path_json (Some path) = text_json path.now

-- some members, after one that says what would replace a match, if something would
abbrev pub with_replacement : Option (List ℕ) → Members → Members
with_replacement None later = later
with_replacement (Some text) later = member (codes "replacement") (bytes_json text) later

-- a match in a report, with what would replace it, if something would, and its positions in the
-- report
unfoldable pub submatch_json : List ℕ → Option (List ℕ) → ℕ × ℕ → Json
submatch_json bytes text range =
    object (member (codes "match") (bytes_json (slice_range bytes range.0 range.1))
    (with_replacement text (member (codes "start") (number_json range.0)
    (member (codes "end") (number_json range.1) no_members))))

-- the matches in a report, by what would replace the match at a position
abbrev pub submatch_items : List ℕ → (ℕ → Option (List ℕ)) → List (ℕ × ℕ) → Items
submatch_items bytes text_at [] = no_items
submatch_items bytes text_at (range ∷ later) =
    item (submatch_json bytes (text_at range.0) range) (submatch_items bytes text_at later)

-- a number in six digits at least, as `{:06}` writes it
abbrev pub six_digits : ℕ → List ℕ
six_digits n = padded_integral (format_spec 32 0 4 6 (2 ^ 64 - 1)) false [] (decimal n)

-- microseconds as seconds
abbrev pub seconds_text : ℕ → List ℕ
seconds_text micros =
    decimal (micros / 1000000) ++ (codes "." ++ (six_digits (micros % 1000000) ++ codes "s"))

-- a time in nanoseconds
unfoldable pub time_json : ℕ → Json
time_json nanos =
    object (member (codes "secs") (number_json (nanos / 1000000000))
    (member (codes "nanos") (number_json (nanos % 1000000000))
    (member (codes "human") (string (seconds_text ((nanos + 500) / 1000))) no_members)))

-- counts
unfoldable pub stats_json : Stats → Json
stats_json stats =
    object (member (codes "elapsed") (time_json stats.elapsed)
    (member (codes "searches") (number_json stats.searches)
    (member (codes "searches_with_match") (number_json stats.searches_with_match)
    (member (codes "bytes_searched") (number_json stats.bytes_searched)
    (member (codes "bytes_printed") (number_json stats.bytes_printed)
    (member (codes "matched_lines") (number_json stats.matched_lines)
    (member (codes "matches") (number_json stats.matches) no_members)))))))

-- a message, by its type and its members
abbrev pub message_json : List ℕ → Members → Json
message_json type members =
    object (member (codes "type") (string type)
    (member (codes "data") (object members) no_members))

-- the message that a search begins
unfoldable pub begin_json : Option (Bor (List ℕ)) → Json
begin_json path = message_json (codes "begin") (member (codes "path") (path_json path) no_members)

-- the message of a report, by its type, its bytes, the number of its first line, its offset, its
-- matches, and what would replace the match at a position
unfoldable pub report_json : List ℕ → Option (Bor (List ℕ)) → List ℕ → Option ℕ → ℕ
    → (ℕ → Option (List ℕ)) → List (ℕ × ℕ) → Json
report_json type path bytes line_number offset text_at ranges =
    message_json type (member (codes "path") (path_json path)
    (member (codes "lines") (bytes_json bytes)
    (member (codes "line_number") (optional_json line_number)
    (member (codes "absolute_offset") (number_json offset)
    (member (codes "submatches") (array (submatch_items bytes text_at ranges)) no_members)))))

-- the message that a search has ended
unfoldable pub end_json : Option (Bor (List ℕ)) → Option ℕ → Stats → Json
end_json path binary stats =
    message_json (codes "end") (member (codes "path") (path_json path)
    (member (codes "binary_offset") (optional_json binary)
    (member (codes "stats") (stats_json stats) no_members)))

-- the message about all searches, with how long all took
unfoldable pub summary_json : Stats → ℕ → Json
summary_json stats total =
    message_json (codes "summary") (member (codes "elapsed_total") (time_json total)
    (member (codes "stats") (stats_json stats) no_members))

-- a message in a line of its own
unfoldable pub json_line : Json → List ℕ
json_line message = print (json_tokens message) ++ 10 ∷ []
