-- The messages of a printer of JSON and their pieces, as the code has them.
use Rattle.std.specs.Prelude.{ℕ, List, [], ◌∷◌, ◌++◌, codes, decimal, length, Option, None}
use Rattle.std.specs.Prelude.{Some}
use Rattle.std.specs.Borrow.{Bor}
use Rattle.grep_matcher.specs.Lines.{byte_of}
use Rattle.grep_searcher.specs.Lines.{lines}
use Rattle.grep_searcher.specs.Plans.{Settings}
use Rattle.json.specs.Json.{Json}
use Rattle.json.specs.Token.{Token}
use Rattle.json.specs.Tree.{json_tokens}
use Rattle.grep_printer.specs.JsonMessages.{begin_json, bytes_json, end_json, optional_json}
use Rattle.grep_printer.specs.JsonMessages.{path_json, report_json, summary_json}
use Rattle.grep_printer.specs.JsonTexts.{report_line, with_match, with_text}
use Rattle.grep_printer.specs.ReplacerTexts.{TextAt}
use Rattle.grep_printer.specs.Reports.{call_of, type_of}
use Rattle.grep_printer.specs.declared.json_lines.Message.{Message}
use Rattle.grep_printer.specs.declared.json_lines.Message.TheVariants.{Begin, End, Summary}
use Rattle.grep_printer.specs.declared.json_printer.JsonProgress.{JsonProgress}
use Rattle.grep_printer.specs.declared.messages.Replacements.{Replacements}
use Rattle.grep_printer.specs.declared.report.Report.{Report}
use Rattle.grep_printer.specs.declared.report.ReportKind.{ReportKind}
use Rattle.grep_printer.specs.declared.report.ReportKind.TheVariants.{Match, Context}
use Rattle.grep_printer.specs.declared.json_text.Piece.{Piece}
use Rattle.grep_printer.specs.declared.json_text.Piece.TheVariants.{Open, Close, OpenArray}
use Rattle.grep_printer.specs.declared.json_text.Piece.TheVariants.{CloseArray, Key, Text, Optional}
use Rattle.grep_printer.specs.declared.json_text.Piece.TheVariants.{Count}

-- the tokens of a piece
abbrev pub piece_tokens : Piece → List Token
piece_tokens Open = Token.begin_object ∷ []
piece_tokens Close = Token.end_object ∷ []
piece_tokens OpenArray = Token.begin_array ∷ []
piece_tokens CloseArray = Token.end_array ∷ []
piece_tokens (Key name) = Token.key name.now ∷ []
piece_tokens (Text text) = Token.string text.now ∷ []
piece_tokens (Optional number) = json_tokens (optional_json number)
piece_tokens (Count name count) = Token.key name.now ∷ Token.number (decimal count) ∷ []

-- the tokens of some pieces
abbrev pub pieces_tokens : List Piece → List Token
pieces_tokens [] = []
pieces_tokens (piece ∷ later) = piece_tokens piece ++ pieces_tokens later

-- the first members of a message: its type, and the path that it is about
abbrev pub head_tokens : List ℕ → Option (Bor (List ℕ)) → List Token
head_tokens type path =
    Token.begin_object ∷ Token.key (codes "type") ∷ Token.string type ∷ Token.key (codes "data")
    ∷ Token.begin_object ∷ Token.key (codes "path") ∷ json_tokens (path_json path)

-- the end of a message
abbrev pub last_tokens : List Token
last_tokens = Token.end_object ∷ Token.end_object ∷ []

-- what would replace a match, if something would
abbrev pub replacement_tokens : Option (List ℕ) → List Token
replacement_tokens None = []
replacement_tokens (Some text) = Token.key (codes "replacement") ∷ json_tokens (bytes_json text)

-- what would replace the match at a position of a report, if something would
abbrev pub texts_in : {R A : Type 0} → (R → TextAt) → Replacements R A → Report → ℕ
    → Option (List ℕ)
texts_in text_at replacements report =
    text_at replacements.replacer replacements.searcher.now.settings (call_of report)

-- the message of a report, by the path, the matches in the report, and what would replace the match
-- at a position
abbrev pub report_of : Option (Bor (List ℕ)) → Report → (ℕ → Option (List ℕ)) → List (ℕ × ℕ) → Json
report_of path report text_at ranges =
    report_json (type_of report.kind) path report.bytes.now report.number report.offset text_at
    ranges

-- a message
abbrev pub message_of : Message → Json
message_of (Begin path) = begin_json path
message_of (End path binary stats) = end_json path binary stats
message_of (Summary stats total) = summary_json stats total

-- what was reported so far, after a report of some lines in which the matcher matches some times
abbrev pub with_matches : ReportKind → JsonProgress → ℕ → ℕ → JsonProgress
with_matches Match progress line_count match_count = with_match progress line_count match_count
with_matches (Context kind) progress line_count match_count = progress

-- the text of a report, by the path, what was reported before, the matches in the report, and what
-- would replace the match at a position
abbrev pub report_text : Option (Bor (List ℕ)) → JsonProgress → Report → (ℕ → Option (List ℕ))
    → List (ℕ × ℕ) → List ℕ
report_text path progress report text_at ranges =
    report_line path progress (type_of report.kind) report.bytes.now report.number report.offset
    text_at ranges

-- what was reported so far, after that report under some settings
abbrev pub after_report : Settings → Option (Bor (List ℕ)) → JsonProgress → Report
    → (ℕ → Option (List ℕ)) → List (ℕ × ℕ) → JsonProgress
after_report settings path progress report text_at ranges =
    with_matches report.kind (with_text progress (report_text path progress report text_at ranges))
    (length (lines (byte_of settings.line_terminator) report.bytes.now)) (length ranges)
