-- What a reader of JSON makes of the messages of a printer.
use Rattle.std.specs.Prelude.{◌≡◌, ◌≢◌, ℕ, ◌<◌, ◌^◌, All, List, [], ◌∷◌, ◌++◌, Option, None, Some}
use Rattle.std.specs.Borrow.{Bor}
use Rattle.std.specs.Option.{IfSome}
use Rattle.base64.specs.GeneralPurpose.{IsBytes}
use Rattle.json.specs.Json.{Json, document}
use Rattle.grep_printer.specs.JsonMessages.{begin_json, end_json, json_line, report_json}
use Rattle.grep_printer.specs.JsonMessages.{summary_json}
use Rattle.grep_printer.specs.declared.stats.Stats.{Stats}

-- a line is a text and a line feed. The text has no line feed itself, and is read as a message
pub record IsLineOf (message : Json) (line : List ℕ) : Type 0 where
  pub text : List ℕ
  pub ended : line ≡ text ++ 10 ∷ []
  pub unbroken : All (λ b. b ≢ 10) text
  pub read : document text ≡ Some message

-- each count is a number of 64 bits
pub record AreWords (stats : Stats) : Type 0 where
  pub elapsed : stats.elapsed < 2 ^ 64
  pub searches : stats.searches < 2 ^ 64
  pub searches_with_match : stats.searches_with_match < 2 ^ 64
  pub bytes_searched : stats.bytes_searched < 2 ^ 64
  pub bytes_printed : stats.bytes_printed < 2 ^ 64
  pub matched_lines : stats.matched_lines < 2 ^ 64
  pub matches : stats.matches < 2 ^ 64

-- the positions of a range are numbers of 64 bits
abbrev pub IsWordRange : ℕ × ℕ → Type 0
IsWordRange range = (range.0 < 2 ^ 64) × (range.1 < 2 ^ 64)

-- a report as its message has it, with what would replace the match at a position, if something
-- would
pub record Reported : Type 0 where
  pub type : List ℕ
  pub path : Option (Bor (List ℕ))
  pub bytes : List ℕ
  pub number : Option ℕ
  pub offset : ℕ
  pub text_at : ℕ → Option (List ℕ)
  pub ranges : List (ℕ × ℕ)

-- the numbers of a report have 64 bits
pub record IsReport (report : Reported) : Type 0 where
  pub bytes : IsBytes report.bytes
  pub number : IfSome report.number (λ n. n < 2 ^ 64)
  pub offset : report.offset < 2 ^ 64
  pub ranges : All IsWordRange report.ranges

-- the message of a report
abbrev pub message_of_report : Reported → Json
message_of_report report =
    report_json report.type report.path report.bytes report.number report.offset
    report.text_at report.ranges

-- the text of a path, if there is one
abbrev pub path_text : Option (Bor (List ℕ)) → Option (List ℕ)
path_text None = None
path_text (Some path) = Some path.now

-- two texts are there, and are the same if they are bytes, or neither is there
abbrev pub AreSameTexts : Option (List ℕ) → Option (List ℕ) → Type 0
AreSameTexts None None = Unit {0}
AreSameTexts (Some a) (Some b) = IsBytes a → IsBytes b → a ≡ b
AreSameTexts a b = ⊥

-- two reports are the same
pub record IsSameReport (a b : Reported) : Type 0 where
  pub type : a.type ≡ b.type
  pub path : path_text a.path ≡ path_text b.path
  pub bytes : a.bytes ≡ b.bytes
  pub number : a.number ≡ b.number
  pub offset : a.offset ≡ b.offset
  pub ranges : a.ranges ≡ b.ranges
  pub texts : All (λ range. AreSameTexts (a.text_at range.0) (b.text_at range.0)) a.ranges

-- the lines of messages are read back as these messages
pub record MessagesAreReadBack : Type 0 where
  pub begin : (path : Option (Bor (List ℕ)))
      → IsLineOf (begin_json path) (json_line (begin_json path))
  pub report : (report : Reported) → IsReport report
      → IsLineOf (message_of_report report) (json_line (message_of_report report))
  pub end : (path : Option (Bor (List ℕ))) (binary : Option ℕ) (stats : Stats)
      → IfSome binary (λ n. n < 2 ^ 64) → AreWords stats
      → IsLineOf (end_json path binary stats) (json_line (end_json path binary stats))
  pub summary : (stats : Stats) (total : ℕ) → AreWords stats → total < 2 ^ 64
      → IsLineOf (summary_json stats total) (json_line (summary_json stats total))

-- a message tells all of its report: no other report has it
abbrev pub MessagesTell : Type 0
MessagesTell =
    (a b : Reported) → IsReport a → IsReport b → message_of_report a ≡ message_of_report b
    → IsSameReport a b

-- the message that begins a search tells its path, and is that of no report
pub record BeginsTell : Type 0 where
  pub path : (a b : Option (Bor (List ℕ))) → begin_json a ≡ begin_json b
      → path_text a ≡ path_text b
  pub other : (path : Option (Bor (List ℕ))) (report : Reported)
      → begin_json path ≢ message_of_report report
