-- A report as a printer has it, and the call that it is.
use Rattle.std.specs.Prelude.{◌≡◌, ℕ, ◌+◌, ◌<◌, ◌≤◌, ◌^◌, Bool, false, not, List, [], ◌∷◌}
use Rattle.std.specs.Prelude.{codes, length, Option, slice_range}
use Rattle.grep_matcher.specs.Lines.{byte_of}
use Rattle.grep_matcher.specs.declared.line_terminator.LineTerminator.{LineTerminator}
use Rattle.grep_searcher.specs.Lines.{lines, strip}
use Rattle.grep_searcher.specs.Plans.{Call, begins, matches, context, breaks}
use Rattle.grep_searcher.specs.Plans.{binary_data, finishes}
use Rattle.grep_report.specs.SinkReports.{Surroundings, surroundings}
use Rattle.grep_printer.specs.Formats.{PrintedCall}
use Rattle.grep_printer.specs.LineTexts.{end_byte, line_text, lines_text}
use Rattle.grep_replace.specs.MatchedParts.{AreInOrder}
use Rattle.grep_printer.specs.PartTexts.{column_of}
use Rattle.grep_printer.specs.declared.format.Event.{Event}
use Rattle.grep_printer.specs.declared.format.Event.TheVariants.{Begin, Break, BinaryData, Finish}
use Rattle.grep_printer.specs.declared.format.Event.TheVariants.{Report as report_event}
use Rattle.grep_printer.specs.declared.fields.Layout.{Layout}
use Rattle.grep_printer.specs.declared.fields.Place.{Place}
use Rattle.grep_printer.specs.declared.fields.LineKind.{LineKind}
use Rattle.grep_printer.specs.declared.fields.LineKind.TheVariants.{Match as match_line}
use Rattle.grep_printer.specs.declared.fields.LineKind.TheVariants.{Context as context_line}
use Rattle.grep_printer.specs.declared.report.Report.{Report}
use Rattle.grep_printer.specs.declared.report.ReportKind.{ReportKind}
use Rattle.grep_printer.specs.declared.report.ReportKind.TheVariants.{Match, Context}

-- the call that reports bytes with the number of their first line and their offset, and a match
-- with the bytes around it
abbrev pub reporting_call : ReportKind → Option ℕ → ℕ → List ℕ → Surroundings → Call
reporting_call Match number offset bytes around = matches number offset bytes around
reporting_call (Context kind) number offset bytes around = context kind number offset bytes

-- the bytes around those of a report
abbrev pub surroundings_of : Report → Surroundings
surroundings_of report =
    surroundings report.shown.now report.start (report.start + length report.bytes.now)

-- the call of a report
abbrev pub call_of : Report → Call
call_of report =
    reporting_call report.kind report.number report.offset report.bytes.now
    (surroundings_of report)

-- a call of a search
abbrev pub event_call : Event → Call
event_call Begin = begins
event_call (report_event report) = call_of report
event_call Break = breaks
event_call (BinaryData offset) = binary_data offset
event_call (Finish count binary) = finishes count binary

-- the offset at which what it reports ends fits in 64 bits
abbrev pub FitsEvent : Event → Type 0
FitsEvent (report_event report) = report.offset + length report.bytes.now < 2 ^ 64
FitsEvent event = Unit {0}

-- a call with these parts of its report
abbrev pub printed_event : Event → List (ℕ × ℕ) → PrintedCall
printed_event event parts = record {
  call = event_call event;
  parts = parts;
}

-- the bytes of a match lie among those at hand from a position on, and at hand of any other report
-- are its bytes alone
abbrev pub IsShownAs : ReportKind → List ℕ → List ℕ → ℕ → Type 0
IsShownAs Match bytes shown start =
    (start + length bytes ≤ length shown) × (bytes ≡ slice_range shown start (start + length bytes))
IsShownAs (Context kind) bytes shown start = (shown ≡ bytes) × (start ≡ 0)

-- those that are shown, and those of its buffer
pub record IsShown (report : Report) : Type 0 where
  pub shown : IsShownAs report.kind report.bytes.now report.shown.now report.start
  pub buffer : IsShownAs report.kind report.bytes.now report.buffer.now report.buffer_start

abbrev pub IsShownEvent : Event → Type 0
IsShownEvent (report_event report) = IsShown report
IsShownEvent event = Unit {0}

-- what the lines of a report belong to
abbrev pub line_kind : ReportKind → LineKind
line_kind Match = match_line
line_kind (Context kind) = context_line

-- the type of a report's message
abbrev pub type_of : ReportKind → List ℕ
type_of Match = codes "match"
type_of (Context kind) = codes "context"

-- whether the lines of a report match, by whether the search is inverted
abbrev pub kind_has_match : ReportKind → Bool → Bool
kind_has_match Match is_inverted = not is_inverted
kind_has_match (Context kind) is_inverted = is_inverted

-- whether a call reports lines that match
abbrev pub event_has_match : Event → Bool → Bool
event_has_match (report_event report) is_inverted = kind_has_match report.kind is_inverted
event_has_match event is_inverted = false

-- the place of a report, with the column of its first part
abbrev pub report_place : Report → List (ℕ × ℕ) → Place
report_place report parts = record {
  number = report.number;
  column = column_of parts;
  offset = report.offset;
  start = 0;
}

module _ (layout : Layout) (report : Report) (parts : List (ℕ × ℕ)) where
  -- a report without its parts: the lines of a match, or the line that isn't one
  abbrev pub whole_text : ReportKind → List ℕ
  whole_text Match =
      lines_text layout match_line (report_place report parts) parts
      (lines (end_byte layout) report.bytes.now)
  whole_text (Context kind) =
      line_text layout context_line (report_place report parts) parts report.bytes.now

-- a report is a match of one line that has its terminator, into which no part reaches
pub record HasPlainParts (terminator : LineTerminator) (report : Report) (parts : List (ℕ × ℕ))
    : Type 0 where
  pub is_match : report.kind ≡ Match
  pub line : lines (byte_of terminator) report.bytes.now ≡ report.bytes.now ∷ []
  pub ended : length (strip terminator report.bytes.now) < length report.bytes.now
  pub within : AreInOrder 0 (length (strip terminator report.bytes.now)) parts
