-- The parts of a call's report, by what is shown of it.
use Rattle.std.proofs.Common.{◌≡◌, ℕ, ◌+◌, ◌-◌, ◌≤◌, List, [], ◌++◌, length, take, drop, Option, Bool, true, false}
use Rattle.std.proofs.Common.{arith, ap, sym, ◌∙◌, refl, subst}
use Rattle.std.proofs.lemmas.List.{drop-drop, length-take-le, take-append-drop}
use Rattle.std.proofs.lemmas.List.Elements.{All-nil, All-weaker}
use Rattle.std.specs.Prelude.{All, ◌<◌, ◌^◌, if◌then◌else◌, slice_range}
use Rattle.grep_searcher.specs.Lines.{strip}
use Rattle.grep_searcher.specs.Meanings.{Meaning}
use Rattle.grep_searcher.specs.Plans.{is_across, reported_bytes, Call, Settings}
use Rattle.grep_printer.proofs.ReportLemmas.{reported_bytes-report}
use Rattle.grep_replace.proofs.SuccessiveLemmas.{parts-below}
use Rattle.grep_printer.specs.CallParts.{HasParts, asked_bytes, asked_start}
use Rattle.grep_printer.specs.CallParts.{parts_of_call, shown_bytes, shown_start}
use Rattle.grep_report.specs.SinkReports.{Surroundings, surroundings}
use Rattle.grep_printer.specs.JsonLaws.{IsWordRange}
use Rattle.grep_replace.specs.MatchedParts.{first_from, parts_in}
use Rattle.grep_printer.specs.Reports.{IsShownAs, call_of, event_call, reporting_call}
use Rattle.grep_printer.specs.SearchMessages.{PartsHaveWords}
use Rattle.grep_printer.specs.declared.format.Event.{Event}
use Rattle.grep_printer.specs.declared.format.Event.TheVariants.{Report as report_event}
use Rattle.grep_printer.specs.declared.report.Report.{Report}
use Rattle.grep_printer.specs.declared.report.ReportKind.{ReportKind}
use Rattle.grep_printer.specs.declared.report.ReportKind.TheVariants.{Match, Context}

-- no parts, if they aren't asked for
pub no-parts : (first_at : List ℕ → ℕ → Option (ℕ × ℕ)) (settings : Settings) (meaning : Meaning) (is_asked : Bool)
    (event : Event) (parts : List (ℕ × ℕ)) → is_asked ≡ false → parts ≡ []
    → HasParts first_at settings meaning is_asked (record { call = event_call event; parts = parts })
no-parts first_at settings meaning is_asked event parts unasked none = rw unasked none

-- those of a report, if they are asked for
pub found-parts : (first_at : List ℕ → ℕ → Option (ℕ × ℕ)) (settings : Settings) (meaning : Meaning) (is_asked : Bool)
    (event : Event) (report : Report) (parts : List (ℕ × ℕ)) → event ≡ report_event report → is_asked ≡ true
    → parts ≡ parts_of_call settings meaning (call_of report) first_at
    → HasParts first_at settings meaning is_asked (record { call = event_call event; parts = parts })
found-parts first_at settings meaning is_asked event report parts is asked found =
    subst (λ e. HasParts first_at settings meaning is_asked
    (record { call = event_call e; parts = parts })) (sym is) (rw asked found)

module _ (number : Option ℕ) (offset : ℕ) (bytes shown : List ℕ) (start : ℕ) where
  -- what is shown before a report and after it
  abbrev around : Surroundings
  around = surroundings shown start (start + length bytes)

  joined : start + length bytes ≤ length shown → bytes ≡ slice_range shown start (start + length bytes)
      → take start shown ++ (bytes ++ drop (start + length bytes) shown) ≡ shown
  joined within is =
      let cut : bytes ≡ take (length bytes) (drop start shown) =
      is ∙ ap (λ n. take n (drop start shown)) (omega arith) in
      ap (λ (rest : List ℕ). take start shown ++ (bytes ++ rest)) (sym (drop-drop (length bytes) start shown))
      ∙ (ap (λ (front : List ℕ). take start shown ++ (front ++ drop (length bytes) (drop start shown))) cut
      ∙ (ap (λ (rest : List ℕ). take start shown ++ rest) (take-append-drop (length bytes) (drop start shown))
      ∙ take-append-drop start shown))

  -- a report with the bytes around it is what is shown
  shown-bytes : (kind : ReportKind) → IsShownAs kind bytes shown start
      → shown_bytes (reporting_call kind number offset bytes around) ≡ shown
  shown-bytes Match is = joined is.0 is.1
  shown-bytes (Context kind) is = sym is.0

  shown-start : (kind : ReportKind) → IsShownAs kind bytes shown start
      → shown_start (reporting_call kind number offset bytes around) ≡ start
  shown-start Match is = length-take-le start shown (omega (arith, is.0))
  shown-start (Context kind) is = sym is.1

  module _ (settings : Settings) (meaning : Meaning) (first_at : List ℕ → ℕ → Option (ℕ × ℕ))
      (kind : ReportKind) (is : IsShownAs kind bytes shown start) where
    -- across lines the matcher is asked about what is shown
    pub across-asked : is_across settings meaning ≡ true
        → asked_bytes settings meaning (reporting_call kind number offset bytes around) ≡ shown
    across-asked across = rw across (shown-bytes kind is)

    -- and the parts are those that are found in it
    pub across-parts : is_across settings meaning ≡ true
        → parts_in (first_from (first_at shown) start) (length shown - start) (length bytes)
        ≡ parts_of_call settings meaning (reporting_call kind number offset bytes around) first_at
    across-parts across =
        ap (λ (line : List ℕ). parts_in (first_from (first_at shown) start) (length shown - start) (length line))
        (sym (reported_bytes-report kind number offset bytes around))
        ∙ rw (across, shown-bytes kind is, shown-start kind is) refl

    -- by line about the line
    pub line-asked : is_across settings meaning ≡ false
        → asked_bytes settings meaning (reporting_call kind number offset bytes around)
        ≡ strip settings.line_terminator bytes
    line-asked across =
        rw across (ap (λ (line : List ℕ). strip settings.line_terminator line)
        (reported_bytes-report kind number offset bytes around))

    pub line-parts : is_across settings meaning ≡ false
        → parts_in (first_from (first_at (strip settings.line_terminator bytes)) 0)
        (length (strip settings.line_terminator bytes) - 0) (length bytes)
        ≡ parts_of_call settings meaning (reporting_call kind number offset bytes around) first_at
    line-parts across =
        ap (λ (line : List ℕ). parts_in (first_from (first_at (strip settings.line_terminator line)) 0)
        (length (strip settings.line_terminator line) - 0) (length line))
        (sym (reported_bytes-report kind number offset bytes around)) ∙ rw across refl

-- the positions of parts are numbers of 64 bits, if the report is so short
pub parts-have-words : PartsHaveWords
parts-have-words first_at settings meaning is_asked printed found has = record {
  call = has;
  ranges = subst (All IsWordRange) (sym found) (go is_asked);
}
  where
    call : Call
    call = printed.call

    parts : List (ℕ × ℕ)
    parts = parts_of_call settings meaning call first_at

    short : length (reported_bytes call) < 2 ^ 64
    short = has.size

    go : (asked : Bool) → All IsWordRange (if asked then parts else [])
    go true = All-weaker (λ range. (range.0 < length (reported_bytes call)) × (range.1 ≤ length (reported_bytes call)))
        IsWordRange (λ range lies. (omega (arith, lies.0, short), omega (arith, lies.1, short))) parts
        (parts-below (first_from (first_at (asked_bytes settings meaning call))
        (asked_start settings meaning call))
        (length (asked_bytes settings meaning call) - asked_start settings meaning call)
        (length (reported_bytes call)))
    go false = All-nil IsWordRange
