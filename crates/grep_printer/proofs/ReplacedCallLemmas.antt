-- Calls in which parts are replaced.
use Rattle.std.proofs.Common.{◌≡◌, ℕ, List, [], ◌∷◌, refl, ap, sym, ◌∙◌}
use Rattle.grep_replace.specs.declared.template.Template.{Template}
use Rattle.grep_searcher.specs.Meanings.{Meaning}
use Rattle.grep_searcher.specs.Plans.{Call, Settings}
use Rattle.grep_searcher.specs.Plans.{reported_bytes}
use Rattle.std.proofs.Common.{Option}
use Rattle.grep_printer.proofs.ReportLemmas.{reported_bytes-report}
use Rattle.grep_printer.specs.CallParts.{asked_bytes, asked_start}
use Rattle.grep_report.specs.SinkReports.{Surroundings}
use Rattle.grep_printer.specs.Formats.{PrintedCall}
use Rattle.grep_replace.specs.ReplacedBytes.{replaced_bytes, replaced_parts}
use Rattle.grep_printer.specs.ReplacedTexts.{end_of_line, ended, replaced_by, replaced_call, replaced_report}
use Rattle.grep_printer.specs.ReplacedTexts.{replacement_at, text_in_place, with_bytes}
use Rattle.grep_printer.specs.Reports.{call_of, event_call, reporting_call, surroundings_of}
use Rattle.grep_printer.specs.declared.format.Event.{Event}
use Rattle.grep_printer.specs.declared.format.Event.TheVariants.{Report as report_event}
use Rattle.grep_printer.specs.declared.report.Report.{Report}
use Rattle.grep_printer.specs.declared.replaced.Replacement.{Replacement}
use Rattle.grep_printer.specs.declared.report.ReportKind.{ReportKind}
use Rattle.grep_printer.specs.declared.report.ReportKind.TheVariants.{Match, Context}

module _ (template : Template) (groups_at : List ℕ → ℕ → List (Option (ℕ × ℕ))) (settings : Settings)
    (meaning : Meaning) (printed : PrintedCall) where
  -- a report with parts is replaced
  pub report-replaced : (kind : ReportKind) (number : Option ℕ) (offset : ℕ) (bytes : List ℕ) (around : Surroundings)
      (part : ℕ × ℕ) (later : List (ℕ × ℕ))
      → replaced_by template groups_at settings meaning printed (reporting_call kind number offset bytes around)
      (part ∷ later)
      ≡ replaced_report template groups_at settings meaning (reporting_call kind number offset bytes around)
      (part ∷ later)
  report-replaced Match number offset bytes around part later = refl
  report-replaced (Context kind) number offset bytes around part later = refl

-- what a part is replaced by, by its definition
replacement-is : {M : Type 0} (groups_at : M → List ℕ → ℕ → List (Option (ℕ × ℕ))) (r : Replacement M)
    (template : Template) (matcher : M) (settings : Settings) (meaning : Meaning) (call : Call)
    → r.template.now ≡ template → r.matcher ≡ matcher → r.asked.now ≡ asked_bytes settings meaning call
    → r.start ≡ asked_start settings meaning call
    → replacement_at groups_at r ≡ text_in_place template (groups_at matcher) settings meaning call
replacement-is groups_at r template matcher settings meaning call one two three four =
    rw (one, two, three, four) refl

abbrev made_call : Call → List (ℕ × ℕ) → PrintedCall
made_call call parts = record { call = call; parts = parts }

module _ (template : Template) (groups_at : List ℕ → ℕ → List (Option (ℕ × ℕ))) (settings : Settings)
    (meaning : Meaning) where
  -- the call of a report with parts
  pub event-replaced : (event : Event) (report : Report) (parts : List (ℕ × ℕ)) → event ≡ report_event report
      → (parts ≡ [] → ⊥)
      → replaced_call template groups_at settings meaning
      (record { call = event_call event; parts = parts })
      ≡ replaced_report template groups_at settings meaning (call_of report) parts
  event-replaced event report [] is some = absurd (some refl)
  event-replaced event report (part ∷ later) is some =
      ap (λ e. replaced_call template groups_at settings meaning
      (record { call = event_call e; parts = part ∷ later })) is
      ∙ report-replaced template groups_at settings meaning
      (record { call = call_of report; parts = part ∷ later })
      report.kind report.number report.offset report.bytes.now (surroundings_of report) part later

  -- a report with other bytes and parts is one in which each part is replaced, if these are so
  report-is : (call : Call) (parts : List (ℕ × ℕ)) (text_at : ℕ → List ℕ) (end : Option ℕ)
      (call' : Call) (parts' : List (ℕ × ℕ)) (bytes' : List ℕ)
      → text_at ≡ text_in_place template groups_at settings meaning call → end ≡ end_of_line settings meaning
      → call' ≡ with_bytes call bytes'
      → bytes' ≡ ended end (replaced_bytes text_at (reported_bytes call) 0 parts)
      → parts' ≡ replaced_parts text_at 0 0 parts
      → made_call call' parts'
      ≡ replaced_report template groups_at settings meaning call parts
  report-is call parts text_at end call' parts' bytes' text last one two three =
      rw (one, two, three, text, last) refl

-- so is what was made of a report by what its parts are replaced by
pub replaced-is : {M : Type 0} (groups_at : M → List ℕ → ℕ → List (Option (ℕ × ℕ))) (r : Replacement M)
    (template : Template) (matcher : M) (settings : Settings) (meaning : Meaning) (report made : Report)
    (parts put : List (ℕ × ℕ)) (bytes : List ℕ) → r.template.now ≡ template → r.matcher ≡ matcher
    → r.asked.now ≡ asked_bytes settings meaning (call_of report)
    → r.start ≡ asked_start settings meaning (call_of report)
    → r.end ≡ end_of_line settings meaning
    → call_of made ≡ with_bytes (call_of report) bytes
    → bytes ≡ ended r.end (replaced_bytes (replacement_at groups_at r) report.bytes.now 0 parts)
    → put ≡ replaced_parts (replacement_at groups_at r) 0 0 parts
    → made_call (call_of made) put
    ≡ replaced_report template (groups_at matcher) settings meaning (call_of report) parts
replaced-is groups_at r template matcher settings meaning report made parts put bytes one two three four last call same
    ranges =
    report-is template (groups_at matcher) settings meaning (call_of report) parts
    (replacement_at groups_at r) r.end (call_of made) put bytes
    (replacement-is groups_at r template matcher settings meaning (call_of report) one two three
    four) last call
    (same ∙ ap (λ (b : List ℕ). ended r.end (replaced_bytes (replacement_at groups_at r) b 0 parts))
    (sym (reported_bytes-report report.kind report.number report.offset report.bytes.now (surroundings_of report)))) ranges
