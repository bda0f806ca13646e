-- The calls that are reports.
use Rattle.std.proofs.Common.{◌≡◌, ℕ, List, Option, refl}
use Rattle.grep_report.specs.SinkReports.{Surroundings}
use Rattle.grep_searcher.specs.Plans.{reported_bytes}
use Rattle.grep_printer.specs.Reports.{reporting_call}
use Rattle.grep_printer.specs.declared.report.ReportKind.{ReportKind}
use Rattle.grep_printer.specs.declared.report.ReportKind.TheVariants.{Match, Context}

-- the bytes of a report are those of its call
pub reported_bytes-report : (kind : ReportKind) (number : Option ℕ) (offset : ℕ) (bytes : List ℕ)
    (around : Surroundings) → reported_bytes (reporting_call kind number offset bytes around) ≡ bytes
reported_bytes-report Match number offset bytes around = refl
reported_bytes-report (Context kind) number offset bytes around = refl
